-- Where what two turns of the master follow comes before the second of them, a request that three turns of the master follow is decided.
use Rattle.std.proofs.Common.{◌≡◌, ℕ, ◌+◌, ◌-◌, ◌<◌, ◌≤◌, Bool, true, false, if◌then◌else◌, ◌⊎◌, inl, inr, Option, Some, None, List, [], ◌∷◌, ◌++◌, map, length, reverse, refl, sym, ap, ◌∙◌, subst, arith, append_assoc, eq-eqb}
use Rattle.std.specs.Prelude.{◌==◌, ◌&&◌, nat_lt, count_by, drop, slice_get}
use Rattle.std.specs.List.{list_any}
use Rattle.std.proofs.lemmas.Bool.Decides.{nat_tests}
use Rattle.std.proofs.lemmas.List.{length-map}
use Rattle.std.proofs.lemmas.List.Sums.{sum_by-cons}
use Rattle.dcp_types.specs.declared.addresses.Address.{Address}
use Rattle.dcp_ends.specs.Logs.{same_address}
use Rattle.dcp_ends.specs.declared.entries.LogEntry.{LogEntry}
use Rattle.dcp_ends.specs.declared.entries.LogEntry.TheVariants.{Sent, Got, Idle, Turn}
use Rattle.pdu_layout.specs.Reading.{message_in}
use Rattle.slave_desc.specs.declared.descriptions.SlaveDesc.{SlaveDesc}
use Rattle.scenario.specs.declared.scenarios.Scenario.{Scenario}
use Rattle.scenario.specs.Sound.{IsScenario}
use Rattle.log_spec.specs.Messages.{Note, Role, Answer}
use Rattle.log_spec.specs.Log.{Parties, IsSlaveOf, same, role_heard, requests_sent, DecidedRequest}
use Rattle.log_spec.specs.Moves.{Move, Rests, Hears, Other, got_move, move, decided_after, decided_exchanges}
use Rattle.log_spec.proofs.Moves.{same_is, same_self}
use Rattle.lockstep_laws.specs.Cast.{ConversingSlaves}
use Rattle.lockstep_laws.specs.Runs.{Behaves}
use Rattle.lockstep_laws.specs.Models.Scenarios.{slave_numbered}
use Rattle.lockstep_laws.proofs.Conversation.{drop_later}
use Rattle.lockstep_laws.proofs.Models.Scenarios.{has_parties}
use Rattle.slave_spec.specs.Transport as transport
use Rattle.slave_spec.specs.Plants.{Plant}
use Rattle.slave_spec.specs.Slaves.{machine}
use Rattle.slave_laws.specs.Talk.Desks.{at}
use Rattle.slave_laws.specs.Data.Whole.{slaves_asked}
use Rattle.master_spec.specs.declared.setups.Slave.{Slave}
use Rattle.master_spec.specs.declared.setups.Setup.{Setup}
use Rattle.master_spec.specs.Requests.{Asking, Decision, asks, is_turn_of, turns_before}
use Rattle.master_spec.specs.Setup.{setup_from, slave_of}
use Rattle.master_log_laws.specs.Index.Runs.{IsRun}
use Rattle.master_log_laws.specs.Index.Laws.{AreHeard}
use Rattle.master_log_laws.specs.Phases.Laws.{AreOneByOne}
use Rattle.master_log_laws.proofs.Index.ByEntry.{entry_by_entry}
use Rattle.master_log_laws.proofs.Phases.Numbered.{one_by_one}
use Rattle.master_log_laws.proofs.Failures.Turns.{turns_rise}
use Rattle.master_log_laws.proofs.Scenarios.Heard.{setups_heard}
use Rattle.master_laws.specs.Meets.Laws.{note_of}
use Rattle.master_laws.specs.Hears.Laws.{IsDecision, AreDecisions}
use Rattle.master_laws.proofs.Meets.Asking.{are_asked}
use Rattle.master_laws.proofs.Hears.Decided.{are_told}
use Rattle.run_laws.specs.Laws.{parties, slave_setup_of, IsRunInRounds}
use Rattle.run_laws.proofs.Rounded.{rounds_are_runs}
use Rattle.run_laws.proofs.Runs.{party, are_parties}
use Rattle.run_laws.proofs.Headline.Behaving.{are_slaves}
use Rattle.run_laws.proofs.Headline.Moments.{so_far}
use Rattle.completeness_laws.specs.Unheard.{NeverGets, IsAnsweredInVain}
use Rattle.completeness_laws.proofs.Delivery.Ended.{numbered_at, run_front}
use Rattle.completeness_laws.proofs.Delivery.Growing.{extends_same, decided_grow}
use Rattle.completeness_laws.proofs.Delivery.Sessions.{is_over_exchange}
use Rattle.completeness_laws.proofs.Delivery.Turning.{turns_of, turns_append, Splits, Within, Beyond, splits}
use Rattle.completeness_laws.proofs.Delivery.Unanswered.{decided_length}
use Rattle.completeness_laws.proofs.Delivery.Unheard.{FirstSent, first_sent, MidFacts, mid_facts, why_unheard}
use Rattle.completeness_laws.proofs.Delivery.Whole.{nothing_owed}
use Rattle.completeness_laws.proofs.Timely.Firsts.{firsts, IsGrown, grown}
use Rattle.completeness_laws.proofs.Timely.Prompt.{turns_later}
use Rattle.completeness_laws.specs.Quiet.{ComesIn}
use Rattle.completeness_laws.proofs.Quiet.Fronts.{address_is, address_self}
use Rattle.completeness_laws.proofs.Quiet.Going.{goes_on}
use Rattle.completeness_laws.proofs.Quiet.Soon.{CameSoon}

-- ---- lists put together in another order
-- a front of what follows is behind what stood before
pub after_front : (all later log u v : List LogEntry) → all ≡ later ++ log → log ≡ u ++ v → all ≡ (later ++ u) ++ v
after_front all later log u v e f = e ∙ ap (λ (z : List LogEntry). later ++ z) f ∙ sym (append_assoc later u v)

-- the last part goes with the second of two
pub joined : (log part x y base : List LogEntry) (t : LogEntry) → log ≡ part ++ base → part ≡ x ++ t ∷ y → log ≡ x ++ t ∷ (y ++ base)
joined log part x y base t e f = e ∙ ap (λ (z : List LogEntry). z ++ base) f ∙ append_assoc x (t ∷ y) base

-- split once more, at a later entry
pub outer : (log q y x z base : List LogEntry) (t u : LogEntry) → log ≡ q ++ t ∷ (y ++ base) → y ≡ x ++ u ∷ z → log ≡ (q ++ t ∷ x) ++ u ∷ (z ++ base)
outer log q y x z base t u e f = after_front log q (t ∷ (y ++ base)) (t ∷ x) (u ∷ (z ++ base)) e (ap (λ (w : List LogEntry). t ∷ w) (joined (y ++ base) y x z base u refl f))

-- split at an entry of the last of three
inner : (log q y x z after before base : List LogEntry) (t u : LogEntry) → log ≡ q ++ t ∷ (y ++ base) → y ≡ x ++ t ∷ z → z ≡ after ++ u ∷ before → log ≡ q ++ t ∷ ((x ++ t ∷ after) ++ u ∷ (before ++ base))
inner log q y x z after before base t u e f g =
    e ∙ ap (λ (w : List LogEntry). q ++ t ∷ w) (joined (y ++ base) y (x ++ t ∷ after) before base u refl (f ∙ ap (λ (w : List LogEntry). x ++ t ∷ w) g ∙ sym (append_assoc x (t ∷ after) (u ∷ before))))

-- two entries alone, each behind its part
moved : (log x y b a base : List LogEntry) (t : LogEntry) → log ≡ x ++ t ∷ (y ++ base) → y ≡ b ++ t ∷ a → log ≡ (x ++ t ∷ []) ++ (((b ++ t ∷ []) ++ a) ++ base)
moved log x y b a base t e f =
    after_front log x (t ∷ (y ++ base)) (t ∷ []) (((b ++ t ∷ []) ++ a) ++ base) e (ap (λ (z : List LogEntry). t ∷ (z ++ base)) (f ∙ sym (append_assoc b (t ∷ []) a)))

-- an entry of the first two parts, and all behind it
regrouped : (log later b a u rest x y base : List LogEntry) (t g : LogEntry) → log ≡ later ++ ((b ++ a) ++ base) → a ≡ u ++ t ∷ rest → b ++ u ≡ x ++ g ∷ y → log ≡ (later ++ x) ++ (g ∷ (y ++ t ∷ rest) ++ base)
regrouped log later b a u rest x y base t g e f h =
    after_front log later ((b ++ a) ++ base) x (g ∷ (y ++ t ∷ rest) ++ base) e
    (joined ((b ++ a) ++ base) (b ++ a) x (y ++ t ∷ rest) base g refl (joined (b ++ a) (b ++ u) x y (t ∷ rest) g (ap (λ (z : List LogEntry). b ++ z) f ∙ sym (append_assoc b u (t ∷ rest))) h))

-- ---- a request that came, and whose answers came
module _ (sc : Scenario) (other : SlaveDesc) (ok : IsScenario sc) (s : ℕ) (it : IsSlaveOf (parties sc other) s) (n : Note) (ns : List Note) (log : List LogEntry) (all : Behaves (parties sc other) (slaves_asked sc other) log) (run : IsRun (setup_from sc) log)
    (asked_now : requests_sent (parties sc other) s log ≡ n ∷ ns) (decided_now : length (decided_exchanges (parties sc other) s log) ≡ length ns) (not_over : list_any is_over_exchange (decided_exchanges (parties sc other) s log) ≡ true → ⊥) (sent : FirstSent sc other ok s it log n ns) where
  abbrev W : Parties
  W = parties sc other

  abbrev X : ConversingSlaves
  X = slaves_asked sc other

  abbrev M : transport.Machine Plant
  M = machine (slave_setup_of sc other s)

  abbrev First : List LogEntry
  First = Sent W.master (W.slave s) sent.bytes ∷ sent.earlier

  abbrev Facts : List LogEntry → Type 0
  Facts z = MidFacts sc other ok s it n ns log all run asked_now decided_now not_over sent z

  -- what is known at each moment since it was first sent
  facts : (later mid : List LogEntry) → log ≡ later ++ (mid ++ First) → Facts (mid ++ First)
  facts later mid e = mid_facts sc other ok s it n ns log all run asked_now decided_now not_over sent later mid e

  -- no answer to it came to the master, since none decided
  never_came : (later mid : List LogEntry) (bytes : List ℕ) (a : Note) → role_heard W bytes ≡ Answer s a → a.number ≡ n.number → log ≡ later ++ (Got W.master (W.slave s) bytes ∷ mid ++ First) → ⊥
  never_came later mid bytes a read num split =
      let e : LogEntry = Got W.master (W.slave s) bytes in
      let f = facts later (e ∷ mid) split in
      let g = facts (later ++ e ∷ []) mid (split ∙ sym (append_assoc later (e ∷ []) (mid ++ First))) in
      let mv = heard_move (same W.master (W.slave s)) (same W.master W.master) (same (W.slave s) (W.slave s)) (s == s) apart_it (same_self W.master) (same_self (W.slave s)) (eq-eqb s s refl) in
      let is_move : move W s e ≡ Hears a = ap (λ (k : Role). got_move W s W.master (W.slave s) k) read ∙ mv in
      let l = decided_more (requests_sent W s (mid ++ First)) (decided_exchanges W s (mid ++ First)) g.asked g.decided in
      let h = ap (λ (m : Move). length (decided_after m (requests_sent W s (mid ++ First)) (decided_exchanges W s (mid ++ First)))) is_move in
      let d = f.decided in
      omega (arith, l, h, d)
    where
      apart_it : same W.master (W.slave s) ≡ false
      apart_it = by (same W.master (W.slave s)) refl
        where
          by : (b : Bool) → same W.master (W.slave s) ≡ b → b ≡ false
          by false z = refl
          by true z = absurd ((has_parties sc other ok message_in).apart.master s it (sym (same_is W.master (W.slave s) z)))

      heard_move : (p q r t : Bool) → p ≡ false → q ≡ true → r ≡ true → t ≡ true → (if p then Rests else (if (q && r) && t then Hears a else Other)) ≡ Hears a
      heard_move p q r t e f g h = grind arith

      decided_more : (rs : List Note) (ds : List DecidedRequest) → rs ≡ n ∷ ns → length ds ≡ length ns → length (decided_after (Hears a) rs ds) ≡ length ns + 1
      decided_more rs ds e l =
          let P : List Note → Type 0 = λ z. length (decided_after (Hears a) z ds) ≡ length ns + 1 in
          subst P (sym e) (ap (λ (b : Bool). length (if b && (a.number == n.number) then record { request = n; answer = a } ∷ ds else ds)) below ∙ ap (λ (b : Bool). length (if b then record { request = n; answer = a } ∷ ds else ds)) (eq-eqb a.number n.number num) ∙ size)
        where
          below : nat_lt (length ds) (length (n ∷ ns)) ≡ true
          below = grind (arith, nat_tests, l)

          size : length (record { request = n; answer = a } ∷ ds) ≡ length ns + 1
          size = omega (arith, l)

  -- where the slave has sent all, the request has not come to it, or an answer of it has not come
  at_middle : (later mid : List LogEntry) → log ≡ later ++ (mid ++ First) → (at M W s (mid ++ First)).desk.owed ≡ [] → NeverGets W s n mid ⊎ IsAnsweredInVain W s n mid
  at_middle later mid split none =
      let f = facts later mid split in
      let d = f.decided in
      let e = ap (decided_exchanges W s) split in
      let few = ap length e in
      let now = decided_now in
      let grown_by = decided_grow W s later (mid ++ First) in
      let same_decided = e ∙ extends_same (decided_exchanges W s (later ++ (mid ++ First))) (decided_exchanges W s (mid ++ First)) grown_by (omega (arith, few, now, d)) in
      why_unheard sc other ok s it n ns (mid ++ First) f.behaves f.run_so f.asked f.decided (λ h. not_over (ap (list_any is_over_exchange) same_decided ∙ h))
      (record { receiver = sent.receiver; bytes = sent.bytes; since = mid; earlier = sent.earlier; split = refl; read = sent.read; before = sent.before; here = sent.here }) none

  -- so the request did not come to the slave and all its answers to the master
  pub not_both : (later b a : List LogEntry) → log ≡ later ++ ((b ++ a) ++ First) → (at M W s (a ++ First)).desk.owed ≡ [] → ComesIn (W.slave s) W.master sent.bytes a
      → ((after before : List LogEntry) (bytes : List ℕ) → a ≡ after ++ Sent (W.slave s) W.master bytes ∷ before → ComesIn W.master (W.slave s) bytes (b ++ after)) → ⊥
  not_both later b a split none came answers = by (at_middle (later ++ b) a first_split none)
    where
      first_split : log ≡ (later ++ b) ++ (a ++ First)
      first_split = split ∙ ap (λ (z : List LogEntry). later ++ z) (append_assoc b a First) ∙ sym (append_assoc later b (a ++ First))

      by : NeverGets W s n a ⊎ IsAnsweredInVain W s n a → ⊥
      by (inl never) = never came.before came.after (Got (W.slave s) W.master sent.bytes) came.is (record { bytes = sent.bytes; receiver = sent.receiver; is = refl; read = sent.read })
      by (inr v) =
          let u = v.under_way in
          let rest = u.before ++ v.entry ∷ v.before in
          let parts : a ≡ u.after ++ Sent (W.slave s) W.master v.bytes ∷ rest = v.is ∙ ap (λ (z : List LogEntry). z ++ v.entry ∷ v.before) u.is ∙ append_assoc u.after (Sent (W.slave s) W.master v.bytes ∷ u.before) (v.entry ∷ v.before) in
          let c = answers u.after rest v.bytes parts in
          let tail = Sent (W.slave s) W.master v.bytes ∷ rest in
          never_came (later ++ c.before) (c.after ++ tail) v.bytes v.answer v.read v.number (regrouped log later b a u.after rest c.before c.after First (Sent (W.slave s) W.master v.bytes) (Got W.master (W.slave s) v.bytes) split parts c.is)

-- ---- turns in a part
-- a part with more turns than so many, split at the one after them
pub record IsTurnAfter (m : Address) (k : ℕ) (part : List LogEntry) : Type 0 where
  pub after : List LogEntry
  pub before : List LogEntry
  pub is : part ≡ after ++ Turn m ∷ before
  pub as_many : turns_of m before ≡ k

-- such a turn is there where the part has more turns
pub turn_after : (m : Address) (k : ℕ) (part : List LogEntry) → k < turns_of m part → IsTurnAfter m k part
turn_after m k [] h = absurd (omega (arith, h))
turn_after m k (e ∷ part) h = by e h (λ z. turn_after m k part z)
  where
    on : (e : LogEntry) → IsTurnAfter m k part → IsTurnAfter m k (e ∷ part)
    on e t = record { after = e ∷ t.after; before = t.before; is = ap (λ (z : List LogEntry). e ∷ z) t.is; as_many = t.as_many }

    here : (at' : Address) (b : Bool) → same_address at' m ≡ b → k < (if b then 1 else 0) + turns_of m part → (k < turns_of m part → IsTurnAfter m k part) → IsTurnAfter m k (Turn at' ∷ part)
    here at' false z l f = on (Turn at') (f (omega (arith, l)))
    here at' true z l f = two (more k (turns_of m part) l)
      where
        more : (i j : ℕ) → i < 1 + j → (i < j) ⊎ (j ≡ i)
        more i j h = grind arith

        two : (k < turns_of m part) ⊎ (turns_of m part ≡ k) → IsTurnAfter m k (Turn at' ∷ part)
        two (inl l) = on (Turn at') (f l)
        two (inr q) = record { after = []; before = part; is = ap (λ (a : Address). Turn a ∷ part) (address_is at' m z); as_many = q }

    by : (e : LogEntry) → k < turns_of m (e ∷ part) → (k < turns_of m part → IsTurnAfter m k part) → IsTurnAfter m k (e ∷ part)
    by (Sent from to bytes) l f = on (Sent from to bytes) (f (omega (arith, l)))
    by (Got at' from bytes) l f = on (Got at' from bytes) (f (omega (arith, l)))
    by (Idle at') l f = on (Idle at') (f (omega (arith, l)))
    by (Turn at') l f = here at' (same_address at' m) refl l f

-- what stands before an entry of a part has no more turns than the part
pub turns_within : (m : Address) (part x y : List LogEntry) (g : LogEntry) → part ≡ x ++ g ∷ y → turns_of m y ≤ turns_of m part
turns_within m part x y g e =
    let a = ap (turns_of m) e ∙ turns_append m x (g ∷ y) in
    let b = turns_append m (g ∷ []) y in
    omega (arith, a, b)

-- the turns of a part, counted in two ways
turns_counted : (m : Address) (p : List LogEntry) → count_by (is_turn_of m) p ≡ turns_of m p
turns_counted m [] = refl
turns_counted m (e ∷ p) = let h = turns_counted m p in let k = sum_by-cons (λ (z : LogEntry). if is_turn_of m z then 1 else 0) e p in omega (arith, h, k)

-- the turns before the end are all
turns_all : (m : Address) (p : List LogEntry) → turns_before m p (length p) ≡ turns_of m p
turns_all m p = let z : length p - length p ≡ 0 = omega arith in ap (λ (i : ℕ). count_by (is_turn_of m) (drop i p)) z ∙ turns_counted m p

-- those before a place, and those after it
pub turns_split : (m : Address) (since : List LogEntry) (e : LogEntry) (earlier : List LogEntry) → turns_before m (since ++ e ∷ earlier) (length (since ++ e ∷ earlier)) ≡ turns_of m since + turns_of m (e ∷ []) + turns_before m (since ++ e ∷ earlier) (length earlier)
turns_split m since e earlier =
    let a = turns_all m (since ++ e ∷ earlier) in
    let b = turns_append m since (e ∷ earlier) in
    let c = turns_append m (e ∷ []) earlier in
    let d : turns_before m (since ++ e ∷ earlier) (length earlier) ≡ turns_before m earlier (length earlier) = ap (λ (z : List LogEntry). turns_before m z (length earlier)) (sym (append_assoc since (e ∷ []) earlier)) ∙ turns_later m (since ++ e ∷ []) earlier (length earlier) (omega arith) in
    let f = turns_all m earlier in
    omega (arith, a, b, c, d, f)

-- ---- the newest request, where it is not decided
module _ (sc : Scenario) (other : SlaveDesc) (ok : IsScenario sc) (whole : List LogEntry) (r : IsRunInRounds sc other whole) (s : ℕ) (it : IsSlaveOf (parties sc other) s) where
  abbrev V : Parties
  V = parties sc other

  abbrev S : Setup
  S = setup_from sc

  abbrev L : Slave
  L = slave_of sc s (slave_numbered sc other s)

  heard : AreHeard S
  heard = (setups_heard sc ok).heard

  -- what is known of a front of the log
  pub behaves_at : (later log : List LogEntry) → reverse whole ≡ later ++ log → Behaves V (slaves_asked sc other) log
  behaves_at later log split = drop_later V (slaves_asked sc other) (are_slaves sc other ok) later log (so_far sc other ok whole (rounds_are_runs sc other ok whole r) later log split)

  -- the master goes by its rules in it
  pub runs_at : (later log : List LogEntry) → reverse whole ≡ later ++ log → IsRun S log
  runs_at later log split = let P : List LogEntry → Type 0 = λ z. IsRun S z in run_front S later log (subst P split (entry_by_entry sc whole r.master))

  -- a front in which all but its newest turn of the master brought what they had to
  module _ (later log : List LogEntry) (split : reverse whole ≡ later ++ log) (new old : List LogEntry) (parts : log ≡ new ++ old) (one : turns_of V.master new ≤ 1) (soon : CameSoon V.master old) (b : Asking) (bs : List Asking) (told : asks S.address L log ≡ b ∷ bs) (free : b.decision ≡ None) where
    abbrev m : Address
    m = V.master

    abbrev n : Note
    n = note_of s b

    abbrev ns : List Note
    ns = map (note_of s) bs

    -- all ends behave up to here
    all : Behaves V (slaves_asked sc other) log
    all = behaves_at later log split

    -- the master goes by its rules up to here
    run : IsRun S log
    run = runs_at later log split

    -- the newest request that was sent is this one
    asked_now : requests_sent V s log ≡ n ∷ ns
    asked_now = are_asked S heard V (are_parties sc other ok) log run s it L (party sc other ok s it) ∙ ap (map (note_of s)) told

    -- the exchanges are those of the requests before it
    decisions : AreDecisions s bs (decided_exchanges V s log)
    decisions =
        let P : List Asking → Type 0 = λ x. AreDecisions s x (decided_exchanges V s log) in
        let Q : Option Decision → Type 0 = λ o. IsDecision s b o (AreDecisions s bs) (decided_exchanges V s log) in
        subst Q free (subst P told (are_told S heard V (are_parties sc other ok) log run s it L (party sc other ok s it)))

    -- the requests go one by one
    order : AreOneByOne (b ∷ bs)
    order = let P : List Asking → Type 0 = λ x. AreOneByOne x in subst P told (one_by_one S heard log run (s - 1) L (numbered_at sc other ok s it))

    -- so all requests before it are decided, and it is not
    decided_now : length (decided_exchanges V s log) ≡ length ns
    decided_now = decided_length s bs (decided_exchanges V s log) (order.1).0 decisions ∙ sym (length-map bs (note_of s))

    -- no exchange has ended the session
    not_over : list_any is_over_exchange (decided_exchanges V s log) ≡ true → ⊥
    not_over = goes_on sc other ok s it log run b bs told free

    -- its first sending
    sent : FirstSent sc other ok s it log n ns
    sent = first_sent sc other ok s it log n ns asked_now

    abbrev Asked : List LogEntry
    Asked = Sent m (V.slave s) sent.bytes ∷ sent.earlier

    -- where it was first sent
    there : log ≡ (sent.since ++ Sent m (V.slave s) sent.bytes ∷ []) ++ sent.earlier
    there = sent.split ∙ sym (append_assoc sent.since (Sent m (V.slave s) sent.bytes ∷ []) sent.earlier)

    -- at its first sending those before it had been asked
    asked_before : length (asks S.address L sent.earlier) ≡ length bs
    asked_before =
        let P : List LogEntry → Type 0 = λ z. IsRun S z in
        let e = ap length (are_asked S heard V (are_parties sc other ok) sent.earlier (run_front S (sent.since ++ Sent m (V.slave s) sent.bytes ∷ []) sent.earlier (subst P there run)) s it L (party sc other ok s it)) in
        let f = length-map (asks S.address L sent.earlier) (note_of s) in
        let g = ap length sent.before in
        let h = length-map bs (note_of s) in
        omega (arith, e, f, g, h)

    -- so its place is not before that sending
    place : length sent.earlier ≤ b.first
    place = by g.new g.high (sym (ap (λ (z : List LogEntry). firsts (asks S.address L z)) there ∙ g.is) ∙ ap firsts told)
      where
        g : IsGrown (sent.since ++ Sent m (V.slave s) sent.bytes ∷ []) sent.earlier S.address L
        g = grown S.address L (sent.since ++ Sent m (V.slave s) sent.bytes ∷ []) sent.earlier

        by : (new : List ℕ) → ((i x : ℕ) → slice_get new i ≡ Some x → length sent.earlier ≤ x) → new ++ firsts (asks S.address L sent.earlier) ≡ b.first ∷ firsts bs → length sent.earlier ≤ b.first
        by [] high e =
            let a = ap length e in
            let c = length-map (asks S.address L sent.earlier) (λ (z : Asking). z.first) in
            let d = length-map bs (λ (z : Asking). z.first) in
            let k = asked_before in
            absurd (omega (arith, a, c, d, k))
        by (x ∷ more) high e =
            let z : x ≡ b.first = cc in
            let P : ℕ → Type 0 = λ y. length sent.earlier ≤ y in
            subst P z (high 0 x refl)

    -- three turns of the master since would have brought an answer
    module _ (x y : List LogEntry) (one_is : sent.since ≡ x ++ Turn m ∷ y) (b' a : List LogEntry) (two_is : y ≡ b' ++ Turn m ∷ a) (a_turn : turns_of m a ≡ 1) (q : List LogEntry) (old_is : old ≡ q ++ Turn m ∷ (y ++ Asked)) where
      -- the request came to the slave before the earlier of the two turns
      came : ComesIn (V.slave s) m sent.bytes a
      came = soon (q ++ Turn m ∷ b') a sent.earlier m (V.slave s) sent.bytes (outer old q y b' a Asked (Turn m) (Turn m) old_is two_is) (omega (arith, a_turn))

      -- each answer that the slave sent before that turn came before the later one
      answers : (after before : List LogEntry) (bytes : List ℕ) → a ≡ after ++ Sent (V.slave s) m bytes ∷ before → ComesIn m (V.slave s) bytes ((b' ++ Turn m ∷ []) ++ after)
      answers after before bytes e =
          let many = turns_append m b' (Turn m ∷ after) in
          let own = ap (λ (t : Bool). (if t then 1 else 0) + turns_of m after) (address_self m) in
          let P : List LogEntry → Type 0 = λ z. ComesIn m (V.slave s) bytes z in
          subst P (sym (append_assoc b' (Turn m ∷ []) after)) (soon q (b' ++ Turn m ∷ after) (before ++ Asked) (V.slave s) m bytes (inner old q y b' a after before Asked (Turn m) (Sent (V.slave s) m bytes) old_is two_is e) (omega (arith, many, own)))

      -- the two turns stand in the log
      log_is : log ≡ x ++ Turn m ∷ (y ++ Asked)
      log_is = joined log sent.since x y Asked (Turn m) sent.split one_is

      -- the slave had sent all at the earlier of the two turns
      sent_all : (at (machine (slave_setup_of sc other s)) V s (a ++ Asked)).desk.owed ≡ []
      sent_all = nothing_owed sc other ok whole r s it (later ++ (x ++ Turn m ∷ b')) (a ++ Asked) (Turn m) (after_front (reverse whole) later log (x ++ Turn m ∷ b') (Turn m ∷ (a ++ Asked)) split (outer log x y b' a Asked (Turn m) (Turn m) log_is two_is)) tt

      -- so it is decided
      off : ⊥
      off = not_both sc other ok s it n ns log all run asked_now decided_now not_over sent (x ++ Turn m ∷ []) (b' ++ Turn m ∷ []) a (moved log x y b' a Asked (Turn m) log_is two_is) sent_all came answers

    -- four turns since are too many, since one of them at most is new
    too_many : 4 ≤ turns_of m sent.since → ⊥
    too_many h = by (splits new old t.after (Turn m ∷ (t.before ++ Asked)) (sym parts ∙ joined log sent.since t.after t.before Asked (Turn m) sent.split t.is))
      where
        t : IsTurnAfter m 2 sent.since
        t = turn_after m 2 sent.since (omega (arith, h))

        u : IsTurnAfter m 1 t.before
        u = turn_after m 1 t.before (let k = t.as_many in omega (arith, k))

        is_turn : (z : LogEntry) (q : List LogEntry) → Turn m ≡ z → turns_of m (z ∷ q) ≡ 1 + turns_of m q
        is_turn z q e = ap (λ (y : LogEntry). turns_of m (y ∷ q)) (sym e) ∙ ap (λ (b : Bool). (if b then 1 else 0) + turns_of m q) (address_self m)

        more : 1 ≤ turns_of m t.after
        more =
            let a = ap (turns_of m) t.is ∙ turns_append m t.after (Turn m ∷ t.before) in
            let c = is_turn (Turn m) t.before refl in
            let d = t.as_many in
            omega (arith, a, c, d, h)

        found : (q : List LogEntry) → old ≡ q ++ Turn m ∷ (t.before ++ Asked) → ⊥
        found q e = off t.after t.before t.is u.after u.before u.is u.as_many q e

        beyond : (q : List LogEntry) → new ≡ t.after ++ q → Turn m ∷ (t.before ++ Asked) ≡ q ++ old → ⊥
        beyond [] f g = found [] (sym g)
        beyond (z ∷ q) f g =
            let e : Turn m ≡ z = cc in
            let a = ap (turns_of m) f ∙ turns_append m t.after (z ∷ q) in
            let c = is_turn z q e in
            let d = more in
            omega (arith, a, c, d, one)

        by : Splits new old t.after (Turn m ∷ (t.before ++ Asked)) → ⊥
        by (Within q f g) = found q g
        by (Beyond q f g) = beyond q f g

    -- three turns since at most
    few : turns_of m sent.since ≤ 3
    few = by (either (turns_of m sent.since))
      where
        either : (k : ℕ) → (k ≤ 3) ⊎ (4 ≤ k)
        either k = grind arith

        by : (turns_of m sent.since ≤ 3) ⊎ (4 ≤ turns_of m sent.since) → turns_of m sent.since ≤ 3
        by (inl h) = h
        by (inr h) = absurd (too_many h)

    -- so it was first sent no more than three turns ago
    pub young : turns_before m log (length log) < turns_before m log b.first + 4
    young =
        let a = turns_split m sent.since (Sent m (V.slave s) sent.bytes) sent.earlier in
        let P : List LogEntry → Type 0 = λ z. turns_before m z (length z) ≡ turns_of m sent.since + 0 + turns_before m z (length sent.earlier) in
        let c = subst P (sym sent.split) a in
        let d = turns_rise m log (length sent.earlier) b.first place in
        let e = few in
        omega (arith, c, d, e)
