-- Over a quiet network the log of a patient master is timely.
use Rattle.std.proofs.Common.{◌≡◌, ℕ, zero, suc, ◌+◌, ◌-◌, ◌<◌, ◌≤◌, Bool, true, false, if◌then◌else◌, ◌⊎◌, inl, inr, Option, Some, None, List, [], ◌∷◌, ◌++◌, length, reverse, refl, sym, ap, ◌∙◌, subst, arith, append_assoc, append-nil, length-append}
use Rattle.std.specs.Prelude.{◌==◌, ◌&&◌, is_some, min, slice_get}
use Rattle.std.proofs.lemmas.List.{reverse-reverse, length-reverse}
use Rattle.std.proofs.lemmas.Option.{slice_get_within}
use Rattle.dcp_types.specs.declared.addresses.Address.{Address}
use Rattle.dcp_ends.specs.Events.{Event}
use Rattle.dcp_ends.specs.Logs.{same_address}
use Rattle.dcp_ends.specs.declared.entries.LogEntry.{LogEntry}
use Rattle.dcp_ends.specs.declared.entries.LogEntry.TheVariants.{Sent, Got, Idle, Turn}
use Rattle.pdu_layout.specs.Fields.{FieldValue}
use Rattle.pdu_layout.specs.Fields.FieldValue.{Number}
use Rattle.pdu_layout.specs.Message.{Message}
use Rattle.pdu_layout.specs.Reading.{message_in}
use Rattle.rounds.specs.Rounds.{has_report, Rounds, IsRound}
use Rattle.slave_desc.specs.declared.descriptions.SlaveDesc.{SlaveDesc}
use Rattle.scenario.specs.declared.scenarios.Scenario.{Scenario}
use Rattle.scenario.specs.Sound.{IsScenario}
use Rattle.log_spec.specs.Log.{Parties, IsSlaveOf}
use Rattle.lockstep_laws.specs.Models.Scenarios.{slave_numbered}
use Rattle.lockstep_laws.proofs.Models.Scenarios.{has_parties}
use Rattle.master_spec.specs.declared.reports.Report.{Report}
use Rattle.master_spec.specs.declared.setups.Slave.{Slave}
use Rattle.master_spec.specs.declared.setups.Setup.{Setup}
use Rattle.master_spec.specs.Course.{course}
use Rattle.master_spec.specs.Exchanged.{IsIn, entry_at}
use Rattle.master_spec.specs.News.{News, Answers, Hints, Brings, Nothing, news_of}
use Rattle.master_spec.specs.Requests.{Asking, Decision, asking_in, asking_with, asks, decided_by, is_request, turns_before, turns_between, turns_after, with_asking, with_news}
use Rattle.master_spec.specs.Rules.{master_rules}
use Rattle.master_spec.specs.Setup.{setup_from, slave_of}
use Rattle.master_spec.specs.Shown.{last_sending}
use Rattle.master_log_laws.specs.Index.Runs.{course_at}
use Rattle.master_log_laws.specs.Phases.Laws.{AreDecided, AreOneByOne}
use Rattle.master_log_laws.proofs.Index.Dates.{entry_later, entry_now}
use Rattle.master_log_laws.proofs.Phases.Numbered.{one_by_one}
use Rattle.master_log_laws.proofs.Scenarios.Heard.{setups_heard}
use Rattle.master_log_laws.proofs.Scenarios.Scenarios.{events_reverse}
use Rattle.run_laws.specs.Laws.{parties, rules_of_slaves, IsRunInRounds}
use Rattle.run_laws.proofs.Runs.{are_parties}
use Rattle.completeness_laws.specs.Timely.{IsGotAfter, IsAnsweredInTime, ComesInTime, Timely}
use Rattle.completeness_laws.proofs.Delivery.Ended.{numbered_at}
use Rattle.completeness_laws.proofs.Delivery.Entries.{entry_there}
use Rattle.completeness_laws.proofs.Delivery.Turning.{turns_of}
use Rattle.completeness_laws.proofs.Timely.Firsts.{firsts, sent_before}
use Rattle.completeness_laws.proofs.Timely.Prompt.{turns_later}
use Rattle.completeness_laws.specs.Quiet.{ComesIn, NoneAgain}
use Rattle.completeness_laws.specs.Rounded.{IsPatient, BringAll, RoundsBringAll, QuietIsTimely}
use Rattle.completeness_laws.proofs.Quiet.Data.{HasGot, sents_back, no_data}
use Rattle.completeness_laws.proofs.Quiet.Going.{open_late}
use Rattle.completeness_laws.proofs.Quiet.Looked.{IsAfterGot, Stands, InFirst, InSecond, stands, round_sent, last_round}
use Rattle.completeness_laws.proofs.Quiet.Open.{after_front, joined, outer, IsTurnAfter, turn_after, turns_within, turns_split, behaves_at, runs_at, young}
use Rattle.completeness_laws.proofs.Quiet.Soon.{CameSoon, came_soon, comes_soon, comes_before, comes_back, turned_at, away}
use Rattle.completeness_laws.proofs.Quiet.Young.{none_in}

-- ---- places in a log with its newest entry first
record IsAt (log : List LogEntry) (i : ℕ) (e : LogEntry) : Type 0 where
  pub part : List LogEntry
  pub base : List LogEntry
  pub is : log ≡ part ++ e ∷ base
  pub place : length base ≡ i

-- the entry at a place within a log
within : (log : List LogEntry) (i : ℕ) (e : LogEntry) → i < length log → entry_at log i ≡ Some e → IsAt log i e
within [] i e l h = absurd (omega (arith, l))
within (c ∷ log) i e l h = by (either i (length log)) (λ z k. within log i e z k)
  where
    either : (m n : ℕ) → (m < n) ⊎ (n ≤ m)
    either m n = grind arith

    some_same : Some c ≡ Some e → c ≡ e
    some_same z = cc

    by : (i < length log) ⊎ (length log ≤ i) → (i < length log → entry_at log i ≡ Some e → IsAt log i e) → IsAt (c ∷ log) i e
    by (inl k) f = let t = f k (sym (entry_later c log i k) ∙ h) in record { part = c ∷ t.part; base = t.base; is = ap (λ (z : List LogEntry). c ∷ z) t.is; place = t.place }
    by (inr k) f =
        let same : length log ≡ i = omega (arith, l, k) in
        let q : c ≡ e = some_same (sym (entry_now c log) ∙ ap (entry_at (c ∷ log)) same ∙ h) in
        record { part = []; base = log; is = ap (λ (z : LogEntry). z ∷ log) q; place = same }

-- the entry at a place
at_place : (log : List LogEntry) (i : ℕ) (e : LogEntry) → entry_at log i ≡ Some e → IsAt log i e
at_place log i e h =
    let l = slice_get_within (reverse log) i e h in
    let n = length-reverse log in
    within log i e (omega (arith, l, n)) h

-- turns before a place of a log and a later one
turns_at : (m : Address) (part between : List LogEntry) (g e : LogEntry) (base : List LogEntry)
    → turns_before m (part ++ g ∷ (between ++ e ∷ base)) (length (between ++ e ∷ base)) ≡ turns_of m between + turns_of m (e ∷ []) + turns_before m (part ++ g ∷ (between ++ e ∷ base)) (length base)
turns_at m part between g e base =
    let old = between ++ e ∷ base in
    let assoc = sym (append_assoc part (g ∷ []) old) in
    let a : turns_before m (part ++ g ∷ old) (length old) ≡ turns_before m old (length old) = ap (λ (z : List LogEntry). turns_before m z (length old)) assoc ∙ turns_later m (part ++ g ∷ []) old (length old) (omega arith) in
    let n = length-append between (e ∷ base) in
    let b : turns_before m (part ++ g ∷ old) (length base) ≡ turns_before m old (length base) = ap (λ (z : List LogEntry). turns_before m z (length base)) assoc ∙ turns_later m (part ++ g ∷ []) old (length base) (omega (arith, n)) in
    let c = turns_split m between e base in
    omega (arith, a, b, c)

-- ---- requests
-- what is asked first is not decided
abbrev NotDecided : Option Asking → Type 0
NotDecided None = Unit {0}
NotDecided (Some a) = a.decision ≡ None

-- by its fields
new_with : (place code : ℕ) (vs : List FieldValue) → NotDecided (asking_with place code vs)
new_with place code (Number number ∷ Number receiver ∷ more) = by (is_request code)
  where
    by : (t : Bool) → NotDecided (if t then Some (record { code = code; number = number; more = more; first = place; repeats = []; decision = None }) else None)
    by true = refl
    by false = tt
new_with place code _ = tt

-- by its message
new_in : (place : ℕ) (o : Option Message) → NotDecided (asking_in place o)
new_in place None = tt
new_in place (Some m) = new_with place m.code m.values

-- none is not some
none_some : {A : Type 0} (x : A) → None ≡ Some x → ⊥
none_some x z = cc

module _ (m : Address) (log : List LogEntry) where
  -- it was decided before four turns had passed
  abbrev IsSoon : Asking → Type 0
  IsSoon a = (d : Decision) → a.decision ≡ Some d → turns_before m log d.place < turns_before m log a.first + 4

  abbrev AreSoon : List Asking → Type 0
  AreSoon [] = Unit {0}
  AreSoon (a ∷ bs) = IsSoon a × AreSoon bs

  -- a new request leaves it so
  asked_soon : (o : Option Asking) (bs : List Asking) → NotDecided o → AreSoon bs → AreSoon (with_asking o bs)
  asked_soon None bs n h = h
  asked_soon (Some a) [] n h = ((λ d e. absurd (none_some d (sym n ∙ e))), tt)
  asked_soon (Some a) (b ∷ bs) n h = by (a.number == b.number)
    where
      by : (t : Bool) → AreSoon (if t then record { code = b.code; number = b.number; more = b.more; first = b.first; repeats = a.first ∷ b.repeats; decision = b.decision } ∷ bs else a ∷ b ∷ bs)
      by true = h
      by false = ((λ d e. absurd (none_some d (sym n ∙ e))), h)

  -- what is answered now was asked before four turns had passed
  abbrev HeadIsSoon : ℕ → List Asking → Type 0
  HeadIsSoon place [] = Unit {0}
  HeadIsSoon place (b ∷ bs) = b.decision ≡ None → turns_before m log place < turns_before m log b.first + 4

  -- an answer leaves it so
  told_soon : (id place : ℕ) (w : News) (bs : List Asking) → HeadIsSoon place bs → AreSoon bs → AreSoon (with_news id place w bs)
  told_soon id place (Answers number sender answer) [] f h = tt
  told_soon id place (Answers number sender answer) (b ∷ bs) f h = by ((sender == id) && (number == b.number))
    where
      new : Decision
      new = record { place = place; answer = answer }

      at : (o : Option Decision) → b.decision ≡ o → (d : Decision) → decided_by o (record { place = place; answer = answer }) ≡ Some d → turns_before m log d.place < turns_before m log b.first + 4
      at None q d e =
          let z : record { place = place; answer = answer } ≡ d = cc in
          let P : Decision → Type 0 = λ x. turns_before m log x.place < turns_before m log b.first + 4 in
          subst P z (f q)
      at (Some x) q d e = h.0 d (q ∙ e)

      by : (t : Bool) → AreSoon (if t then record { code = b.code; number = b.number; more = b.more; first = b.first; repeats = b.repeats; decision = decided_by b.decision (record { place = place; answer = answer }) } ∷ bs else b ∷ bs)
      by true = ((λ d e. at b.decision refl d e), h.1)
      by false = h
  told_soon id place (Hints sender) bs f h = h
  told_soon id place (Brings number data_id payload) bs f h = h
  told_soon id place Nothing bs f h = h

  -- each of them was decided so
  soon_get : (bs : List Asking) (n : ℕ) (a : Asking) → AreSoon bs → slice_get bs n ≡ Some a → IsSoon a
  soon_get [] n a h e = absurd (off n e)
    where
      off : (n : ℕ) → slice_get [] n ≡ Some a → ⊥
      off zero z = cc
      off (suc n) z = cc
  soon_get (b ∷ bs) zero a h e = let z : b ≡ a = cc in subst IsSoon z h.0
  soon_get (b ∷ bs) (suc n) a h e = soon_get bs n a h.1 e

-- each of the decided requests is decided
decided_get : (bs : List Asking) (n : ℕ) (a : Asking) → AreDecided bs → slice_get bs n ≡ Some a → is_some a.decision ≡ true
decided_get [] n a h e = absurd (off n e)
  where
    off : (n : ℕ) → slice_get [] n ≡ Some a → ⊥
    off zero z = cc
    off (suc n) z = cc
decided_get (b ∷ bs) zero a h e = let z : b ≡ a = cc in ap (λ (x : Asking). is_some x.decision) (sym z) ∙ h.0
decided_get (b ∷ bs) (suc n) a h e = decided_get bs n a h.1 e

-- less than four is less than the lesser of two that are at least four
some_least : (x a b : ℕ) → x < 4 → 4 ≤ a → 4 ≤ b → x < min a b
some_least x a b h f g = grind (arith, h, f, g)

-- ---- a run that has its report
module _ (sc : Scenario) (other : SlaveDesc) (ok : IsScenario sc) (patient : IsPatient sc.limits) (whole : List LogEntry) (r : IsRunInRounds sc other whole) (bring : BringAll sc r.count whole r.rounds) (report : Report) (reported : (course_at (setup_from sc) (reverse whole)).report ≡ Some report) where
  abbrev W : Parties
  W = parties sc other

  abbrev S : Setup
  S = setup_from sc

  abbrev R : List LogEntry
  R = reverse whole

  -- what two turns of the master follow came before the second
  soon_all : CameSoon W.master R
  soon_all = came_soon W.master whole (comes_soon sc other ok r.count whole r.rounds bring)

  -- also up to each moment
  soon_at : (later log : List LogEntry) → R ≡ later ++ log → CameSoon W.master log
  soon_at later log split after between earlier from to bytes e h =
      soon_all (later ++ after) between earlier from to bytes (after_front R later log after (Turn W.master ∷ (between ++ Sent from to bytes ∷ earlier)) split e) h

  -- ---- the requests to one slave
  module _ (s : ℕ) (it : IsSlaveOf W s) where
    abbrev L : Slave
    L = slave_of sc s (slave_numbered sc other s)

    -- the newest request, while it is not decided, was asked before four turns had passed
    open_soon : (later log : List LogEntry) → R ≡ later ++ log → (b : Asking) (bs : List Asking) → asks S.address L log ≡ b ∷ bs → b.decision ≡ None → turns_before W.master R (length log) < turns_before W.master R b.first + 4
    open_soon later log split b bs e free =
        let y = young sc other ok whole r s it later log split [] log refl (omega arith) (soon_at later log split) b bs e free in
        let P : List Asking → Type 0 = λ z. slice_get (firsts z) 0 ≡ Some b.first in
        let low = sent_before S.address L log 0 b.first (subst P (sym e) refl) in
        let u = here (length log) (omega arith) in
        let v = here b.first (omega (arith, low)) in
        omega (arith, y, u, v)
      where
        here : (i : ℕ) → i ≤ length log → turns_before W.master R i ≡ turns_before W.master log i
        here i l = ap (λ (z : List LogEntry). turns_before W.master z i) split ∙ turns_later W.master later log i l

    -- so what is answered was
    head_soon : (later log : List LogEntry) → R ≡ later ++ log → HeadIsSoon W.master R (length log) (asks S.address L log)
    head_soon later log split = by (asks S.address L log) refl
      where
        by : (bs : List Asking) → asks S.address L log ≡ bs → HeadIsSoon W.master R (length log) bs
        by [] e = tt
        by (b ∷ bs) e = λ free. open_soon later log split b bs e free

    -- so each request was decided before four turns had passed
    soon_by : (log later : List LogEntry) → R ≡ later ++ log → AreSoon W.master R (asks S.address L log)
    soon_by [] later split = tt
    soon_by (e ∷ log) later split = by e (head_soon (later ++ e ∷ []) log before) (soon_by log (later ++ e ∷ []) before)
      where
        before : R ≡ (later ++ e ∷ []) ++ log
        before = split ∙ sym (append_assoc later (e ∷ []) log)

        by : (e : LogEntry) → HeadIsSoon W.master R (length log) (asks S.address L log) → AreSoon W.master R (asks S.address L log) → AreSoon W.master R (asks S.address L (e ∷ log))
        by (Sent from to bytes) f h = two (same_address from S.address && same_address to L.address)
          where
            two : (t : Bool) → AreSoon W.master R (if t then with_asking (asking_in (length log) (message_in bytes)) (asks S.address L log) else asks S.address L log)
            two true = asked_soon W.master R (asking_in (length log) (message_in bytes)) (asks S.address L log) (new_in (length log) (message_in bytes)) h
            two false = h
        by (Got at from bytes) f h = two (same_address at S.address && same_address from L.address)
          where
            two : (t : Bool) → AreSoon W.master R (if t then with_news L.id (length log) (news_of bytes) (asks S.address L log) else asks S.address L log)
            two true = told_soon W.master R L.id (length log) (news_of bytes) (asks S.address L log) f h
            two false = h
        by (Idle at) f h = h
        by (Turn at) f h = h

    -- none was sent again
    none : NoneAgain (asks S.address L R)
    none = none_in sc other ok patient whole r s it r.count whole r.rounds bring [] (sym (append-nil whole))

    -- each is decided where there is a report
    all_decided : AreDecided (asks S.address L R)
    all_decided = by (asks S.address L R) refl none (head_soon [] R refl) (one_by_one S (setups_heard sc ok).heard R (runs_at sc other ok whole r s it [] R refl) (s - 1) L (numbered_at sc other ok s it))
      where
        by : (bs : List Asking) → asks S.address L R ≡ bs → NoneAgain bs → HeadIsSoon W.master R (length R) bs → AreOneByOne bs → AreDecided bs
        by [] e n f o = tt
        by (b ∷ bs) e n f o = (two b.decision refl, (o.1).0)
          where
            two : (x : Option Decision) → b.decision ≡ x → is_some b.decision ≡ true
            two (Some d) q = ap (λ (z : Option Decision). is_some z) q
            two None q =
                let late = open_late sc other ok s it R (runs_at sc other ok whole r s it [] R refl) b bs e q report reported in
                let last : turns_before S.address R (last_sending b.first b.repeats) ≡ turns_before S.address R b.first = ap (λ (z : List ℕ). turns_before S.address R (last_sending b.first z)) n.0 in
                let few = f q in
                let four = patient.answers in
                absurd (omega (arith, late, last, few, four))

    -- so each was answered in time
    answered : (n : ℕ) (a : Asking) → slice_get (asks S.address L R) n ≡ Some a → IsAnsweredInTime S R a
    answered n a e = by a.decision refl (decided_get (asks S.address L R) n a all_decided e) (soon_get W.master R (asks S.address L R) n a (soon_by R [] refl) e)
      where
        less : (x y k : ℕ) → x < y + 4 → 4 ≤ k → x - y < k
        less x y k h f = omega (arith, h, f)

        by : (o : Option Decision) → a.decision ≡ o → is_some a.decision ≡ true → IsSoon W.master R a → IsAnsweredInTime S R a
        by None q h f = let z : false ≡ true = sym (ap (λ (x : Option Decision). is_some x) q) ∙ h in absurd cc
        by (Some d) q h f = record { answer = d; told = q; soon = less (turns_before S.address R d.place) (turns_before S.address R a.first) S.limits.turn_limit (f d q) patient.answers }

  -- the same for each slave of the setup
  answers : (slave : Slave) → IsIn S slave → (n : ℕ) (a : Asking) → slice_get (asks S.address slave R) n ≡ Some a → IsAnsweredInTime S R a
  answers slave is n a e =
      let it = ((are_parties sc other ok).all slave is).0 in
      let own : slave.id ≡ is.0 + 1 = (setups_heard sc ok).numbered is.0 slave is.1 in
      let place : slave.id - 1 ≡ is.0 = omega (arith, own) in
      let same : Some (slave_of sc slave.id (slave_numbered sc other slave.id)) ≡ Some slave = sym (numbered_at sc other ok slave.id it) ∙ ap (slice_get S.slaves) place ∙ is.1 in
      let z : slave_of sc slave.id (slave_numbered sc other slave.id) ≡ slave = some_same (slave_of sc slave.id (slave_numbered sc other slave.id)) same in
      let P : Slave → Type 0 = λ x. slice_get (asks S.address x R) n ≡ Some a in
      answered slave.id it n a (subst P (sym z) e)
    where
      some_same : (x : Slave) → Some x ≡ Some slave → x ≡ slave
      some_same x z = cc

  -- ---- messages
  -- where it came after a send, with so many turns between
  record HasCome (i : ℕ) (from to : Address) (bytes : List ℕ) : Type 0 where
    pub got : IsGotAfter R i from to bytes
    pub few : turns_between S.address R i got.place ≤ 1

  -- a message that is got so many turns after its sending
  come : (i : ℕ) (from to : Address) (bytes : List ℕ) (part between base : List LogEntry) → R ≡ part ++ Got to from bytes ∷ (between ++ Sent from to bytes ∷ base) → length base ≡ i → turns_of W.master between ≤ 1 → HasCome i from to bytes
  come i from to bytes part between base e place few =
      let old = between ++ Sent from to bytes ∷ base in
      let n = length-append between (Sent from to bytes ∷ base) in
      let t = turns_at W.master part between (Got to from bytes) (Sent from to bytes) base in
      let P : List LogEntry → Type 0 = λ z. turns_before W.master z (length old) ≡ turns_of W.master between + 0 + turns_before W.master z (length base) in
      let u = subst P (sym e) t in
      let v = ap (turns_before W.master R) place in
      record {
        got = record { place = length old; later = omega (arith, n, place); got = ap (λ (z : List LogEntry). entry_at z (length old)) e ∙ entry_there part old (Got to from bytes) };
        few = omega (arith, u, v, few);
      }

  -- what two turns of the master follow
  came : (i : ℕ) (from to : Address) (bytes : List ℕ) (k : IsAt R i (Sent from to bytes)) → 2 ≤ turns_of W.master k.part → HasCome i from to bytes
  came i from to bytes k h =
      let t : IsTurnAfter W.master 1 k.part = turn_after W.master 1 k.part (omega (arith, h)) in
      let one = t.as_many in
      let x = Sent from to bytes ∷ k.base in
      let split = joined R k.part t.after t.before x (Turn W.master) k.is t.is in
      let c = soon_all t.after t.before k.base from to bytes split (omega (arith, one)) in
      let few = turns_within W.master t.before c.before c.after (Got to from bytes) c.is in
      come i from to bytes (t.after ++ Turn W.master ∷ c.before) c.after k.base (outer R t.after t.before c.before c.after x (Turn W.master) (Got to from bytes) split c.is) k.place (omega (arith, one, few))

  -- the turns after a place are those of what stands behind it
  since : (i : ℕ) (e : LogEntry) (k : IsAt R i e) → turns_after S.address R i ≤ turns_of W.master k.part + turns_of W.master (e ∷ [])
  since i e k =
      let t = turns_split W.master k.part e k.base in
      let P : List LogEntry → Type 0 = λ z. turns_before W.master z (length z) ≡ turns_of W.master k.part + turns_of W.master (e ∷ []) + turns_before W.master z (length k.base) in
      let u = subst P (sym k.is) t in
      let v = ap (turns_before W.master R) k.place in
      omega (arith, u, v)

  -- all comes that two turns follow
  all : (i : ℕ) (from to : Address) (bytes : List ℕ) → entry_at R i ≡ Some (Sent from to bytes) → 2 ≤ turns_after S.address R i → IsGotAfter R i from to bytes
  all i from to bytes e h =
      let k = at_place R i (Sent from to bytes) e in
      let t = since i (Sent from to bytes) k in
      let z : turns_of W.master (Sent from to bytes ∷ []) ≡ 0 = refl in
      (came i from to bytes k (omega (arith, h, t, z))).got

  -- ---- data comes: it was not sent in the last round
  has_it : has_report (Some (master_rules sc)) whole ≡ true
  has_it = ap (λ (z : List Event). is_some (course S z).report) (sym (events_reverse S whole)) ∙ ap (λ (o : Option Report). is_some o) reported

  -- there is a slave
  first_slave : IsSlaveOf W 1
  first_slave = (omega arith, (has_parties sc other ok message_in).some)

  module _ (from to : Address) (bytes : List ℕ) (number id : ℕ) (payload : List ℕ) (values : news_of bytes ≡ Brings number id payload) where
    abbrev x : LogEntry
    x = Sent from to bytes

    -- data is not sent in the last round
    not_last : (before part more later : List LogEntry) (round : IsRound (Some (master_rules sc)) (rules_of_slaves sc) before part) → whole ≡ before ++ part → part ≡ more ++ x ∷ later → ⊥
    not_last before part more later round e f =
        let P : List LogEntry → Type 0 = λ z. has_report (Some (master_rules sc)) z ≡ true in
        let none = last_round (master_rules sc) (rules_of_slaves sc) (away sc other ok) before part round (subst P e has_it) in
        let split : R ≡ reverse later ++ x ∷ reverse (before ++ more) = ap reverse (after_front whole before part more (x ∷ later) e f) ∙ turned_at (before ++ more) later x in
        let b = behaves_at sc other ok whole r 1 first_slave (reverse later) (x ∷ reverse (before ++ more)) split in
        no_data sc other ok from to bytes (reverse (before ++ more)) b (by (round_sent from to bytes (master_rules sc) (rules_of_slaves sc) before part more later round none f)) number id payload values
      where
        by : (from ≡ W.master) ⊎ IsAfterGot from more → (from ≡ W.master) ⊎ HasGot from (reverse (before ++ more))
        by (inl k) = inl k
        by (inr g) =
            let q = after_front (before ++ more) before more g.before (Got from g.sender g.bytes ∷ g.sents) refl g.is in
            inr (record { sents = reverse g.sents; base = reverse (before ++ g.before); sender = g.sender; heard = g.bytes; is = ap reverse q ∙ turned_at (before ++ g.before) g.sents (Got from g.sender g.bytes); own = sents_back from g.sents g.own })

    -- so a later round brought it
    data_comes : (n : ℕ) (rounds : Rounds (Some (master_rules sc)) (rules_of_slaves sc) n whole) → BringAll sc n whole rounds → (first later : List LogEntry) → whole ≡ first ++ x ∷ later → ComesIn to from bytes later
    data_comes zero none bring first later e = absurd (off first (sym none ∙ e))
      where
        off : (p : List LogEntry) → [] ≡ p ++ x ∷ later → ⊥
        off [] z = cc
        off (y ∷ p) z = cc
    data_comes (suc n) (before, part, is, rounds, round) bring first later e = by (stands before part first x later (sym is ∙ e))
      where
        by : Stands before part first x later → ComesIn to from bytes later
        by (InFirst more f g) =
            let c = bring.1 first more from to bytes f in
            let P : List LogEntry → Type 0 = ComesIn to from bytes in
            let whole_is : later ≡ (more ++ round.looks) ++ round.turns = g ∙ ap (λ (z : List LogEntry). more ++ z) round.form ∙ sym (append_assoc more round.looks round.turns) in
            subst P (sym whole_is) (comes_before to from bytes (more ++ round.looks) round.turns c)
        by (InSecond more f g) = absurd (not_last before part more later round is g)

    -- with one turn between at most
    data_came : (i : ℕ) → IsAt R i x → HasCome i from to bytes
    data_came i k = by (either (turns_of W.master k.part))
      where
        either : (n : ℕ) → (2 ≤ n) ⊎ (n ≤ 1)
        either n = grind arith

        whole_is : whole ≡ reverse k.base ++ x ∷ reverse k.part
        whole_is = sym (reverse-reverse whole) ∙ ap reverse k.is ∙ turned_at k.part k.base x

        by : (2 ≤ turns_of W.master k.part) ⊎ (turns_of W.master k.part ≤ 1) → HasCome i from to bytes
        by (inl h) = came i from to bytes k h
        by (inr h) =
            let c = comes_back to from bytes k.part (data_comes r.count r.rounds bring (reverse k.base) (reverse k.part) whole_is) in
            let few = turns_within W.master k.part c.before c.after (Got to from bytes) c.is in
            come i from to bytes c.before c.after k.base (joined R k.part c.before c.after (x ∷ k.base) (Got to from bytes) k.is c.is) k.place (omega (arith, h, few))

  -- data comes in time
  values : (i : ℕ) (from to : Address) (bytes : List ℕ) → entry_at R i ≡ Some (Sent from to bytes) → (number id : ℕ) (payload : List ℕ) → news_of bytes ≡ Brings number id payload → ComesInTime S R i from to bytes
  values i from to bytes e number id payload v =
      let c = data_came from to bytes number id payload v i (at_place R i (Sent from to bytes) e) in
      let few = c.few in
      record { came = c.got; soon = some_least (turns_between S.address R i c.got.place) S.limits.retry_turns S.limits.data_turns (omega (arith, few)) patient.retries patient.values }

  -- so the log is timely
  pub is_timely : Timely S R
  is_timely = record { report = report; reported = reported; answers = answers; values = values; all = all }

module _ (bring_all : RoundsBringAll) where
  -- which is what is wanted
  pub quiet_is_timely : QuietIsTimely
  quiet_is_timely sc other ok patient log run o quiet given report reported = is_timely sc other ok patient log run (bring_all sc other ok patient log run o quiet given) report reported
