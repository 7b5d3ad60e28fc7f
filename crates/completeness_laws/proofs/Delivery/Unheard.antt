-- Where no answer came, the request or the answer to it is under way.
use Rattle.std.proofs.Common.{◌≡◌, ℕ, ◌+◌, ◌%◌, ◌<◌, ◌≤◌, Bool, true, false, if◌then◌else◌, ◌⊎◌, inl, inr, Option, Some, None, List, [], ◌∷◌, ◌++◌, map, length, refl, sym, ap, ◌∙◌, subst, arith, append_assoc}
use Rattle.std.specs.Prelude.{◌==◌, ◌&&◌, nat_lt}
use Rattle.std.specs.List.{list_any, cons_option}
use Rattle.std.proofs.lemmas.Bool.{eq-eqb}
use Rattle.std.proofs.lemmas.Bool.Decides.{nat_tests}
use Rattle.dcp_types.specs.declared.addresses.Address.{Address}
use Rattle.dcp_types.specs.declared.error_codes.ErrorCode.{ErrorCode}
use Rattle.dcp_ends.specs.declared.entries.LogEntry.{LogEntry}
use Rattle.dcp_ends.specs.declared.entries.LogEntry.TheVariants.{Sent, Got, Idle, Turn}
use Rattle.seq_window.specs.declared.places.Place.TheVariants as places
use Rattle.seq_window.specs.Window.{place}
use Rattle.slave_desc.specs.declared.descriptions.SlaveDesc.{SlaveDesc}
use Rattle.scenario.specs.declared.scenarios.Scenario.{Scenario}
use Rattle.scenario.specs.Sound.{IsScenario}
use Rattle.log_spec.specs.Messages.{Note, Role, Request, Answer, Value, Else}
use Rattle.log_spec.specs.Channel.{repeats_number, by_ordinal, at_ordinal}
use Rattle.log_spec.specs.Log.{Parties, IsSlaveOf, same, role_heard, Requests, in_channel, sent_in, sends_in, requests_sent, DecidedRequest}
use Rattle.log_spec.specs.Honest.{IsRepeatedNewest}
use Rattle.log_spec.specs.Moves.{Move, Asks, Comes, Tells, Hears, Brings, Turns, Rests, Other, sent_move, got_move, move, decided_after, decided_exchanges}
use Rattle.log_spec.proofs.Moves.{same_is, same_self}
use Rattle.lockstep_laws.specs.Slaves.{Post, Desk, SlaveMay, ServesNote}
use Rattle.lockstep_laws.specs.Cast.{ConversingSlaves}
use Rattle.lockstep_laws.specs.Runs.{Behaves}
use Rattle.lockstep_laws.proofs.Talk.{requests_of, taken_length, last_of}
use Rattle.lockstep_laws.proofs.Conversation.{earlier, drop_later, known}
use Rattle.slave_spec.specs.Heard as spec
use Rattle.slave_spec.specs.Transport as transport
use Rattle.slave_spec.specs.Plants.{Plant}
use Rattle.slave_spec.specs.Slaves.{machine}
use Rattle.slave_spec.specs.declared.words.SlaveRequest as req
use Rattle.slave_spec.specs.declared.words.Session.{Session}
use Rattle.slave_spec.specs.declared.words.Session.TheVariants.{Before, During, After}
use Rattle.slave_spec.specs.declared.words.Fate.{Fate}
use Rattle.slave_spec.specs.declared.words.Fate.TheVariants.{Dropped, Refused, Repeated, Taken}
use Rattle.slave_laws.specs.Talk.Desks.{post, answer_note, served_by, served_after, Both, sent_next, got, ticked, at, accepts_asked, accepts_heard, Agree}
use Rattle.master_log_laws.specs.Index.Runs.{IsRun}
use Rattle.master_spec.specs.Setup.{setup_from}
use Rattle.lockstep_laws.proofs.Models.Scenarios.{has_parties}
use Rattle.pdu_layout.specs.Reading.{message_in}
use Rattle.slave_laws.specs.Data.Whole.{slaves_asked}
use Rattle.run_laws.specs.Laws.{parties, slave_setup_of}
use Rattle.run_laws.proofs.Headline.Behaving.{are_slaves}
use Rattle.completeness_laws.specs.Unheard.{GetsRequest, NeverGets, IsAnsweredInVain}
use Rattle.completeness_laws.proofs.Delivery.Ended.{run_front}
use Rattle.completeness_laws.proofs.Delivery.Growing.{extends_length, extends_same, requests_grow, decided_grow}
use Rattle.completeness_laws.proofs.Delivery.Sessions.{is_over_exchange, SessionIs, IsOfMaster, comes_of_master, heard_receiver, reads_back, session_at, counts_at}

clash : true ≡ false → ⊥
clash z = cc

place_self : (k : ℕ) → k < 65536 → place k k ≡ places.Next
place_self k h = grind (arith, nat_tests)

address_self : (a : Address) → transport.same_address a a ≡ true
address_self a = ap (λ (b : Bool). b && (a.port == a.port)) (eq-eqb a.ip a.ip refl) ∙ eq-eqb a.port a.port refl

module _ (sc : Scenario) (other : SlaveDesc) (ok : IsScenario sc) (s : ℕ) (it : IsSlaveOf (parties sc other) s) where
  abbrev W : Parties
  W = parties sc other

  abbrev X : ConversingSlaves
  X = slaves_asked sc other

  abbrev M : transport.Machine Plant
  M = machine (slave_setup_of sc other s)

  -- ---- the first sending of the newest request
  in_request : (from to : Address) (k : Role) (n : Note) → in_channel W (Requests s) from to k ≡ Some n → (receiver : ℕ) × ((k ≡ Request receiver n) × ((from ≡ W.master) × (to ≡ W.slave s)))
  in_request from to (Request id m) n e = by (same from W.master) (same to (W.slave s)) refl refl e
    where
      by : (a b : Bool) → same from W.master ≡ a → same to (W.slave s) ≡ b → (if a && b then Some m else None) ≡ Some n → (receiver : ℕ) × ((Request id m ≡ Request receiver n) × ((from ≡ W.master) × (to ≡ W.slave s)))
      by true true f g z = let y : m ≡ n = cc in (id, (ap (λ (x : Note). Request id x) y, (same_is from W.master f, same_is to (W.slave s) g)))
      by true false f g z = absurd cc
      by false b f g z = absurd cc
  in_request from to (Answer sender m) n e = absurd cc
  in_request from to (Value id m) n e = absurd cc
  in_request from to Else n e = absurd cc

  pub record FirstSent (log : List LogEntry) (n : Note) (ns : List Note) : Type 0 where
    pub receiver : ℕ
    pub bytes : List ℕ
    pub since : List LogEntry
    pub earlier : List LogEntry
    pub split : log ≡ since ++ Sent W.master (W.slave s) bytes ∷ earlier
    pub read : role_heard W bytes ≡ Request receiver n
    pub before : requests_sent W s earlier ≡ ns
    pub here : requests_sent W s (Sent W.master (W.slave s) bytes ∷ earlier) ≡ n ∷ ns

  sent_later : (e : LogEntry) (log : List LogEntry) (n : Note) (ns : List Note) → FirstSent log n ns → FirstSent (e ∷ log) n ns
  sent_later e log n ns f = record { receiver = f.receiver; bytes = f.bytes; since = e ∷ f.since; earlier = f.earlier; split = ap (λ (z : List LogEntry). e ∷ z) f.split; read = f.read; before = f.before; here = f.here }

  sent_entry : (e : LogEntry) (log : List LogEntry) (n : Note) (ns : List Note) → sent_in W (Requests s) e ≡ Some n → requests_sent W s log ≡ ns → requests_sent W s (e ∷ log) ≡ n ∷ ns → FirstSent (e ∷ log) n ns
  sent_entry (Sent from to bytes) log n ns e b h =
      let q = in_request from to (role_heard W bytes) n e in
      let f : Sent from to bytes ≡ Sent W.master (W.slave s) bytes = ap (λ (x : Address). Sent x to bytes) ((q.1).1).0 ∙ ap (λ (x : Address). Sent W.master x bytes) ((q.1).1).1 in
      record { receiver = q.0; bytes = bytes; since = []; earlier = log; split = ap (λ (x : LogEntry). x ∷ log) f; read = (q.1).0; before = b; here = ap (λ (x : LogEntry). requests_sent W s (x ∷ log)) (sym f) ∙ h }
  sent_entry (Got at' from bytes) log n ns e b h = absurd cc
  sent_entry (Idle at') log n ns e b h = absurd cc
  sent_entry (Turn at') log n ns e b h = absurd cc

  pub first_sent : (log : List LogEntry) (n : Note) (ns : List Note) → requests_sent W s log ≡ n ∷ ns → FirstSent log n ns
  first_sent [] n ns h = absurd cc
  first_sent (e ∷ log) n ns h = by (sent_in W (Requests s) e) refl (λ z. first_sent log n ns z)
    where
      by : (o : Option Note) → sent_in W (Requests s) e ≡ o → (requests_sent W s log ≡ n ∷ ns → FirstSent log n ns) → FirstSent (e ∷ log) n ns
      by None q f = sent_later e log n ns (f (sym (ap (λ (k : Option Note). by_ordinal (cons_option k (sends_in W (Requests s) log))) q) ∙ h))
      by (Some m) q f = two (repeats_number m (sends_in W (Requests s) log)) refl
        where
          all : (if repeats_number m (sends_in W (Requests s) log) then by_ordinal (sends_in W (Requests s) log) else m ∷ by_ordinal (sends_in W (Requests s) log)) ≡ n ∷ ns
          all = sym (ap (λ (k : Option Note). by_ordinal (cons_option k (sends_in W (Requests s) log))) q) ∙ h

          two : (b : Bool) → repeats_number m (sends_in W (Requests s) log) ≡ b → FirstSent (e ∷ log) n ns
          two true z = sent_later e log n ns (f (sym (ap (λ (b : Bool). if b then by_ordinal (sends_in W (Requests s) log) else m ∷ by_ordinal (sends_in W (Requests s) log)) z) ∙ all))
          two false z =
              let y : m ∷ requests_sent W s log ≡ n ∷ ns = sym (ap (λ (b : Bool). if b then by_ordinal (sends_in W (Requests s) log) else m ∷ by_ordinal (sends_in W (Requests s) log)) z) ∙ all in
              let a : m ≡ n = cc in
              let c : requests_sent W s log ≡ ns = cc in
              sent_entry e log n ns (q ∙ ap (λ (x : Note). Some x) a) c h

  -- ---- what the slave sends
  tells_role : (from to : Address) (b : List ℕ) (k : Role) (to' : Address) (bytes : List ℕ) → sent_move W s from to b k ≡ Tells to' bytes → (from ≡ W.slave s) × ((to ≡ to') × (b ≡ bytes))
  tells_role from to b (Request receiver n) to' bytes h = by (same from W.master && same to (W.slave s)) (same from (W.slave s)) refl h
    where
      by : (x y : Bool) → same from (W.slave s) ≡ y → (if x then Asks n else (if y then Tells to b else Other)) ≡ Tells to' bytes → (from ≡ W.slave s) × ((to ≡ to') × (b ≡ bytes))
      by true y e z = absurd cc
      by false true e z = (same_is from (W.slave s) e, (cc, cc))
      by false false e z = absurd cc
  tells_role from to b (Answer sender n) to' bytes h = by (same from (W.slave s)) refl h
    where
      by : (y : Bool) → same from (W.slave s) ≡ y → (if y then Tells to b else Other) ≡ Tells to' bytes → (from ≡ W.slave s) × ((to ≡ to') × (b ≡ bytes))
      by true e z = (same_is from (W.slave s) e, (cc, cc))
      by false e z = absurd cc
  tells_role from to b (Value id n) to' bytes h = by (same from (W.slave s)) refl h
    where
      by : (y : Bool) → same from (W.slave s) ≡ y → (if y then Tells to b else Other) ≡ Tells to' bytes → (from ≡ W.slave s) × ((to ≡ to') × (b ≡ bytes))
      by true e z = (same_is from (W.slave s) e, (cc, cc))
      by false e z = absurd cc
  tells_role from to b Else to' bytes h = by (same from (W.slave s)) refl h
    where
      by : (y : Bool) → same from (W.slave s) ≡ y → (if y then Tells to b else Other) ≡ Tells to' bytes → (from ≡ W.slave s) × ((to ≡ to') × (b ≡ bytes))
      by true e z = (same_is from (W.slave s) e, (cc, cc))
      by false e z = absurd cc

  got_tells : (at' from : Address) (k : Role) (to : Address) (bytes : List ℕ) → got_move W s at' from k ≡ Tells to bytes → ⊥
  got_tells at' from k to bytes h = grind (arith, nat_tests)

  pub tells_entry : (e : LogEntry) (to : Address) (bytes : List ℕ) → move W s e ≡ Tells to bytes → e ≡ Sent (W.slave s) to bytes
  tells_entry (Sent from to' b) to bytes h =
      let q = tells_role from to' b (role_heard W b) to bytes h in
      ap (λ (x : Address). Sent x to' b) q.0 ∙ ap (λ (x : Address). Sent (W.slave s) x b) (q.1).0 ∙ ap (λ (x : List ℕ). Sent (W.slave s) to x) (q.1).1
  tells_entry (Got at' from b) to bytes h = absurd (got_tells at' from (role_heard W b) to bytes h)
  tells_entry (Idle at') to bytes h = by (same at' (W.slave s)) h
    where
      by : (c : Bool) → (if c then Rests else Other) ≡ Tells to bytes → Idle at' ≡ Sent (W.slave s) to bytes
      by true z = absurd cc
      by false z = absurd cc
  tells_entry (Turn at') to bytes h = by (same at' (W.slave s)) h
    where
      by : (c : Bool) → (if c then Turns else Other) ≡ Tells to bytes → Turn at' ≡ Sent (W.slave s) to bytes
      by true z = absurd cc
      by false z = absurd cc

  -- ---- what it still has to send it sends before its next event
  pub record IsSentIn (part : List LogEntry) (to : Address) (bytes : List ℕ) : Type 0 where
    pub after : List LogEntry
    pub before : List LogEntry
    pub is : part ≡ after ++ Sent (W.slave s) to bytes ∷ before

  abbrev pub StillSends : (part : List LogEntry) → Post → Desk → Type 0
  StillSends part p d = IsSentIn part p.to p.bytes ⊎ ((rest : List Post) × (d.owed ≡ p ∷ rest))

  owes_on : (e : LogEntry) (part : List LogEntry) (p : Post) (rest : List Post) (x y : Desk) → x.owed ≡ p ∷ rest → SlaveMay (move W s e) x.owed → ServesNote W (X.accepts s) (move W s e) x y → StillSends (e ∷ part) p y
  owes_on e part p rest x y o may serves = by (move W s e) refl (subst (λ z. SlaveMay (move W s e) z) o may) serves
    where
      off : p ∷ rest ≡ [] → ⊥
      off z = cc

      by : (mv : Move) → move W s e ≡ mv → SlaveMay mv (p ∷ rest) → ServesNote W (X.accepts s) mv x y → StillSends (e ∷ part) p y
      by (Asks n) q m v = inr (rest, ap (λ (d : Desk). d.owed) v ∙ o)
      by (Comes from receiver n) q m v = absurd (off m)
      by (Tells to bytes) q m v =
          let t = tells_entry e to bytes q in
          inl (record { after = []; before = part; is = ap (λ (x : LogEntry). x ∷ part) (t ∙ ap (λ (x : Address). Sent (W.slave s) x bytes) (sym m.0) ∙ ap (λ (x : List ℕ). Sent (W.slave s) p.to x) (sym m.1)) })
      by (Hears n) q m v = inr (rest, ap (λ (d : Desk). d.owed) v ∙ o)
      by (Brings from id n) q m v = absurd (off m)
      by Turns q m v = absurd (off m)
      by Rests q m v = absurd (off m)
      by Other q m v = inr (rest, ap (λ (d : Desk). d.owed) v ∙ o)

  pub sends_on : (e : LogEntry) (part : List LogEntry) (p : Post) (x y : Desk) → StillSends part p x → SlaveMay (move W s e) x.owed → ServesNote W (X.accepts s) (move W s e) x y → StillSends (e ∷ part) p y
  sends_on e part p x y (inl f) may serves = inl (record { after = e ∷ f.after; before = f.before; is = ap (λ (z : List LogEntry). e ∷ z) f.is })
  sends_on e part p x y (inr o) may serves = owes_on e part p o.0 x y o.1 may serves

  -- ---- a part of the log in which nothing new is asked or decided
  module _ (n : Note) (ns : List Note) (sofar : List LogEntry) (all : Behaves W X sofar) (run : IsRun (setup_from sc) sofar) (asked_now : requests_sent W s sofar ≡ n ∷ ns) (decided_now : length (decided_exchanges W s sofar) ≡ length ns)
      (not_over : list_any is_over_exchange (decided_exchanges W s sofar) ≡ true → ⊥) (sent : FirstSent sofar n ns) where
    abbrev First : List LogEntry
    First = Sent W.master (W.slave s) (sent.bytes) ∷ sent.earlier

    abbrev DeskAt : List LogEntry → Desk
    DeskAt log = (at M W s log).desk

    pub record MidFacts (log : List LogEntry) : Type 0 where
      pub behaves : Behaves W X log
      pub run_so : IsRun (setup_from sc) log
      pub asked : requests_sent W s log ≡ n ∷ ns
      pub decided : length (decided_exchanges W s log) ≡ length ns

    one_more : (ds : List DecidedRequest) → length (n ∷ ns) ≤ length ds + 1 → length ns ≤ length ds
    one_more ds h = omega (arith, h)

    -- at each moment since the first sending
    pub mid_facts : (front mid : List LogEntry) → sofar ≡ front ++ (mid ++ First) → MidFacts (mid ++ First)
    mid_facts front mid e =
        let P : List LogEntry → Type 0 = λ z. Behaves W X z in
        let Q : List LogEntry → Type 0 = λ z. IsRun (setup_from sc) z in
        let b = drop_later W X (are_slaves sc other ok) front (mid ++ First) (subst P e all) in
        let up : length (requests_sent W s (mid ++ First)) ≤ length (n ∷ ns) = (let a = extends_length (requests_sent W s (front ++ (mid ++ First))) (requests_sent W s (mid ++ First)) (requests_grow W s front (mid ++ First)) in let c = ap length (ap (requests_sent W s) (sym e) ∙ asked_now) in omega (arith, a, c)) in
        let low : length (n ∷ ns) ≡ length (requests_sent W s First) = sym (ap length sent.here) in
        let same' = extends_same (requests_sent W s (mid ++ First)) (requests_sent W s First) (requests_grow W s mid First) (omega (arith, up, low)) ∙ sent.here in
        let few : length (decided_exchanges W s (mid ++ First)) ≤ length ns = (let a = extends_length (decided_exchanges W s (front ++ (mid ++ First))) (decided_exchanges W s (mid ++ First)) (decided_grow W s front (mid ++ First)) in let c = ap length (ap (decided_exchanges W s) (sym e)) ∙ decided_now in omega (arith, a, c)) in
        let k = known W X (are_slaves sc other ok) s it (mid ++ First) b in
        let many = one_more (decided_exchanges W s (mid ++ First)) (let a = (k.talk).asked in let c = ap length same' in omega (arith, a, c)) in
        record { behaves = b; run_so = run_front (setup_from sc) front (mid ++ First) (subst Q e run); asked = same'; decided = omega (arith, few, many) }

    number_is : n.number ≡ length ns % 65536
    number_is =
        let k = known W X (are_slaves sc other ok) s it sofar all in
        let c : 0 < length (requests_sent W s sofar) = (let a = ap length asked_now in omega (arith, a)) in
        let t = last_of (sends_in W (Requests s) sofar) k.requests c in
        by t.0 t.1 (sym asked_now ∙ t.2) t.3
      where
        by : (r : Note) (rest : List Note) → n ∷ ns ≡ r ∷ rest → r.number ≡ length rest % 65536 → n.number ≡ length ns % 65536
        by r rest e h = let a : n ≡ r = cc in let b : ns ≡ rest = cc in ap (λ (x : Note). x.number) a ∙ h ∙ ap (λ (l : List Note). length l % 65536) (sym b)

    -- ---- the slave takes it when it comes
    module _ (front mid : List LogEntry) (split : sofar ≡ front ++ (mid ++ First)) where
      abbrev Log' : List LogEntry
      Log' = mid ++ First

      facts : MidFacts Log'
      facts = mid_facts front mid split

      abbrev Es : List DecidedRequest
      Es = (DeskAt Log').served

      same_decided : length Es ≡ length ns → decided_exchanges W s sofar ≡ Es
      same_decided l =
          let k = known W X (are_slaves sc other ok) s it Log' facts.behaves in
          let d = facts.decided in
          let grow = decided_grow W s front Log' in
          let e = ap (decided_exchanges W s) split in
          let h : length (decided_exchanges W s (front ++ Log')) ≤ length (decided_exchanges W s Log') = (let a = ap length e in let c = decided_now in omega (arith, a, c, d)) in
          e ∙ extends_same (decided_exchanges W s (front ++ Log')) (decided_exchanges W s Log') grow h ∙ by (decided_exchanges W s Log') ((k.talk).decided) d
        where
          by : (ds : List DecidedRequest) → (ds ≡ Es) ⊎ ((y : DecidedRequest) × (Es ≡ y ∷ ds)) → length ds ≡ length ns → ds ≡ Es
          by ds (inl e) d = e
          by ds (inr e) d = let z = ap length e.1 in absurd (omega (arith, z, l, d))

      accepted : ns ≡ [] → (X.accepts s) n ≡ true
      accepted none =
          let k = known W X (are_slaves sc other ok) s it Log' facts.behaves in
          (k.talk).first n (ap (λ (l : List Note). at_ordinal l 0) (facts.asked ∙ ap (λ (l : List Note). n ∷ l) none))

      fate_taken : (from : Address) (r : req.SlaveRequest) → from ≡ W.master → r.receiver ≡ s → r.number ≡ n.number → spec.heard_as (Some n.message) ≡ spec.Asks r → length Es ≡ length ns
          → (session : Session) → SessionIs W.master s session Es → transport.fate_in M session (at M W s Log').slave.served from r ≡ Taken
      fate_taken from r a b c read l Before h =
          let none : ns ≡ [] = empty ns (sym l ∙ ap length h) in
          by (M.refuses r.asked) refl (sym (ap (accepts_heard M) read) ∙ accepted none)
        where
          empty : (xs : List Note) → length xs ≡ 0 → xs ≡ []
          empty [] e = refl
          empty (x ∷ xs) e = absurd (omega (arith, e))

          by : (o : Option ErrorCode) → M.refuses r.asked ≡ o → accepts_asked M r.number r.asked (M.refuses r.asked) ≡ true → (if transport.is_register r.asked && (r.number == 0) then transport.admitted (M.refuses r.asked) else Dropped) ≡ Taken
          by None e h =
              let g : (transport.is_register r.asked && (r.number == 0)) ≡ true = sym (ap (accepts_asked M r.number r.asked) e) ∙ h in
              ap (λ (t : Bool). if t then transport.admitted (M.refuses r.asked) else Dropped) g ∙ ap transport.admitted e
          by (Some code) e h = let g : false ≡ true = sym (ap (accepts_asked M r.number r.asked) e) ∙ h in absurd cc
      fate_taken from r a b c read l (During master id) h =
          let first : transport.same_address from master ≡ true = ap (λ (x : Address). transport.same_address x master) (a ∙ sym h.0) ∙ address_self master in
          let second : (r.receiver == id) ≡ true = eq-eqb r.receiver id (b ∙ sym h.1) in
          let k : r.number ≡ transport.expected (at M W s Log').slave.served = c ∙ number_is ∙ ap (λ (i : ℕ). i % 65536) (sym l ∙ sym (counts_at sc other ok s it Log')) in
          let small : transport.expected (at M W s Log').slave.served < 65536 = omega arith in
          ap (λ (t : Bool). if t && (r.receiver == id) then transport.placed (place r.number (transport.expected (at M W s Log').slave.served)) else Dropped) first
          ∙ ap (λ (t : Bool). if t then transport.placed (place r.number (transport.expected (at M W s Log').slave.served)) else Dropped) second
          ∙ ap (λ (i : ℕ). transport.placed (place i (transport.expected (at M W s Log').slave.served))) k
          ∙ ap transport.placed (place_self (transport.expected (at M W s Log').slave.served) small)
      fate_taken from r a b c read l (After master id) h = absurd (not_over (ap (list_any is_over_exchange) (same_decided l) ∙ (h.1).1))

    -- ---- it did not come to the slave so far, or it was taken and answered
    pub record IsTakenIn (mid : List LogEntry) (d : Desk) : Type 0 where
      pub after : List LogEntry
      pub before : List LogEntry
      pub entry : LogEntry
      pub split : mid ≡ after ++ entry ∷ before
      pub gets : GetsRequest W s n entry
      pub bytes : List ℕ
      pub answer : Note
      pub read : role_heard W bytes ≡ Answer s answer
      pub number : answer.number ≡ n.number
      pub sends : StillSends after (record { to = W.master; bytes = bytes }) d

    abbrev Scanned : List LogEntry → Desk → Type 0
    Scanned mid d = ((length d.served ≡ length ns) × NeverGets W s n mid) ⊎ IsTakenIn mid d

    never_more : (e : LogEntry) (mid : List LogEntry) → (GetsRequest W s n e → ⊥) → NeverGets W s n mid → NeverGets W s n (e ∷ mid)
    never_more e mid f g [] before x q k = let z : e ≡ x = cc in let P : LogEntry → Type 0 = λ y. GetsRequest W s n y in f (subst P (sym z) k)
    never_more e mid f g (y ∷ after) before x q k = let z : mid ≡ after ++ x ∷ before = cc in g after before x z k

    no_got : (e : LogEntry) → ((at' from : Address) (bytes : List ℕ) → e ≡ Got at' from bytes → ⊥) → GetsRequest W s n e → ⊥
    no_got e f k = f (W.slave s) W.master k.bytes k.is

    same_served : (mid : List LogEntry) (e : LogEntry) (x y : Desk) → y.served ≡ x.served → (GetsRequest W s n e → ⊥) → (length x.served ≡ length ns) × NeverGets W s n mid → Scanned (e ∷ mid) y
    same_served mid e x y g f h = inl (ap length g ∙ h.0, never_more e mid f h.1)

    sent_served : (mv : Move) (x : Both Plant) → (sent_next M W s mv x).desk.served ≡ x.desk.served
    sent_served (Asks k) x = refl
    sent_served (Comes from receiver k) x = refl
    sent_served (Tells to bytes) x = refl
    sent_served (Hears k) x = refl
    sent_served (Brings from id k) x = refl
    sent_served Turns x = refl
    sent_served Rests x = refl
    sent_served Other x = refl

    taken_more : (front mid : List LogEntry) (e : LogEntry) → sofar ≡ front ++ (e ∷ mid ++ First) → IsTakenIn mid (DeskAt (mid ++ First)) → IsTakenIn (e ∷ mid) (DeskAt (e ∷ mid ++ First))
    taken_more front mid e split t =
        let f = mid_facts front (e ∷ mid) split in
        let may = ((f.behaves).slaves s it).0 in
        let serves = ((are_slaves sc other ok).each s it).goes e (mid ++ First) may in
        record {
          after = e ∷ t.after;
          before = t.before;
          entry = t.entry;
          split = ap (λ (z : List LogEntry). e ∷ z) t.split;
          gets = t.gets;
          bytes = t.bytes;
          answer = t.answer;
          read = t.read;
          number = t.number;
          sends = sends_on e t.after (record { to = W.master; bytes = t.bytes }) (DeskAt (mid ++ First)) (DeskAt (e ∷ mid ++ First)) t.sends may serves;
        }

    -- a datagram that comes to the slave
    module _ (front mid : List LogEntry) (at' from : Address) (bytes : List ℕ) (split : sofar ≡ front ++ (Got at' from bytes ∷ mid ++ First)) (here : same at' (W.slave s) ≡ true) where
      abbrev E' : LogEntry
      E' = Got at' from bytes

      abbrev X' : Both Plant
      X' = at M W s (mid ++ First)

      after_it : MidFacts (E' ∷ mid ++ First)
      after_it = mid_facts front (E' ∷ mid) split

      before_it : sofar ≡ (front ++ E' ∷ []) ++ (mid ++ First)
      before_it = split ∙ sym (append_assoc front (E' ∷ []) (mid ++ First))

      facts_it : MidFacts (mid ++ First)
      facts_it = mid_facts (front ++ E' ∷ []) mid before_it

      desk_is : DeskAt (E' ∷ mid ++ First) ≡ (got M W s from bytes X').desk
      desk_is = ap (λ (c : Bool). (if c then got M W s from bytes X' else X').desk) here

      of_master : (receiver : ℕ) (k : Note) → role_heard W bytes ≡ Request receiver k → IsOfMaster sc other ok s it from k
      of_master receiver k e =
          let P : Address → Type 0 = λ a. IsRepeatedNewest W (mid ++ First) a from bytes in
          comes_of_master sc other ok s it (mid ++ First) facts_it.behaves facts_it.run_so from bytes receiver k (subst P (same_is at' (W.slave s) here) after_it.behaves.honest.0) e

      Result : Type 0
      Result = Scanned (E' ∷ mid) (got M W s from bytes X').desk

      unheard : (role : Role) → role_heard W bytes ≡ role → ((receiver : ℕ) (k : Note) → role ≡ Request receiver k → ⊥) → GetsRequest W s n E' → ⊥
      unheard role e f k =
          let z : Got at' from bytes ≡ Got (W.slave s) W.master k.bytes = k.is in
          let y : bytes ≡ k.bytes = cc in
          f k.receiver n (sym e ∙ ap (role_heard W) y ∙ k.read)

      -- a request
      asked_it : (receiver : ℕ) (k : Note) (r : req.SlaveRequest) → role_heard W bytes ≡ Request receiver k → spec.heard bytes ≡ spec.Asks r → r.number ≡ k.number → spec.heard_as (Some k.message) ≡ spec.Asks r → (length X'.desk.served ≡ length ns) × NeverGets W s n mid
          → (f : Fate) → transport.fate M X'.slave from r ≡ f → ((length (served_by M X'.slave X'.desk.served k r f) ≡ length ns) × NeverGets W s n (E' ∷ mid)) ⊎ ((f ≡ Taken) × ((k ≡ n) × (r.receiver ≡ s)))
      asked_it receiver k r role hears num read h f fate = by f fate
        where
          m : IsOfMaster sc other ok s it from k
          m = of_master receiver k role

          receives : r.receiver ≡ s
          receives = heard_receiver k.message.code k.message.values r read ∙ ap (λ (z : Note). spec.number_at 1 z.message.values) m.note_is

          never : (f : Fate) → transport.fate M X'.slave from r ≡ f → (f ≡ Taken → ⊥) → NeverGets W s n (E' ∷ mid)
          never f e off = never_more E' mid (λ g. gone g) h.1
            where
              gone : GetsRequest W s n E' → ⊥
              gone g =
                  let z : Got at' from bytes ≡ Got (W.slave s) W.master g.bytes = g.is in
                  let y : bytes ≡ g.bytes = cc in
                  let same_role : Request receiver k ≡ Request g.receiver n = sym role ∙ ap (role_heard W) y ∙ g.read in
                  let x : k ≡ n = cc in
                  let P : Note → Type 0 = λ q. spec.heard_as (Some q.message) ≡ spec.Asks r in
                  let t = fate_taken (front ++ E' ∷ []) mid before_it from r m.from_is receives (num ∙ ap (λ (q : Note). q.number) x) (subst P x read) h.0 X'.slave.session (session_at sc other ok s it (mid ++ First) facts_it.behaves facts_it.run_so) in
                  off (sym e ∙ t)

          taken_not : (f : Fate) → f ≡ Dropped → f ≡ Taken → ⊥
          taken_not f a b = let z : Dropped ≡ Taken = sym a ∙ b in cc

          by : (f : Fate) → transport.fate M X'.slave from r ≡ f → ((length (served_by M X'.slave X'.desk.served k r f) ≡ length ns) × NeverGets W s n (E' ∷ mid)) ⊎ ((f ≡ Taken) × ((k ≡ n) × (r.receiver ≡ s)))
          by Dropped e = inl (h.0, never Dropped e (λ z. off z))
            where
              off : Dropped ≡ Taken → ⊥
              off z = cc
          by (Refused code) e = inl (h.0, never (Refused code) e (λ z. off z))
            where
              off : Refused code ≡ Taken → ⊥
              off z = cc
          by Repeated e = inl (h.0, never Repeated e (λ z. off z))
            where
              off : Repeated ≡ Taken → ⊥
              off z = cc
          by Taken e = inr (refl, (newest, receives))
            where
              served_is : DeskAt (E' ∷ mid ++ First) ≡ (got M W s from bytes X').desk → (DeskAt (E' ∷ mid ++ First)).served ≡ served_by M X'.slave X'.desk.served k r Taken
              served_is d =
                  ap (λ (x : Desk). x.served) d
                  ∙ ap (λ (x : Role). served_after M X'.slave X'.desk.served from x (spec.heard bytes)) role
                  ∙ ap (λ (x : spec.Heard). served_after M X'.slave X'.desk.served from (Request receiver k) x) hears
                  ∙ ap (λ (x : Fate). served_by M X'.slave X'.desk.served k r x) e

              newest : k ≡ n
              newest =
                  let t = known W X (are_slaves sc other ok) s it (E' ∷ mid ++ First) after_it.behaves in
                  two (requests_of (DeskAt (E' ∷ mid ++ First)).served) (requests_sent W s (E' ∷ mid ++ First)) ((t.talk).taken) after_it.asked (ap requests_of (served_is desk_is))
                where
                  two : (qs rs : List Note) → (qs ≡ rs) ⊎ ((y : Note) × (rs ≡ y ∷ qs)) → rs ≡ n ∷ ns → qs ≡ k ∷ requests_of X'.desk.served → k ≡ n
                  two qs rs (inl e) a b = let z : k ∷ requests_of X'.desk.served ≡ n ∷ ns = sym b ∙ e ∙ a in cc
                  two qs rs (inr e) a b =
                      let z = ap length (sym a ∙ e.1) in
                      let y = ap length b in
                      let l = h.0 in
                      let i = taken_length X'.desk.served in
                      absurd (omega (arith, z, y, l, i))

      taken_it : (receiver : ℕ) (k : Note) (r : req.SlaveRequest) → role_heard W bytes ≡ Request receiver k → spec.heard bytes ≡ spec.Asks r → r.number ≡ k.number → transport.fate M X'.slave from r ≡ Taken → k ≡ n → r.receiver ≡ s → (es : List DecidedRequest)
          → IsTakenIn (E' ∷ mid) (record { served = es; owed = map post (transport.request_sends M X'.slave from r (transport.fate M X'.slave from r)) })
      taken_it receiver k r role hears num fate same_note receives es =
          let a = M.answers r.asked X'.slave.inner in
          let many = transport.expected (record { request = r; answer = a.answer } ∷ X'.slave.served) in
          let message = transport.send from (transport.answer_message r many a.answer) in
          let m = of_master receiver k role in
          let rb = (reads_back sc other ok s it).sends (mid ++ First) in
          record {
            after = [];
            before = mid;
            entry = E';
            split = refl;
            gets = record { bytes = bytes; receiver = receiver; is = ap (λ (x : Address). Got x from bytes) (same_is at' (W.slave s) here) ∙ ap (λ (x : Address). Got (W.slave s) x bytes) m.from_is; read = role ∙ ap (λ (x : Note). Request receiver x) same_note };
            bytes = message.bytes;
            answer = answer_note r many a.answer;
            read = (rb.answer bytes r hears from).0 ∙ ap (λ (i : ℕ). Answer i (answer_note r many a.answer)) receives;
            number = num ∙ ap (λ (x : Note). x.number) same_note;
            sends = inr (map post (transport.notice_sends from r.receiver a.notices), ap (λ (f : Fate). map post (transport.request_sends M X'.slave from r f)) fate ∙ ap (λ (x : Address). record { to = x; bytes = message.bytes } ∷ map post (transport.notice_sends from r.receiver a.notices)) m.from_is);
          }

      by_role : (role : Role) (h : spec.Heard) → role_heard W bytes ≡ role → spec.heard bytes ≡ h → Agree role h → (length X'.desk.served ≡ length ns) × NeverGets W s n mid
          → Scanned (E' ∷ mid) (record { served = served_after M X'.slave X'.desk.served from role h; owed = map post (transport.heard_sends M X'.slave from h) })
      by_role (Request receiver k) (spec.Asks r) e f a h = two (asked_it receiver k r e f a.0 a.2 h (transport.fate M X'.slave from r) refl)
        where
          two : ((length (served_by M X'.slave X'.desk.served k r (transport.fate M X'.slave from r)) ≡ length ns) × NeverGets W s n (E' ∷ mid)) ⊎ ((transport.fate M X'.slave from r ≡ Taken) × ((k ≡ n) × (r.receiver ≡ s)))
              → Scanned (E' ∷ mid) (record { served = served_by M X'.slave X'.desk.served k r (transport.fate M X'.slave from r); owed = map post (transport.request_sends M X'.slave from r (transport.fate M X'.slave from r)) })
          two (inl z) = inl z
          two (inr z) = inr (taken_it receiver k r e f a.0 z.0 (z.1).0 (z.1).1 (served_by M X'.slave X'.desk.served k r (transport.fate M X'.slave from r)))
      by_role (Request receiver k) (spec.Brings number i payload) e f a h = absurd a
      by_role (Request receiver k) spec.Nothing e f a h = absurd a
      by_role (Answer sender k) (spec.Asks r) e f a h = absurd a
      by_role (Answer sender k) (spec.Brings number i payload) e f a h = absurd a
      by_role (Answer sender k) spec.Nothing e f a h = inl (h.0, never_more E' mid (unheard (Answer sender k) e (λ receiver q z. off receiver q z)) h.1)
        where
          off : (receiver : ℕ) (q : Note) → Answer sender k ≡ Request receiver q → ⊥
          off receiver q z = cc
      by_role (Value id k) (spec.Asks r) e f a h = absurd a
      by_role (Value id k) (spec.Brings number i payload) e f a h = inl (h.0, never_more E' mid (unheard (Value id k) e (λ receiver q z. off receiver q z)) h.1)
        where
          off : (receiver : ℕ) (q : Note) → Value id k ≡ Request receiver q → ⊥
          off receiver q z = cc
      by_role (Value id k) spec.Nothing e f a h = absurd a
      by_role Else (spec.Asks r) e f a h = absurd a
      by_role Else (spec.Brings number i payload) e f a h = absurd a
      by_role Else spec.Nothing e f a h = inl (h.0, never_more E' mid (unheard Else e (λ receiver q z. off receiver q z)) h.1)
        where
          off : (receiver : ℕ) (q : Note) → Else ≡ Request receiver q → ⊥
          off receiver q z = cc

      got_scanned : (length X'.desk.served ≡ length ns) × NeverGets W s n mid → Scanned (E' ∷ mid) (DeskAt (E' ∷ mid ++ First))
      got_scanned h =
          let P : Desk → Type 0 = λ d. Scanned (E' ∷ mid) d in
          subst P (sym desk_is) (by_role (role_heard W bytes) (spec.heard bytes) refl refl ((reads_back sc other ok s it).agree bytes) h)

    turn_served : (c : Bool) (x : Both Plant) → (if c then ticked M W s x else x).desk.served ≡ x.desk.served
    turn_served true x = refl
    turn_served false x = refl

    entry_scanned : (front mid : List LogEntry) (e : LogEntry) → sofar ≡ front ++ (e ∷ mid ++ First) → (length (DeskAt (mid ++ First)).served ≡ length ns) × NeverGets W s n mid → Scanned (e ∷ mid) (DeskAt (e ∷ mid ++ First))
    entry_scanned front mid (Sent from to bytes) split h = same_served mid (Sent from to bytes) (DeskAt (mid ++ First)) (DeskAt (Sent from to bytes ∷ mid ++ First)) (sent_served (move W s (Sent from to bytes)) (at M W s (mid ++ First))) (no_got (Sent from to bytes) (λ a b c z. off a b c z)) h
      where
        off : (at' f : Address) (b : List ℕ) → Sent from to bytes ≡ Got at' f b → ⊥
        off at' f b z = cc
    entry_scanned front mid (Idle at') split h = same_served mid (Idle at') (DeskAt (mid ++ First)) (DeskAt (Idle at' ∷ mid ++ First)) refl (no_got (Idle at') (λ a b c z. off a b c z)) h
      where
        off : (a f : Address) (b : List ℕ) → Idle at' ≡ Got a f b → ⊥
        off a f b z = cc
    entry_scanned front mid (Turn at') split h = same_served mid (Turn at') (DeskAt (mid ++ First)) (DeskAt (Turn at' ∷ mid ++ First)) (turn_served (same at' (W.slave s)) (at M W s (mid ++ First))) (no_got (Turn at') (λ a b c z. off a b c z)) h
      where
        off : (a f : Address) (b : List ℕ) → Turn at' ≡ Got a f b → ⊥
        off a f b z = cc
    entry_scanned front mid (Got at' from bytes) split h = by (same at' (W.slave s)) refl
      where
        by : (c : Bool) → same at' (W.slave s) ≡ c → Scanned (Got at' from bytes ∷ mid) (DeskAt (Got at' from bytes ∷ mid ++ First))
        by true e = got_scanned front mid at' from bytes split e h
        by false e =
            same_served mid (Got at' from bytes) (DeskAt (mid ++ First)) (DeskAt (Got at' from bytes ∷ mid ++ First))
            (ap (λ (c : Bool). (if c then got M W s from bytes (at M W s (mid ++ First)) else at M W s (mid ++ First)).desk.served) e) (λ k. off k) h
          where
            off : GetsRequest W s n (Got at' from bytes) → ⊥
            off k =
                let z : Got at' from bytes ≡ Got (W.slave s) W.master k.bytes = k.is in
                let y : at' ≡ W.slave s = cc in
                clash (sym (same_self (W.slave s)) ∙ ap (λ (a : Address). same a (W.slave s)) (sym y) ∙ e)

    first_served : MidFacts First → length (DeskAt First).served ≡ length ns
    first_served f =
        let sl = are_slaves sc other ok in
        let b = earlier W X sl (Sent W.master (W.slave s) (sent.bytes)) sent.earlier f.behaves in
        let k = known W X sl s it sent.earlier b in
        let m = known W X sl s it First f.behaves in
        let same' = sent_served (move W s (Sent W.master (W.slave s) (sent.bytes))) (at M W s sent.earlier) in
        let up = most (requests_of (DeskAt sent.earlier).served) (requests_sent W s sent.earlier) (k.talk).taken in
        let low = least (requests_of (DeskAt First).served) (requests_sent W s First) (m.talk).taken in
        let a = taken_length (DeskAt sent.earlier).served in
        let c = taken_length (DeskAt First).served in
        let l = ap length same' in
        let g = ap length sent.before in
        let h = ap length sent.here in
        omega (arith, up, low, a, c, l, g, h)
      where
        most : (qs rs : List Note) → (qs ≡ rs) ⊎ ((y : Note) × (rs ≡ y ∷ qs)) → length qs ≤ length rs
        most qs rs (inl e) = let z = ap length e in omega (arith, z)
        most qs rs (inr e) = let z = ap length e.1 in omega (arith, z)

        least : (qs rs : List Note) → (qs ≡ rs) ⊎ ((y : Note) × (rs ≡ y ∷ qs)) → length rs ≤ length qs + 1
        least qs rs (inl e) = let z = ap length e in omega (arith, z)
        least qs rs (inr e) = let z = ap length e.1 in omega (arith, z)

    scan : (mid front : List LogEntry) → sofar ≡ front ++ (mid ++ First) → Scanned mid (DeskAt (mid ++ First))
    scan [] front split = inl (first_served (mid_facts front [] split), λ after before e z k. none after before e z)
      where
        none : (after before : List LogEntry) (e : LogEntry) → [] ≡ after ++ e ∷ before → ⊥
        none [] before e z = cc
        none (x ∷ after) before e z = cc
    scan (e ∷ mid) front split = by (scan mid (front ++ e ∷ []) (split ∙ sym (append_assoc front (e ∷ []) (mid ++ First))))
      where
        by : Scanned mid (DeskAt (mid ++ First)) → Scanned (e ∷ mid) (DeskAt (e ∷ mid ++ First))
        by (inl h) = entry_scanned front mid e split h
        by (inr t) = inr (taken_more front mid e split t)

    -- ---- an answer that was sent has not come, since none decides
    never_came : (front mid : List LogEntry) (bytes : List ℕ) (a : Note) → role_heard W bytes ≡ Answer s a → a.number ≡ n.number → sofar ≡ front ++ (Got W.master (W.slave s) bytes ∷ mid ++ First) → ⊥
    never_came front mid bytes a read num split =
        let e : LogEntry = Got W.master (W.slave s) bytes in
        let f = mid_facts front (e ∷ mid) split in
        let g = mid_facts (front ++ e ∷ []) mid (split ∙ sym (append_assoc front (e ∷ []) (mid ++ First))) in
        let mv = heard_move (same W.master (W.slave s)) (same W.master W.master) (same (W.slave s) (W.slave s)) (s == s) apart_it (same_self W.master) (same_self (W.slave s)) (eq-eqb s s refl) in
        let is_move : move W s e ≡ Hears a = ap (λ (k : Role). got_move W s W.master (W.slave s) k) read ∙ mv in
        let l = decided_more (requests_sent W s (mid ++ First)) (decided_exchanges W s (mid ++ First)) g.asked g.decided in
        let h = ap (λ (m : Move). length (decided_after m (requests_sent W s (mid ++ First)) (decided_exchanges W s (mid ++ First)))) is_move in
        let d = f.decided in
        omega (arith, l, h, d)
      where
        apart_it : same W.master (W.slave s) ≡ false
        apart_it = by (same W.master (W.slave s)) refl
          where
            by : (b : Bool) → same W.master (W.slave s) ≡ b → b ≡ false
            by false z = refl
            by true z = absurd ((has_parties sc other ok message_in).apart.master s it (sym (same_is W.master (W.slave s) z)))

        heard_move : (p q r t : Bool) → p ≡ false → q ≡ true → r ≡ true → t ≡ true → (if p then Rests else (if (q && r) && t then Hears a else Other)) ≡ Hears a
        heard_move p q r t e f g h = grind arith

        decided_more : (rs : List Note) (ds : List DecidedRequest) → rs ≡ n ∷ ns → length ds ≡ length ns → length (decided_after (Hears a) rs ds) ≡ length ns + 1
        decided_more rs ds e l =
            let P : List Note → Type 0 = λ z. length (decided_after (Hears a) z ds) ≡ length ns + 1 in
            subst P (sym e) (ap (λ (b : Bool). length (if b && (a.number == n.number) then record { request = n; answer = a } ∷ ds else ds)) below ∙ ap (λ (b : Bool). length (if b then record { request = n; answer = a } ∷ ds else ds)) (eq-eqb a.number n.number num) ∙ size)
          where
            below : nat_lt (length ds) (length (n ∷ ns)) ≡ true
            below = grind (arith, nat_tests, l)

            size : length (record { request = n; answer = a } ∷ ds) ≡ length ns + 1
            size = omega (arith, l)

    under_way : (t : IsTakenIn sent.since (DeskAt (sent.since ++ First))) → IsSentIn t.after W.master t.bytes → IsAnsweredInVain W s n sent.since
    under_way t f = record {
      after = t.after;
      before = t.before;
      entry = t.entry;
      is = t.split;
      gets = t.gets;
      bytes = t.bytes;
      answer = t.answer;
      read = t.read;
      number = t.number;
      under_way = record { after = f.after; before = f.before; is = f.is; not_come = λ x y e. gone x y e };
    }
      where
        gone : (x y : List LogEntry) → f.after ≡ x ++ Got W.master (W.slave s) t.bytes ∷ y → ⊥
        gone x y e =
            let g : LogEntry = Got W.master (W.slave s) t.bytes in
            let tail = Sent (W.slave s) W.master t.bytes ∷ f.before in
            let one : t.after ≡ x ++ (g ∷ (y ++ tail)) = f.is ∙ ap (λ (z : List LogEntry). z ++ tail) e ∙ append_assoc x (g ∷ y) tail in
            let two : sent.since ≡ x ++ (g ∷ ((y ++ tail) ++ t.entry ∷ t.before)) = t.split ∙ ap (λ (z : List LogEntry). z ++ t.entry ∷ t.before) one ∙ append_assoc x (g ∷ (y ++ tail)) (t.entry ∷ t.before) in
            let three : sofar ≡ x ++ (g ∷ ((y ++ tail) ++ t.entry ∷ t.before) ++ First) = sent.split ∙ ap (λ (z : List LogEntry). z ++ First) two ∙ append_assoc x (g ∷ ((y ++ tail) ++ t.entry ∷ t.before)) First in
            never_came x ((y ++ tail) ++ t.entry ∷ t.before) t.bytes t.answer t.read t.number three

    pub why_unheard : (DeskAt sofar).owed ≡ [] → NeverGets W s n sent.since ⊎ IsAnsweredInVain W s n sent.since
    why_unheard none = by (scan sent.since [] sent.split)
      where
        off : {p : Post} {rest : List Post} → p ∷ rest ≡ [] → ⊥
        off z = cc

        by : Scanned sent.since (DeskAt (sent.since ++ First)) → NeverGets W s n sent.since ⊎ IsAnsweredInVain W s n sent.since
        by (inl h) = inl h.1
        by (inr t) = inr (under_way t (two t.sends))
          where
            two : StillSends t.after (record { to = W.master; bytes = t.bytes }) (DeskAt (sent.since ++ First)) → IsSentIn t.after W.master t.bytes
            two (inl f) = f
            two (inr o) = absurd (off (sym o.1 ∙ ap (λ (z : List LogEntry). (DeskAt z).owed) (sym sent.split) ∙ none))
