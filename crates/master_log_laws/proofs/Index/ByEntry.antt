-- A log by the rules is one entry by entry.
use Rattle.std.proofs.Common.{◌≡◌, ℕ, Bool, true, false, if◌then◌else◌, List, [], ◌∷◌, ◌++◌, reverse, refl, sym, ap, ◌∙◌, subst, append-nil, append_assoc}
use Rattle.std.specs.Prelude.{◌==◌, ◌&&◌}
use Rattle.std.proofs.lemmas.Bool.{eqb-true, eqb-false}
use Rattle.std.proofs.lemmas.List.{reverse-append}
use Rattle.dcp_types.specs.declared.addresses.Address.{Address}
use Rattle.dcp_ends.specs.declared.entries.LogEntry.{LogEntry}
use Rattle.dcp_ends.specs.declared.entries.LogEntry.TheVariants.{Sent, Got, Idle, Turn}
use Rattle.dcp_ends.specs.Events.{Event, Gram, Tick, Send}
use Rattle.dcp_ends.specs.Logs.{same_address, own_at, sent_by, answered, events_at}
use Rattle.master_spec.specs.declared.setups.Setup.{Setup}
use Rattle.master_spec.specs.Setup.{setup_from}
use Rattle.master_spec.specs.Course.{course}
use Rattle.master_spec.specs.Rules.{master_rules_from}
use Rattle.master_log_laws.specs.Index.Runs.{with_event, events_of_master, owed, tail, IsFirstSend, where_it_is, IsRun}
use Rattle.master_log_laws.specs.Index.Laws.{RunsEntryByEntry}

-- ---- either way round
equal_turned : (a b : ℕ) → (a == b) ≡ (b == a)
equal_turned a b = by (a == b) (b == a) refl refl
  where
    by : (x y : Bool) → (a == b) ≡ x → (b == a) ≡ y → x ≡ y
    by true true p q = refl
    by false false p q = refl
    by true false p q = absurd (eqb-false b a q (sym (eqb-true a b p)))
    by false true p q = absurd (eqb-false a b p (sym (eqb-true b a q)))

pub address_turned : (a b : Address) → same_address a b ≡ same_address b a
address_turned a b = ap (λ (x : Bool). x && (a.port == b.port)) (equal_turned a.ip b.ip) ∙ ap (λ (x : Bool). (b.ip == a.ip) && x) (equal_turned a.port b.port)

-- what is still to come of a log, after these events, with these sends still to be made
abbrev Comes : Setup → List LogEntry → List Event → List Send → Type 0
Comes setup rest before posts = own_at setup.address rest ≡ sent_by setup.address posts ++ answered (master_rules_from setup) before (events_at setup.address rest)

-- ---- a send is the first that is owed
record IsSend (setup : Setup) (rest : List LogEntry) (before : List Event) (posts : List Send) (to : Address) (bytes : List ℕ) : Type 0 where
  pub first : IsFirstSend posts to bytes
  pub comes : Comes setup rest before (tail posts)

no_event : (setup : Setup) (from to : Address) (bytes : List ℕ) (rest : List LogEntry) (before : List Event) (more : List Event) → Sent from to bytes ∷ rest ≡ answered (master_rules_from setup) before more → ⊥
no_event setup from to bytes rest before [] h = cc
no_event setup from to bytes rest before (Gram f b ∷ more) h = cc
no_event setup from to bytes rest before (Tick ∷ more) h = cc

sends_first : (setup : Setup) (from to : Address) (bytes : List ℕ) (rest : List LogEntry) (before : List Event) (posts : List Send)
    → Sent from to bytes ∷ own_at setup.address rest ≡ sent_by setup.address posts ++ answered (master_rules_from setup) before (events_at setup.address rest) → IsSend setup rest before posts to bytes
sends_first setup from to bytes rest before [] h = absurd (no_event setup from to bytes (own_at setup.address rest) before (events_at setup.address rest) h)
sends_first setup from to bytes rest before (p ∷ ps) h = record { first = (same_to, same_bytes); comes = same_rest }
  where
    same_to : p.to ≡ to
    same_to = cc

    same_bytes : p.bytes ≡ bytes
    same_bytes = cc

    same_rest : own_at setup.address rest ≡ sent_by setup.address ps ++ answered (master_rules_from setup) before (events_at setup.address rest)
    same_rest = cc

-- ---- an event comes when nothing is owed
got_alone : (setup : Setup) (at from : Address) (bytes : List ℕ) (rest xs : List LogEntry) (posts : List Send) → Got at from bytes ∷ rest ≡ sent_by setup.address posts ++ xs → (posts ≡ []) × (Got at from bytes ∷ rest ≡ xs)
got_alone setup at from bytes rest xs [] h = (refl, h)
got_alone setup at from bytes rest xs (p ∷ ps) h = absurd cc

turn_alone : (setup : Setup) (at : Address) (rest xs : List LogEntry) (posts : List Send) → Turn at ∷ rest ≡ sent_by setup.address posts ++ xs → (posts ≡ []) × (Turn at ∷ rest ≡ xs)
turn_alone setup at rest xs [] h = (refl, h)
turn_alone setup at rest xs (p ∷ ps) h = absurd cc

newest_one : (before : List Event) (event : Event) → reverse (before ++ event ∷ []) ≡ event ∷ reverse before
newest_one before event = reverse-append before (event ∷ [])

-- ---- where the log stands
record At (setup : Setup) (rest log : List LogEntry) : Type 0 where
  pub before : List Event
  pub events_are : events_of_master setup log ≡ reverse before
  pub run : IsRun setup log
  pub comes : Comes setup rest before (owed setup log)

sent_at : (setup : Setup) (from to : Address) (bytes : List ℕ) (rest log : List LogEntry) → At setup (Sent from to bytes ∷ rest) log → At setup rest (Sent from to bytes ∷ log)
sent_at setup from to bytes rest log s =
    let z = parts (same_address from setup.address) (subst P (address_turned setup.address from) s.comes) in
    record { before = s.before; events_are = s.events_are; run = (z.0, s.run); comes = z.1 }
  where
    a : Address
    a = setup.address

    P : Bool → Type 0
    P b = (if b then Sent from to bytes ∷ [] else []) ++ own_at a rest ≡ sent_by a (owed setup log) ++ answered (master_rules_from setup) s.before (events_at a rest)

    parts : (b : Bool) → P b → where_it_is b (IsFirstSend (owed setup log) to bytes) × Comes setup rest s.before (if b then tail (owed setup log) else owed setup log)
    parts true h = let k = sends_first setup from to bytes rest s.before (owed setup log) h in (k.first, k.comes)
    parts false h = (tt, h)

got_at : (setup : Setup) (at from : Address) (bytes : List ℕ) (rest log : List LogEntry) → At setup (Got at from bytes ∷ rest) log → At setup rest (Got at from bytes ∷ log)
got_at setup at from bytes rest log s =
    let z = parts (same_address at setup.address) (subst P (address_turned setup.address at) s.comes) in
    record { before = z.0; events_are = (z.1).0; run = (((z.1).1).0, s.run); comes = ((z.1).1).1 }
  where
    a : Address
    a = setup.address

    P : Bool → Type 0
    P b = (if b then Got at from bytes ∷ [] else []) ++ own_at a rest ≡ sent_by a (owed setup log) ++ answered (master_rules_from setup) s.before ((if b then Gram from bytes ∷ [] else []) ++ events_at a rest)

    Q : Bool → Type 0
    Q b = (before : List Event) × ((with_event b (Gram from bytes) (events_of_master setup log) ≡ reverse before) × (where_it_is b (owed setup log ≡ [])
        × Comes setup rest before (if b then (course setup (with_event b (Gram from bytes) (events_of_master setup log))).sent else owed setup log)))

    parts : (b : Bool) → P b → Q b
    parts false h = (s.before, (s.events_are, (tt, h)))
    parts true h =
        let z = got_alone setup at from bytes (own_at a rest) (answered (master_rules_from setup) s.before (Gram from bytes ∷ events_at a rest)) (owed setup log) h in
        let e : Gram from bytes ∷ events_of_master setup log ≡ Gram from bytes ∷ reverse s.before = ap (λ (es : List Event). Gram from bytes ∷ es) s.events_are in
        let f : own_at a rest ≡ sent_by a (course setup (Gram from bytes ∷ reverse s.before)).sent ++ answered (master_rules_from setup) (s.before ++ Gram from bytes ∷ []) (events_at a rest) = tails z.1 in
        let R : List Event → Type 0 = λ es. own_at a rest ≡ sent_by a (course setup es).sent ++ answered (master_rules_from setup) (s.before ++ Gram from bytes ∷ []) (events_at a rest) in
        (s.before ++ Gram from bytes ∷ [], (e ∙ sym (newest_one s.before (Gram from bytes)), (z.0, subst R (sym e) f)))
      where
        tails : Got at from bytes ∷ own_at a rest ≡ answered (master_rules_from setup) s.before (Gram from bytes ∷ events_at a rest)
            → own_at a rest ≡ sent_by a (course setup (Gram from bytes ∷ reverse s.before)).sent ++ answered (master_rules_from setup) (s.before ++ Gram from bytes ∷ []) (events_at a rest)
        tails y = cc

turn_at : (setup : Setup) (at : Address) (rest log : List LogEntry) → At setup (Turn at ∷ rest) log → At setup rest (Turn at ∷ log)
turn_at setup at rest log s =
    let z = parts (same_address at setup.address) (subst P (address_turned setup.address at) s.comes) in
    record { before = z.0; events_are = (z.1).0; run = (((z.1).1).0, s.run); comes = ((z.1).1).1 }
  where
    a : Address
    a = setup.address

    P : Bool → Type 0
    P b = (if b then Turn at ∷ [] else []) ++ own_at a rest ≡ sent_by a (owed setup log) ++ answered (master_rules_from setup) s.before ((if b then Tick ∷ [] else []) ++ events_at a rest)

    Q : Bool → Type 0
    Q b = (before : List Event) × ((with_event b Tick (events_of_master setup log) ≡ reverse before) × (where_it_is b (owed setup log ≡ [])
        × Comes setup rest before (if b then (course setup (with_event b Tick (events_of_master setup log))).sent else owed setup log)))

    parts : (b : Bool) → P b → Q b
    parts false h = (s.before, (s.events_are, (tt, h)))
    parts true h =
        let z = turn_alone setup at (own_at a rest) (answered (master_rules_from setup) s.before (Tick ∷ events_at a rest)) (owed setup log) h in
        let e : Tick ∷ events_of_master setup log ≡ Tick ∷ reverse s.before = ap (λ (es : List Event). Tick ∷ es) s.events_are in
        let f : own_at a rest ≡ sent_by a (course setup (Tick ∷ reverse s.before)).sent ++ answered (master_rules_from setup) (s.before ++ Tick ∷ []) (events_at a rest) = tails z.1 in
        let R : List Event → Type 0 = λ es. own_at a rest ≡ sent_by a (course setup es).sent ++ answered (master_rules_from setup) (s.before ++ Tick ∷ []) (events_at a rest) in
        (s.before ++ Tick ∷ [], (e ∙ sym (newest_one s.before Tick), (z.0, subst R (sym e) f)))
      where
        tails : Turn at ∷ own_at a rest ≡ answered (master_rules_from setup) s.before (Tick ∷ events_at a rest)
            → own_at a rest ≡ sent_by a (course setup (Tick ∷ reverse s.before)).sent ++ answered (master_rules_from setup) (s.before ++ Tick ∷ []) (events_at a rest)
        tails y = cc

goes_on : (setup : Setup) (rest log : List LogEntry) → At setup rest log → At setup [] (reverse rest ++ log)
goes_on setup [] log s = s
goes_on setup (e ∷ rest) log s = let P : List LogEntry → Type 0 = λ z. At setup [] z in subst P (sym (ap (λ (z : List LogEntry). z ++ log) (reverse-append (e ∷ []) rest) ∙ append_assoc (reverse rest) (e ∷ []) log)) (goes_on setup rest (e ∷ log) (by e s))
  where
    by : (e : LogEntry) → At setup (e ∷ rest) log → At setup rest (e ∷ log)
    by (Sent from to bytes) s = sent_at setup from to bytes rest log s
    by (Got at from bytes) s = got_at setup at from bytes rest log s
    by (Idle at) s = record { before = s.before; events_are = s.events_are; run = (tt, s.run); comes = s.comes }
    by (Turn at) s = turn_at setup at rest log s

pub entry_by_entry : RunsEntryByEntry
entry_by_entry sc log h =
    let s = goes_on (setup_from sc) log [] (record { before = []; events_are = refl; run = tt; comes = h }) in
    let P : List LogEntry → Type 0 = λ z. IsRun (setup_from sc) z in
    subst P (append-nil (reverse log)) s.run
