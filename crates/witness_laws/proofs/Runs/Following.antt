-- What an end sends, from one state to the next: it is what its rules give over the whole list of its events.
use Rattle.std.proofs.Common.{◌≡◌, List, [], ◌∷◌, ◌++◌, reverse, refl, sym, ap, ◌∙◌}
use Rattle.std.proofs.lemmas.List.{reverse-append}
use Rattle.dcp_types.specs.declared.addresses.Address.{Address}
use Rattle.dcp_ends.specs.Events.{Event}
use Rattle.dcp_ends.specs.declared.entries.LogEntry.{LogEntry}
use Rattle.dcp_ends.specs.Logs.{entry_of, sent_by, answered, own_at, events_at}
use Rattle.rounds.specs.Told.{Follows}
use Rattle.scenario.specs.declared.scenarios.Scenario.{Scenario}
use Rattle.master_spec.specs.declared.setups.Setup.{Setup}
use Rattle.master_spec.specs.Setup.{setup_from}
use Rattle.master_spec.specs.Course.{Course, course, begin, step}
use Rattle.master_spec.specs.Rules.{master_rules_from, MasterRun}
use Rattle.slave_spec.specs.declared.words.SlaveSetup.{SlaveSetup}
use Rattle.slave_spec.specs.Plants.{Plant}
use Rattle.slave_spec.specs.Transport.{Machine, SlaveState, fresh, after, after_all, sends}
use Rattle.slave_spec.specs.Slaves.{machine, slave_rules_from}

-- ---- the master
abbrev pub master_from : Setup → Course → List Event → List LogEntry
master_from setup c [] = []
master_from setup c (event ∷ events) =
    let next = step setup event c in
    entry_of setup.address event ∷ (sent_by setup.address next.sent ++ master_from setup next events)

master_answers : (setup : Setup) (before events : List Event) → answered (master_rules_from setup) before events ≡ master_from setup (course setup (reverse before)) events
master_answers setup before [] = refl
master_answers setup before (event ∷ events) =
    ap (λ (l : List LogEntry). entry_of setup.address event ∷ (sent_by setup.address (course setup (event ∷ reverse before)).sent ++ l))
    (master_answers setup (before ++ event ∷ []) events ∙ ap (λ (l : List Event). master_from setup (course setup l) events) (reverse-append before (event ∷ [])))

pub master_runs : (sc : Scenario) (log : List LogEntry) → own_at sc.master log ≡ master_from (setup_from sc) (begin (setup_from sc)) (events_at sc.master log) → MasterRun sc log
master_runs sc log h = h ∙ sym (master_answers (setup_from sc) [] (events_at sc.master log))

-- ---- a slave
abbrev pub slave_from : {S : Type 0} → Machine S → (place : Address) → SlaveState S → List Event → List LogEntry
slave_from m place x [] = []
slave_from m place x (event ∷ events) = entry_of place event ∷ (sent_by place (sends m x event) ++ slave_from m place (after m x event) events)

after_one : {S : Type 0} (m : Machine S) (x : SlaveState S) (before : List Event) (event : Event) → after_all m x (before ++ event ∷ []) ≡ after m (after_all m x before) event
after_one m x [] event = refl
after_one m x (e ∷ before) event = after_one m (after m x e) before event

slave_answers : (s : SlaveSetup) (before events : List Event) → answered (slave_rules_from s) before events ≡ slave_from (machine s) s.desc.address (after_all (machine s) (fresh (machine s)) before) events
slave_answers s before [] = refl
slave_answers s before (event ∷ events) =
    ap (λ (l : List LogEntry). entry_of s.desc.address event ∷ (sent_by s.desc.address (sends (machine s) (after_all (machine s) (fresh (machine s)) before) event) ++ l))
    (slave_answers s (before ++ event ∷ []) events ∙ ap (λ (x : SlaveState Plant). slave_from (machine s) s.desc.address x events) (after_one (machine s) (fresh (machine s)) before event))

pub slave_follows : (s : SlaveSetup) (log : List LogEntry)
    → own_at s.desc.address log ≡ slave_from (machine s) s.desc.address (fresh (machine s)) (events_at s.desc.address log) → Follows (slave_rules_from s) log
slave_follows s log h = h ∙ sym (slave_answers s [] (events_at s.desc.address log))
