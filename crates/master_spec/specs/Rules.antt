-- The master as an end: what it sends at an event after others, in the order in which they happened.
use Rattle.std.specs.Prelude.{◌≡◌, ℕ, Bool, is_some, List, [], ◌∷◌, reverse}
use Rattle.dcp_ends.specs.Events.{Event, Send, Rules}
use Rattle.dcp_ends.specs.Logs.{own_at, answered, events_at}
use Rattle.dcp_ends.specs.declared.entries.LogEntry.{LogEntry}
use Rattle.scenario.specs.declared.scenarios.Scenario.{Scenario}
use Rattle.master_spec.specs.declared.setups.Setup.{Setup}
use Rattle.master_spec.specs.Setup.{setup_from}
use Rattle.master_spec.specs.Course.{Course, course}

abbrev pub sends_at : Setup → List Event → Event → List Send
sends_at setup events event = (course setup (event ∷ reverse events)).sent

abbrev pub is_over_after : Setup → List Event → Bool
is_over_after setup events = is_some (course setup (reverse events)).report

abbrev pub master_rules_from : Setup → Rules
master_rules_from setup = record { place = setup.address; sends = sends_at setup; over = is_over_after setup }

abbrev pub master_rules : Scenario → Rules
master_rules sc = master_rules_from (setup_from sc)

-- The master's datagrams, turns and sends in a log are its events, each followed by what the rules send at it.
abbrev pub MasterRun : Scenario → List LogEntry → Type 0
MasterRun sc log = own_at sc.master log ≡ answered (master_rules sc) [] (events_at sc.master log)
