-- What data a slave owes, when it is asked in order.
use Rattle.std.specs.Prelude.{◌≡◌, true, List, ◌∷◌}
use Rattle.dcp_ends.specs.declared.entries.LogEntry.{LogEntry}
use Rattle.log_spec.specs.Moves.{move}
use Rattle.lockstep_laws.specs.Models.Machines.{IsAskedInOrder, Keeps}
use Rattle.slave_laws.specs.Model.Models.{plant_at}
use Rattle.slave_laws.specs.Model.Tuned.{served_at, run_here}
use Rattle.plan_laws.specs.Course.Courses.{tuned}
use Rattle.slave_laws.specs.Wiring.Wired.{is_past, InScenario}
use Rattle.slave_laws.specs.Data.Holding.{OfScenario}

-- past its configuration it has taken the settings of the run in which it is
abbrev pub PastIsTuned : Type 0
PastIsTuned = InScenario (λ sc s x w log. is_past (plant_at x w s log).state ≡ true → tuned sc s x.desc (run_here x w s log) (served_at x w s log) ≡ true)

-- it goes on with its data by the entry: what is kept, and what data is owed
abbrev pub GoesOnWithData : Type 0
GoesOnWithData = OfScenario (λ w x m s. (e : LogEntry) (log : List LogEntry) → IsAskedInOrder w x s (e ∷ log)
    → Keeps w x m s (move w s e) (x.bench s log) (x.bench s (e ∷ log)) (m.store s log) (m.store s (e ∷ log)) (x.desk s (e ∷ log)).owed)
