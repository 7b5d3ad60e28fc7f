-- What holds at every moment of an honest log, of models and data.
use Rattle.std.specs.Prelude.{◌≡◌, ℕ, ◌+◌, ◌-◌, ◌<◌, true, ◌⊎◌, Option, Some, None, Ok, List, ◌∷◌, ◌++◌, length, ℤ}
use Rattle.dcp_types.specs.declared.addresses.Address.{Address}
use Rattle.fixed_models.specs.Steps.{start}
use Rattle.lockstep.specs.declared.references.RefFault.{RefFault}
use Rattle.lockstep.specs.Lockstep.{state, IsReference}
use Rattle.log_spec.specs.Messages.{Note, Value}
use Rattle.log_spec.specs.Channel.{at_ordinal}
use Rattle.dcp_ends.specs.declared.entries.LogEntry.{LogEntry}
use Rattle.dcp_ends.specs.declared.entries.LogEntry.TheVariants.{Sent}
use Rattle.log_spec.specs.Log.{Parties, IsSlaveOf, role_heard, values_sent}
use Rattle.lockstep_laws.specs.Steps.{StepsOn}
use Rattle.lockstep_laws.specs.Cast.{ConversingSlaves}
use Rattle.lockstep_laws.specs.Runs.{AreSlaves, Behaves}
use Rattle.lockstep_laws.specs.Models.Collecting.{Collector, Collects}
use Rattle.lockstep_laws.specs.Models.Machines.{KeptNote, Machines, AreMachines, IsRightNote, ordinal_here}

-- at every moment of every log in which all behave, for the reference's rows
abbrev pub AlwaysInRows : (Parties → ConversingSlaves → Machines → List (List ℤ) → List LogEntry → Type 0) → Type 0
AlwaysInRows HoldsData = (w : Parties) (x : ConversingSlaves) (m : Machines) → AreSlaves w x → AreMachines w x m → (rows : List (List ℤ)) (fault : Option RefFault) → IsReference m.sc rows fault → (later log : List LogEntry) → Behaves w x (later ++ log) → HoldsData w x m rows log

-- A model stands where the reference has it, once the slave has what sets it up for the run; no step is taken before, and before the first step the model is at first.
pub record ModelStands (x : ConversingSlaves) (m : Machines) (rows : List (List ℤ)) (log : List LogEntry) (s : ℕ) : Type 0 where
  pub stands : (0 < (x.bench s log).steps) ⊎ (m.tuned s ((x.bench s log).resets + 1) (x.desk s log).served ≡ true)
      → state m.sc rows s (m.desc s) ((x.bench s log).resets + 1) (x.bench s log).steps ≡ Ok (m.store s log).model
  pub set_up : 0 < (x.bench s log).steps → m.tuned s ((x.bench s log).resets + 1) (x.desk s log).served ≡ true
  pub at_first : (x.bench s log).steps ≡ 0 → (ps : List ℤ) × ((m.store s log).model ≡ start (m.desc s).kind ps)

abbrev pub ModelsStand : Parties → ConversingSlaves → Machines → List (List ℤ) → List LogEntry → Type 0
ModelsStand w x m rows log = (s : ℕ) → IsSlaveOf w s → ModelStands x m rows log s

-- a data message is of an id of its sender, and carries the row that its ordinal stands for
pub record IsOwnNote (w : Parties) (x : ConversingSlaves) (m : Machines) (rows : List (List ℤ)) (from : Address) (id o : ℕ) (n : Note) : Type 0 where
  pub slave : ℕ
  pub is : IsSlaveOf w slave
  pub sends : from ≡ w.slave slave
  pub owns : m.from id ≡ slave
  pub right : IsRightNote x m rows id o n

-- the ordinal of a send is how many ordinals there are with it, less one
abbrev pub DataCarryRows : Parties → ConversingSlaves → Machines → List (List ℤ) → List LogEntry → Type 0
DataCarryRows w x m rows log = (later earlier : List LogEntry) (from to : Address) (bytes : List ℕ) (id : ℕ) (n : Note) → log ≡ later ++ Sent from to bytes ∷ earlier → role_heard w bytes ≡ Value id n
    → IsOwnNote w x m rows from id (length (values_sent w id (Sent from to bytes ∷ earlier)) - 1) n

-- what a slave steps on, under an id that feeds it, is what was sent under the ordinal that stands for its place
pub record StepsOnSent (w : Parties) (x : ConversingSlaves) (m : Machines) (rows : List (List ℤ)) (log : List LogEntry) (s id : ℕ) : Type 0 where
  pub kept : KeptNote
  pub is : (m.store s log).kept id ≡ Some kept
  pub ordinal : kept.ordinal ≡ ordinal_here x m id (x.bench s log)
  pub sent : at_ordinal (values_sent w id log) kept.ordinal ≡ Some kept.note
  pub right : IsRightNote x m rows id kept.ordinal kept.note

abbrev pub StepsOnRows : Parties → ConversingSlaves → Machines → List (List ℤ) → List LogEntry → Type 0
StepsOnRows w x m rows log = (later earlier : List LogEntry) (e : LogEntry) → log ≡ later ++ e ∷ earlier → (s : ℕ) → IsSlaveOf w s → StepsOn (x.bench s earlier) (x.bench s (e ∷ earlier)) → (id : ℕ) → m.feeds s id ≡ true → StepsOnSent w x m rows earlier s id

-- the master's rows are a front of the reference's
abbrev pub RowsAreFront : Collector → List (List ℤ) → List LogEntry → Type 0
RowsAreFront c rows log = (rest : List (List ℤ)) × (rows ≡ c.rows log ++ rest)

-- a run that is finished has all rows of the reference, and that has no fault
abbrev pub FinishedIsWhole : Collector → List (List ℤ) → Option RefFault → List LogEntry → Type 0
FinishedIsWhole c rows fault log = c.finished log ≡ true → (c.rows log ≡ rows) × (fault ≡ None)

abbrev pub RowsAreFrontOf : Collector → List (List ℤ) → Option RefFault → List LogEntry → Type 0
RowsAreFrontOf c rows fault log = RowsAreFront c rows log

-- at every moment of every log in which all behave and the rows are collected so
abbrev pub AlwaysCollected : (Collector → List (List ℤ) → Option RefFault → List LogEntry → Type 0) → Type 0
AlwaysCollected HoldsData = (w : Parties) (x : ConversingSlaves) (m : Machines) (c : Collector) → AreSlaves w x → AreMachines w x m → (rows : List (List ℤ)) (fault : Option RefFault) → IsReference m.sc rows fault → (later log : List LogEntry) → Behaves w x (later ++ log) → Collects w x m c (later ++ log) → HoldsData c rows fault log
