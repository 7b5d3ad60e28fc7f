-- What holds of the program's own ends at every moment of every run over an honest network. What was so far has its newest entry first.
use Rattle.std.specs.Prelude.{◌≡◌, ℤ, Option, List, ◌++◌, reverse}
use Rattle.dcp_ends.specs.declared.entries.LogEntry.{LogEntry}
use Rattle.slave_desc.specs.declared.descriptions.SlaveDesc.{SlaveDesc}
use Rattle.scenario.specs.declared.scenarios.Scenario.{Scenario}
use Rattle.scenario.specs.Sound.{IsScenario}
use Rattle.lockstep.specs.declared.references.RefFault.{RefFault}
use Rattle.lockstep.specs.Lockstep.{IsReference}
use Rattle.log_spec.specs.Log.{Parties}
use Rattle.lockstep_laws.specs.Cast.{ConversingSlaves}
use Rattle.lockstep_laws.specs.Runs.{Behaves}
use Rattle.lockstep_laws.specs.Models.Machines.{Machines}
use Rattle.lockstep_laws.specs.Models.Collecting.{Collector}
use Rattle.slave_laws.specs.Data.Made.{machines}
use Rattle.slave_laws.specs.Data.Whole.{slaves_asked}
use Rattle.run_laws.specs.Laws.{parties, IsRunOf}
use Rattle.run_laws.specs.Collecting.Collecting.{collector}

-- the network, the master and all slaves of a run are those that the laws over a run speak of
abbrev pub AllBehave : Type 0
AllBehave = (sc : Scenario) (other : SlaveDesc) → IsScenario sc → (log : List LogEntry) → IsRunOf sc other log → Behaves (parties sc other) (slaves_asked sc other) (reverse log)

abbrev pub AtEveryMoment : (Parties → ConversingSlaves → List LogEntry → Type 0) → Type 0
AtEveryMoment Holds = (sc : Scenario) (other : SlaveDesc) → IsScenario sc → (log : List LogEntry) → IsRunOf sc other log → (later sofar : List LogEntry) → reverse log ≡ later ++ sofar
    → Holds (parties sc other) (slaves_asked sc other) sofar

-- the same of what speaks of the models and the data, for the rows of the scenario's reference
abbrev pub AtEveryMomentInRows : (Parties → ConversingSlaves → Machines → List (List ℤ) → List LogEntry → Type 0) → Type 0
AtEveryMomentInRows Holds = (sc : Scenario) (other : SlaveDesc) → IsScenario sc → (rows : List (List ℤ)) (fault : Option RefFault) → IsReference sc rows fault → (log : List LogEntry) → IsRunOf sc other log → (later sofar : List LogEntry) → reverse log ≡ later ++ sofar
    → Holds (parties sc other) (slaves_asked sc other) (machines sc other) rows sofar

-- the same of what speaks of the rows that the master has counted
abbrev pub AtEveryMomentCounted : (Collector → List (List ℤ) → Option RefFault → List LogEntry → Type 0) → Type 0
AtEveryMomentCounted Holds = (sc : Scenario) (other : SlaveDesc) → IsScenario sc → (rows : List (List ℤ)) (fault : Option RefFault) → IsReference sc rows fault → (log : List LogEntry) → IsRunOf sc other log → (later sofar : List LogEntry) → reverse log ≡ later ++ sofar
    → Holds (collector sc other) rows fault sofar
