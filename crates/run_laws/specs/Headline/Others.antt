-- Which description stands for slaves that are not there makes no difference to what a run is.
use Rattle.std.specs.Prelude.{◌≢◌, List}
use Rattle.dcp_ends.specs.declared.entries.LogEntry.{LogEntry}
use Rattle.slave_desc.specs.declared.descriptions.SlaveDesc.{SlaveDesc}
use Rattle.scenario.specs.declared.scenarios.Scenario.{Scenario}
use Rattle.scenario.specs.Sound.{IsScenario}
use Rattle.run_laws.specs.Laws.{IsRunOf}

-- any description will do that is not at the master's address
abbrev pub OthersMakeNoDifference : Type 0
OthersMakeNoDifference = (sc : Scenario) (other another : SlaveDesc) → IsScenario sc → another.address ≢ sc.master → (log : List LogEntry) → IsRunOf sc other log → IsRunOf sc another log
