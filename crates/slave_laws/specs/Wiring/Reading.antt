-- The slaves of a scenario read the reference's rows, so they are machines as the laws of models want them.
use Rattle.std.specs.Prelude.{ℕ}
use Rattle.slave_desc.specs.declared.descriptions.SlaveDesc.{SlaveDesc}
use Rattle.scenario.specs.declared.scenarios.Scenario.{Scenario}
use Rattle.scenario.specs.Sound.{IsScenario}
use Rattle.log_spec.specs.Log.{IsSlaveOf}
use Rattle.lockstep_laws.specs.Models.Machines.{AreMachines}
use Rattle.slave_laws.specs.Data.Made.{parties, machines}
use Rattle.slave_laws.specs.Data.Whole.{slaves_asked, ReadsRows}

abbrev pub SlavesReadRows : Type 0
SlavesReadRows = (sc : Scenario) (other : SlaveDesc) → IsScenario sc → (s : ℕ) → IsSlaveOf (parties sc other) s → ReadsRows sc other s

abbrev pub SlavesAreMachines : Type 0
SlavesAreMachines = (sc : Scenario) (other : SlaveDesc) → IsScenario sc → AreMachines (parties sc other) (slaves_asked sc other) (machines sc other)
