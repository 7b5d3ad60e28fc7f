-- Who takes part in a run of a scenario.
use Rattle.std.specs.Prelude.{◌≡◌, ℕ, ◌-◌, ◌<◌, Option, Some, List, length, slice_index_or, slice_get}
use Rattle.slave_desc.specs.declared.descriptions.SlaveDesc.{SlaveDesc}
use Rattle.scenario.specs.declared.scenarios.Scenario.{Scenario}
use Rattle.scenario.specs.Sound.{IsScenario}
use Rattle.pdu_layout.specs.Message.{Message}
use Rattle.log_spec.specs.Log.{Parties, IsSlaveOf, PartiesApart}

-- slave s, the first being slave 1; other stands for slaves that are not there
abbrev pub slave_numbered : Scenario → (other : SlaveDesc) → ℕ → SlaveDesc
slave_numbered sc other s = slice_index_or sc.slaves (s - 1) other

abbrev pub parties_of : Scenario → (other : SlaveDesc) → (List ℕ → Option Message) → Parties
parties_of sc other read = record { count = length sc.slaves; master = sc.master; slave = λ s. (slave_numbered sc other s).address; read = read }

-- they are apart, there is one, and each is described by the scenario
pub record AreScenarioParties (sc : Scenario) (other : SlaveDesc) (w : Parties) : Type 0 where
  pub apart : PartiesApart w
  pub some : 0 < w.count
  pub desc : (s : ℕ) → IsSlaveOf w s → slice_get sc.slaves (s - 1) ≡ Some (slave_numbered sc other s)

abbrev pub ScenarioHasParties : Type 0
ScenarioHasParties = (sc : Scenario) (other : SlaveDesc) → IsScenario sc → (read : List ℕ → Option Message) → AreScenarioParties sc other (parties_of sc other read)
