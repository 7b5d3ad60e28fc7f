-- The data ids of a scenario, by the links of its plan.
use Rattle.std.specs.Prelude.{◌≡◌, ℕ, ◌==◌, true, Option, Some, None, find}
use Rattle.dcp_types.specs.declared.addresses.Address.{Address}
use Rattle.slave_desc.specs.declared.descriptions.SlaveDesc.{SlaveDesc}
use Rattle.scenario.specs.declared.scenarios.Scenario.{Scenario}
use Rattle.master_spec.specs.declared.links.DataLink.{DataLink}
use Rattle.master_spec.specs.Links.{links}
use Rattle.plan_laws.specs.Taking.{IsScenarioSlave}
use Rattle.slave_spec.specs.Changes.{Side, output, has_id, entry_interval, target}
use Rattle.slave_laws.specs.Wiring.Wired.{planned_changes}

abbrev pub data_link_of : Scenario → ℕ → Option DataLink
data_link_of sc id = find (λ l. l.id == id) (links sc)

-- the steps from one message to the next, and the slave that sends them
abbrev pub link_interval : Option DataLink → ℕ
link_interval None = 1
link_interval (Some l) = l.every

abbrev pub from_of : Option DataLink → ℕ
from_of None = 0
from_of (Some l) = l.from

abbrev pub interval_of : Scenario → ℕ → ℕ
interval_of sc id = link_interval (data_link_of sc id)

abbrev pub sender_of : Scenario → ℕ → ℕ
sender_of sc id = from_of (data_link_of sc id)

abbrev pub IntervalsArePlanned : Side → Type 0
IntervalsArePlanned side = (sc : Scenario) (s : ℕ) (d : SlaveDesc) → IsScenarioSlave sc s d → (id : ℕ) → has_id side id (planned_changes sc s d) ≡ true → entry_interval side id (planned_changes sc s d) ≡ interval_of sc id

abbrev pub SendersArePlanned : Type 0
SendersArePlanned = (sc : Scenario) (s : ℕ) (d : SlaveDesc) → IsScenarioSlave sc s d → (id : ℕ) → has_id output id (planned_changes sc s d) ≡ true → sender_of sc id ≡ s

-- and each id of a link from it is sent, to an address
abbrev pub SendersSend : Type 0
SendersSend = (sc : Scenario) (s : ℕ) (d : SlaveDesc) → IsScenarioSlave sc s d → (id : ℕ) → sender_of sc id ≡ s
    → (has_id output id (planned_changes sc s d) ≡ true) × ((to : Address) × (target id (planned_changes sc s d) ≡ Some to))
