-- What a slave's inputs are, by the payloads that it kept.
use Rattle.std.specs.Prelude.{◌≡◌, ℕ, ◌*◌, ◌/◌, ◌<◌, true, Some, Ok, List, length, ℤ}
use Rattle.slave_desc.specs.declared.descriptions.SlaveDesc.{SlaveDesc}
use Rattle.scenario.specs.declared.scenarios.Scenario.{Scenario}
use Rattle.scenario.specs.Lookups.{slave_at}
use Rattle.lockstep.specs.Lockstep as reference
use Rattle.lockstep.specs.Lockstep.{row_index, shown, IsMoment, EachRow}
use Rattle.plan_laws.specs.Taking.{IsScenarioSlave}
use Rattle.slave_spec.specs.Changes.{input, has_id}
use Rattle.slave_spec.specs.Payloads as wired
use Rattle.slave_spec.specs.Payloads.{Kept, WiringState, kept_under, payload}
use Rattle.slave_laws.specs.Wiring.Wired.{planned_changes, changes_restarted}
use Rattle.slave_laws.specs.Wiring.Links.{interval_of, sender_of}

-- the newest step, up to step k, after which a data id is sent
abbrev pub sent_step : Scenario → (id k : ℕ) → ℕ
sent_step sc id k = interval_of sc id * (k / interval_of sc id)

-- what is kept under a data id is what its sender shows in the row of that step, which is one of the scenario's
pub record IsShownBy (sc : Scenario) (rows : List (List ℤ)) (r k id : ℕ) (kept : Kept) : Type 0 where
  pub sender : SlaveDesc
  pub is : slave_at sc.slaves (sender_of sc id) ≡ Some sender
  pub values : List ℤ
  pub moment : IsMoment sc r (sent_step sc id k)
  pub exists : row_index sc.steps r (sent_step sc id k) < length rows
  pub shows : shown sc rows (sender_of sc id) sender r (sent_step sc id k) ≡ Ok values
  pub carries : kept.payload ≡ payload sender id (planned_changes sc (sender_of sc id) sender) values

-- a slave with the wiring of the plan, and such a payload under each id that comes to it, has the inputs of the reference
abbrev pub InputsReadRows : Type 0
InputsReadRows = (sc : Scenario) (s : ℕ) (d : SlaveDesc) → IsScenarioSlave sc s d → (rows : List (List ℤ)) → EachRow sc rows → (r k : ℕ) (w : WiringState) (runs : ℕ) → w.changes ≡ changes_restarted sc.steps (planned_changes sc s d) runs
    → ((id : ℕ) → has_id input id (planned_changes sc s d) ≡ true → (kept : Kept) × (kept_under id w.kept ≡ Some kept) × IsShownBy sc rows r k id kept)
    → wired.wired_values d w ≡ reference.inputs sc rows s d r k
