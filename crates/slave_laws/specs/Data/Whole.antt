-- The slaves of a scenario as the laws of models want them.
use Rattle.std.specs.Prelude.{◌≡◌, ℕ, ◌+◌, ◌*◌, ◌≤◌, true, Some, Ok, List, ◌∷◌, map, length, ℤ}
use Rattle.dcp_types.specs.declared.states.State.TheVariants.{Computing}
use Rattle.dcp_ends.specs.declared.entries.LogEntry.{LogEntry}
use Rattle.fixed_models.specs.Steps.{model_step}
use Rattle.slave_desc.specs.declared.descriptions.SlaveDesc.{SlaveDesc}
use Rattle.scenario.specs.declared.scenarios.Scenario.{Scenario}
use Rattle.scenario.specs.Settings.{parameters}
use Rattle.scenario.specs.Sound.{IsScenario}
use Rattle.lockstep.specs.Lockstep as reference
use Rattle.lockstep.specs.Lockstep.{EachRow}
use Rattle.log_spec.specs.Log.{IsSlaveOf}
use Rattle.lockstep_laws.specs.Steps.{StepsOn}
use Rattle.lockstep_laws.specs.Cast.{ConversingSlaves}
use Rattle.lockstep_laws.specs.Master.{MasterConverses}
use Rattle.lockstep_laws.specs.Models.Scenarios.{slave_numbered}
use Rattle.lockstep_laws.specs.Models.Machines.{KeptNote, IsRightNote, IsAskedInOrder, AreMachines}
use Rattle.slave_spec.specs.Payloads as wired
use Rattle.slave_laws.specs.Talk.Meets.{slaves_made}
use Rattle.slave_laws.specs.Talk.Benches.{bench_at}
use Rattle.slave_laws.specs.Model.Models.{plant_at}
use Rattle.plan_laws.specs.Course.Courses.{opened}
use Rattle.plan_laws.specs.Course.Orders.{may_ask}
use Rattle.slave_laws.specs.Data.Made.{setup_at, parties, slaves, machines}

module _ (sc : Scenario) (other : SlaveDesc) where
  -- the slaves of the scenario, of which requests alone may be asked
  abbrev pub slaves_asked : ConversingSlaves
  slaves_asked = slaves_made (parties sc other) (setup_at sc other) sc.steps sc.runs (λ s. may_ask sc s (slave_numbered sc other s)) (λ s. opened sc s (slave_numbered sc other s))

  -- the payloads that are kept under the ids that feed a slave carry what their senders show in these rows
  abbrev pub KeepsRight : (s : ℕ) → List (List ℤ) → List LogEntry → Type 0
  KeepsRight s rows log = (id : ℕ) → (machines sc other).feeds s id ≡ true → (k : KeptNote) → ((machines sc other).store s log).kept id ≡ Some k → IsRightNote slaves_asked (machines sc other) rows id k.ordinal k.note

  -- while a step is computed on such payloads, its inputs are those of the reference, which has no rows behind the scenario's runs
  abbrev pub ReadsRows : ℕ → Type 0
  ReadsRows s = (log : List LogEntry) → IsAskedInOrder (parties sc other) (slaves sc other) s log → (plant_at (setup_at sc other s) (parties sc other) s log).state ≡ Computing
      → (rows : List (List ℤ)) → EachRow sc rows → length rows ≤ sc.runs * (sc.steps + 1) → KeepsRight s rows log
      → let b = bench_at (setup_at sc other s) (parties sc other) s log in
      wired.wired_values (slave_numbered sc other s) (plant_at (setup_at sc other s) (parties sc other) s log).wires ≡ reference.inputs sc rows s (slave_numbered sc other s) (b.resets + 1) b.steps

-- a step is the model's, with the parameters of the run, on the inputs that are kept
abbrev pub StepOnInputs : Type 0
StepOnInputs = (sc : Scenario) (other : SlaveDesc) → IsScenario sc → (s : ℕ) → IsSlaveOf (parties sc other) s → (e : LogEntry) (log : List LogEntry) → IsAskedInOrder (parties sc other) (slaves_asked sc other) s (e ∷ log)
    → let x = setup_at sc other s in let w = parties sc other in let b = bench_at x w s log in
    StepsOn b (bench_at x w s (e ∷ log))
    → model_step x.desc.kind (parameters sc s x.desc (b.resets + 1)) (map (λ p. p.kind) x.desc.outputs) (plant_at x w s log).model.state (wired.wired_values x.desc (plant_at x w s log).wires) sc.micro ≡ Ok (plant_at x w s (e ∷ log)).model.state

-- all that the laws of models want of the slaves of a scenario, where these read the reference's rows
abbrev pub AreMachinesOnRows : Type 0
AreMachinesOnRows = (sc : Scenario) (other : SlaveDesc) → IsScenario sc → ((s : ℕ) → IsSlaveOf (parties sc other) s → ReadsRows sc other s) → AreMachines (parties sc other) (slaves_asked sc other) (machines sc other)

-- that requests alone may be asked is no more than any log gives
abbrev pub MasterAsksRequests : Type 0
MasterAsksRequests = (sc : Scenario) (other : SlaveDesc) (log : List LogEntry) → MasterConverses (parties sc other) (slaves sc other) log → MasterConverses (parties sc other) (slaves_asked sc other) log
