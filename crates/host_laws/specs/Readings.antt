-- What is read of a host, beside the reference of its scenario.
use Rattle.std.specs.Prelude.{◌≡◌, ◌⊎◌, ℕ, ℤ, ◌+◌, ◌<◌, ◌≤◌, List, length, Option, IfSome, Ok}
use Rattle.dcp_ends.specs.Logs.{events_at}
use Rattle.log_spec.specs.Oldest.{Honest}
use Rattle.fixed_models.specs.Steps.{start}
use Rattle.slave_desc.specs.declared.descriptions.SlaveDesc.{SlaveDesc}
use Rattle.scenario.specs.Lookups.{slave_at}
use Rattle.lockstep.specs.declared.references.RefFault.{RefFault}
use Rattle.lockstep.specs.Lockstep.{state, IsReference}
use Rattle.slave_spec.specs.Plants.{Plant}
use Rattle.slave_spec.specs.Slaves.{slave_after}
use Rattle.run_laws.specs.Laws.{parties}
use Rattle.host.specs.Hosting.{slave_setup}
use Rattle.host.specs.Views.{HostView}

-- Where the network was honest, this holds of the scenario's reference: its rows, and the fault that ends them.
abbrev pub OfReference : HostView → (List (List ℤ) → Option RefFault → Type 0) → Type 0
OfReference host Holds = (other : SlaveDesc) → Honest (parties host.scenario other) host.log → (rows : List (List ℤ)) (fault : Option RefFault) → IsReference host.scenario rows fault → Holds rows fault

-- where all that happened to a slave has brought it
abbrev pub plant_in : HostView → SlaveDesc → Plant
plant_in host d = (slave_after (slave_setup host.scenario d) (events_at d.address host.log)).inner

-- where the model of a slave stands, by the steps that the slave has taken since its last reset
pub record StandsInLockstep (host : HostView) (s : ℕ) (rows : List (List ℤ)) (d : SlaveDesc) : Type 0 where
  -- it has the state that the reference gives it after so many steps of that run
  pub stepped : 0 < (plant_in host d).steps → state host.scenario rows s d (length (plant_in host d).earlier + 1) (plant_in host d).steps ≡ Ok (plant_in host d).model.state
  -- before the first it has the state in which its kind begins
  pub first : (plant_in host d).steps ≡ 0 → (parameters : List ℤ) × ((plant_in host d).model.state ≡ start d.kind parameters)

-- two slaves are in the same run and their steps differ by at most one; or one of them was reset for the next run and has no step yet, and the other has taken all
abbrev pub AreClose : (steps : ℕ) → Plant → Plant → Type 0
AreClose steps p q =
    ((length p.earlier ≡ length q.earlier) × (p.steps ≤ q.steps + 1) × (q.steps ≤ p.steps + 1))
    ⊎ (((length p.earlier ≡ length q.earlier + 1) × (p.steps ≡ 0) × (q.steps ≡ steps))
    ⊎ ((length q.earlier ≡ length p.earlier + 1) × (q.steps ≡ 0) × (p.steps ≡ steps)))

-- where the network was honest, this slave is close to each other one
abbrev pub IsCloseToAll : HostView → SlaveDesc → Type 0
IsCloseToAll host d = (other : SlaveDesc) → Honest (parties host.scenario other) host.log → (t : ℕ) → IfSome (slave_at host.scenario.slaves t) (λ e. AreClose host.scenario.steps (plant_in host d) (plant_in host e))
