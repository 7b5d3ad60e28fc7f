-- The model of the slave of the definition, whatever the network does.
use Rattle.std.specs.Prelude.{◌≡◌, ℕ, ◌<◌, List, ◌∷◌, true}
use Rattle.dcp_types.specs.declared.states.State.TheVariants.{Computing}
use Rattle.dcp_ends.specs.declared.entries.LogEntry.{LogEntry}
use Rattle.fixed_models.specs.Steps.{start}
use Rattle.log_spec.specs.Log.{Parties}
use Rattle.slave_spec.specs.Payloads.{ready}
use Rattle.slave_spec.specs.declared.words.SlaveSetup.{SlaveSetup}
use Rattle.slave_spec.specs.Plants.{Plant, output_types}
use Rattle.slave_spec.specs.Slaves.{machine}
use Rattle.slave_laws.specs.Talk.Desks.{at}
use Rattle.slave_laws.specs.Talk.Benches.{bench_at}

-- where the machine of slave s stands after a log, the newest entry first
abbrev pub plant_at : SlaveSetup → Parties → ℕ → List LogEntry → Plant
plant_at setup w s log = (at (machine setup) w s log).slave.inner

-- the model is of the slave's kind, with its outputs; before the first step of a run it is at first
pub record IsFreshPlant (setup : SlaveSetup) (p : Plant) : Type 0 where
  pub kind : p.model.kind ≡ setup.desc.kind
  pub types : p.model.types ≡ output_types setup.desc
  pub first : p.steps ≡ 0 → p.model.state ≡ start setup.desc.kind p.model.parameters

abbrev pub ModelsBeginFresh : Type 0
ModelsBeginFresh = (setup : SlaveSetup) (w : Parties) (s : ℕ) (log : List LogEntry) → IsFreshPlant setup (plant_at setup w s log)

-- after the first step of a run the model changes with the steps alone
abbrev pub ModelsStayStill : Type 0
ModelsStayStill = (setup : SlaveSetup) (w : Parties) (s : ℕ) (e : LogEntry) (log : List LogEntry)
    → 0 < (bench_at setup w s (e ∷ log)).steps → (bench_at setup w s (e ∷ log)).steps ≡ (bench_at setup w s log).steps
    → (plant_at setup w s (e ∷ log)).model ≡ (plant_at setup w s log).model

-- while a step is computed, all inputs that it takes are there
abbrev pub InputsAreThere : Type 0
InputsAreThere = (setup : SlaveSetup) (w : Parties) (s : ℕ) (log : List LogEntry)
    → (plant_at setup w s log).state ≡ Computing → ready (plant_at setup w s log).wires (plant_at setup w s log).steps ≡ true
