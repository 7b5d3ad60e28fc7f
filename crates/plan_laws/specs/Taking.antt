-- Settings that a slave takes one after the other.
use Rattle.std.specs.Prelude.{◌≡◌, ◌<◌, ℕ, true, List, [], ◌∷◌, length, slice_set, Some, None}
use Rattle.dcp_types.specs.declared.data_types.DataType.TheVariants.{I64}
use Rattle.dcp_types.specs.Values.{fits}
use Rattle.pdu_layout.specs.declared.messages.Cfg.{Cfg}
use Rattle.pdu_layout.specs.declared.messages.Cfg.TheVariants as cfg
use Rattle.fixed_models.specs.Kinds.{takes}
use Rattle.slave_desc.specs.declared.descriptions.SlaveDesc.{SlaveDesc}
use Rattle.scenario.specs.declared.scenarios.Scenario.{Scenario}
use Rattle.scenario.specs.Lookups.{slave_at}
use Rattle.scenario.specs.Sound.{IsScenario}
use Rattle.slave_spec.specs.Refusals as wiring
use Rattle.slave_spec.specs.declared.words.Asked.TheVariants.{Setting}
use Rattle.slave_spec.specs.declared.words.SlaveSetup.{SlaveSetup}
use Rattle.slave_spec.specs.Plants.{Plant}
use Rattle.slave_spec.specs.Requests.{refusal, accepted}

-- this is slave s of a sound scenario
pub record IsScenarioSlave (sc : Scenario) (s : ℕ) (d : SlaveDesc) : Type 0 where
  pub sound : IsScenario sc
  pub slave : slave_at sc.slaves s ≡ Some d

-- The model takes a parameter that it has, a number of 64 bits that its kind takes there; every other setting is the wiring's, which finds nothing wrong with it.
abbrev pub IsTakenByPart : SlaveSetup → Plant → Cfg → Type 0
IsTakenByPart x p (cfg.Parameter vr kind value) =
    ((vr < length p.model.parameters) × (kind ≡ I64) × (fits I64 value ≡ true) × (takes p.model.kind (slice_set p.model.parameters vr value) ≡ true))
IsTakenByPart x p body = wiring.refusal_of_setting x.desc p.wires.changes body ≡ None

-- none of these settings is refused, by the slave and by its part, each where those before it led
abbrev pub TakesAll : SlaveSetup → Plant → List Cfg → Type 0
TakesAll x p [] = Unit {0}
TakesAll x p (body ∷ bodies) =
    ((refusal x p (Setting body) ≡ None) × IsTakenByPart x p body × TakesAll x (accepted x p (Setting body)) bodies)

-- where they lead
abbrev pub plant_after_all : SlaveSetup → Plant → List Cfg → Plant
plant_after_all x p [] = p
plant_after_all x p (body ∷ bodies) = plant_after_all x (accepted x p (Setting body)) bodies
