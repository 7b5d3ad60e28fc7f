-- What a slave's model and its inputs stand for in the calculation.
use Rattle.std.specs.Prelude.{◌≡◌, ℕ, zero, suc, ◌+◌, ◌-◌, List, map, length, ◌++◌, Result, Ok, Err, MatchResult, slice_get, Some, ℤ}
use Rattle.dcp_types.specs.declared.data_types.DataType.{DataType}
use Rattle.dcp_types.specs.declared.fault_codes.FaultCode.{FaultCode}
use Rattle.fixed_models.specs.Steps.{outputs}
use Rattle.slave_desc.specs.declared.descriptions.SlaveDesc.{SlaveDesc}
use Rattle.scenario.specs.declared.scenarios.Scenario.{Scenario}
use Rattle.fixed_models.specs.Views.{View, moved, step_of}
use Rattle.lockstep.specs.declared.parts.Part.{Part}
use Rattle.lockstep.specs.declared.halts.Halt.{Halt}
use Rattle.lockstep.specs.declared.halts.Halt.TheVariants as halts
use Rattle.lockstep.specs.declared.references.RefFault.{RefFault}
use Rattle.scenario.specs.Settings.{parameters}
use Rattle.lockstep.specs.Feeds.{feeds_of, fed}
use Rattle.lockstep.specs.Lockstep.{shown_of, state, shown}

-- the outputs that a model shows, or why it shows none
abbrev pub shows : View → Result (List ℤ) FaultCode
shows v = shown_of v.types (outputs v.kind v.parameters v.state)

abbrev pub types_of_outputs : SlaveDesc → List DataType
types_of_outputs d = map (λ p. p.kind) d.outputs

-- one step on these inputs, or its fault
abbrev pub Advances : List ℤ → ℕ → Part → Part → Result Unit FaultCode → Type 0
Advances us micro old new r = MatchResult r
    (λ _. (step_of old.model us micro ≡ Ok new.model.state) × (new ≡ record old { model = moved old.model new.model.state }))
    (λ e. step_of old.model us micro ≡ Err e)

-- the step of a run up to step k, or none up to step 0
abbrev pub Reaches : List (List ℤ) → Part → Part → (k micro : ℕ) → Result Unit FaultCode → Type 0
Reaches rows old new zero micro r = MatchResult r (λ _. new ≡ old) (λ e. ⊥)
Reaches rows old new (suc k) micro r = Advances (map (fed rows (length rows - suc k) k) old.feeds.items) micro old new r

-- the row with the outputs behind it, or their fault
abbrev pub Shows : View → List ℤ → List ℤ → Result Unit FaultCode → Type 0
Shows v before after r = MatchResult r
    (λ _. (vs : List ℤ) × (shows v ≡ Ok vs) × (after ≡ before ++ vs))
    (λ e. shows v ≡ Err e)

-- the part is that of slave s in run r, and stands at step k
pub record PartStandsAt (sc : Scenario) (rows : List (List ℤ)) (r k s : ℕ) (d : SlaveDesc) (p : Part) : Type 0 where
  pub kind : p.model.kind ≡ d.kind
  pub types : p.model.types ≡ types_of_outputs d
  pub feeds : p.feeds.items ≡ feeds_of sc s (length d.inputs)
  pub parameters : p.model.parameters ≡ parameters sc s d r
  pub state : state sc rows s d r k ≡ Ok p.model.state

pub record AllStand (sc : Scenario) (rows : List (List ℤ)) (r k : ℕ) (parts : List Part) : Type 0 where
  pub count : length parts ≡ length sc.slaves
  pub each : (j : ℕ) (d : SlaveDesc) (p : Part) → slice_get sc.slaves j ≡ Some d → slice_get parts j ≡ Some p → PartStandsAt sc rows r k (j + 1) d p

-- what slave s shows at step k of run r stands behind the row, and it stands there, or its fault
abbrev pub Serves : (sc : Scenario) (rows : List (List ℤ)) (r k s : ℕ) (d : SlaveDesc) → List ℤ → List ℤ → Part → Result Unit FaultCode → Type 0
Serves sc rows r k s d before after new x = MatchResult x
    (λ _. (vs : List ℤ) × (shown sc rows s d r k ≡ Ok vs) × (after ≡ before ++ vs) × PartStandsAt sc rows r k s d new)
    (λ e. shown sc rows s d r k ≡ Err e)

-- why no row comes
abbrev pub Halted : Result (List ℤ) RefFault → Halt → Type 0
Halted x halts.OutOfMemory = Unit {0}
Halted x (halts.Fault fault) = x ≡ Err fault
