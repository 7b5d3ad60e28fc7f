-- What a correct run prints: all slaves step at once, each on what the others showed before.
use Rattle.std.specs.Prelude.{◌≡◌, ℕ, zero, suc, ◌+◌, ◌-◌, ◌*◌, ◌/◌, ◌<◌, ◌≤◌, Option, Some, None, Result, Ok, Err, List, [], ◌∷◌, ◌++◌, map, length, if◌then◌else◌, ℤ, pos, slice_index_or}
use Rattle.std.specs.List.{range_with_len}
use Rattle.dcp_types.specs.declared.data_types.DataType.{DataType}
use Rattle.dcp_types.specs.declared.fault_codes.FaultCode.{FaultCode}
use Rattle.dcp_types.specs.declared.fault_codes.FaultCode.TheVariants.{OutOfRange}
use Rattle.fixed_models.specs.Steps.{start, outputs, model_step, all_fit}
use Rattle.slave_desc.specs.declared.descriptions.SlaveDesc.{SlaveDesc}
use Rattle.scenario.specs.declared.scenarios.Scenario.{Scenario}
use Rattle.scenario.specs.declared.scenarios.Wire.{Wire}
use Rattle.lockstep.specs.declared.references.RefFault.{RefFault}
use Rattle.scenario.specs.Settings.{parameters}
use Rattle.scenario.specs.Wiring.{wire_into, interval, column}

-- The rows of all runs stand in one list: this is where row k of run r stands.
abbrev pub row_index : (steps r k : ℕ) → ℕ
row_index steps r k = (r - 1) * (steps + 1) + k

-- what an input reads at its step from k to k + 1 of run r: the wired output as it was last renewed, and 0 where there is no wire
abbrev pub read : Scenario → List (List ℤ) → (r k : ℕ) → Option Wire → ℤ
read sc rows r k None = pos 0
read sc rows r k (Some w) =
    let q = interval sc.every w.from w.to in
    slice_index_or (slice_index_or rows (row_index sc.steps r (q * (k / q))) []) (column sc.slaves w.from w.out) (pos 0)

abbrev pub inputs : Scenario → List (List ℤ) → (s : ℕ) → SlaveDesc → (r k : ℕ) → List ℤ
inputs sc rows s d r k =
    map (λ i. read sc rows r k (wire_into sc.wires s i)) (range_with_len 0 (length d.inputs))

-- the state of slave s at step k of run r, or why it has none
abbrev pub model_state_after : Scenario → List (List ℤ) → (s : ℕ) → SlaveDesc → (r k : ℕ) → Result (List ℤ) FaultCode → Result (List ℤ) FaultCode
model_state_after sc rows s d r k (Ok x) =
    model_step d.kind (parameters sc s d r) (map (λ p. p.kind) d.outputs) x (inputs sc rows s d r k) sc.micro
model_state_after sc rows s d r k (Err code) = Err code

abbrev pub state : Scenario → List (List ℤ) → (s : ℕ) → SlaveDesc → (r k : ℕ) → Result (List ℤ) FaultCode
state sc rows s d r zero = Ok (start d.kind (parameters sc s d r))
state sc rows s d r (suc k) = model_state_after sc rows s d r k (state sc rows s d r k)

-- the outputs of a state, where each lies in its type
abbrev pub shown_of : List DataType → List ℤ → Result (List ℤ) FaultCode
shown_of types vs = if all_fit types vs then Ok vs else Err OutOfRange

abbrev pub shown_at : Scenario → (s : ℕ) → SlaveDesc → (r : ℕ) → Result (List ℤ) FaultCode → Result (List ℤ) FaultCode
shown_at sc s d r (Ok x) = shown_of (map (λ p. p.kind) d.outputs) (outputs d.kind (parameters sc s d r) x)
shown_at sc s d r (Err code) = Err code

-- what slave s shows at step k of run r, or why it faults there
abbrev pub shown : Scenario → List (List ℤ) → (s : ℕ) → SlaveDesc → (r k : ℕ) → Result (List ℤ) FaultCode
shown sc rows s d r k = shown_at sc s d r (state sc rows s d r k)

abbrev pub beside : (s r k : ℕ) → Result (List ℤ) FaultCode → Result (List ℤ) RefFault → Result (List ℤ) RefFault
beside s r k (Err code) rest = Err (record { slave = s; run = r; step = k; code = code })
beside s r k (Ok vs) (Ok ws) = Ok (vs ++ ws)
beside s r k (Ok vs) (Err fault) = Err fault

-- what the slaves from number s on show, by slave and then by port, or the first of them that faults
abbrev pub row_from : Scenario → List (List ℤ) → (r k s : ℕ) → List SlaveDesc → Result (List ℤ) RefFault
row_from sc rows r k s [] = Ok []
row_from sc rows r k s (d ∷ ds) = beside s r k (shown sc rows s d r k) (row_from sc rows r k (s + 1) ds)

-- row k of run r, or the fault of the least slave that faults there
abbrev pub row : Scenario → List (List ℤ) → (r k : ℕ) → Result (List ℤ) RefFault
row sc rows r k = row_from sc rows r k 1 sc.slaves

-- a run, and a step of it, 0 standing for what is shown before the first
pub record IsMoment (sc : Scenario) (r k : ℕ) : Type 0 where
  pub first : 1 ≤ r
  pub last : r ≤ sc.runs
  pub within : k ≤ sc.steps

-- where the rows end: behind the last step of the last run, or before the first at which a slave faults
pub record EndsAt (sc : Scenario) (rows : List (List ℤ)) (fault : RefFault) : Type 0 where
  pub moment : IsMoment sc fault.run fault.step
  pub behind : length rows ≡ row_index sc.steps fault.run fault.step
  pub faults : row sc rows fault.run fault.step ≡ Err fault

abbrev pub Ends : Scenario → List (List ℤ) → Option RefFault → Type 0
Ends sc rows None = length rows ≡ sc.runs * (sc.steps + 1)
Ends sc rows (Some fault) = EndsAt sc rows fault

-- each row is what its moment shows
abbrev pub EachRow : Scenario → List (List ℤ) → Type 0
EachRow sc rows = (r k : ℕ) → IsMoment sc r k → row_index sc.steps r k < length rows → row sc rows r k ≡ Ok (slice_index_or rows (row_index sc.steps r k) [])

-- The reference of a scenario: its rows, and the fault that ends them, if there is one.
pub record IsReference (sc : Scenario) (rows : List (List ℤ)) (fault : Option RefFault) : Type 0 where
  pub each : EachRow sc rows
  pub ends : Ends sc rows fault
