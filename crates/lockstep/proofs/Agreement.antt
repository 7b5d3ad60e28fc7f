-- What a moment shows depends on the rows before it alone.
use Rattle.std.proofs.Common.{◌≡◌, ℕ, zero, suc, ◌+◌, ◌*◌, ◌/◌, ◌<◌, ◌≤◌, Some, None, Option, Ok, Err, Result, List, [], ◌∷◌, map, length, refl, ◌∙◌, ap, arith, ℤ, pos, get_or}
use Rattle.std.specs.List.{range_with_len}
use Rattle.dcp_types.specs.declared.fault_codes.FaultCode.{FaultCode}
use Rattle.fixed_models.specs.Steps.{model_step}
use Rattle.slave_desc.specs.declared.descriptions.SlaveDesc.{SlaveDesc}
use Rattle.scenario.specs.declared.scenarios.Scenario.{Scenario}
use Rattle.scenario.specs.declared.scenarios.Wire.{Wire}
use Rattle.lockstep.specs.declared.references.RefFault.{RefFault}
use Rattle.scenario.specs.Settings.{parameters}
use Rattle.scenario.specs.Wiring.{wire_into, interval, column}
use Rattle.lockstep.specs.Lockstep.{row_index, read, inputs, state, model_state_after, shown, shown_at, beside, row_from, row}

-- two lists of rows agree below a place
abbrev pub Agree : ℕ → List (List ℤ) → List (List ℤ) → Type 0
Agree n rows others = (i : ℕ) → i < n → get_or rows i [] ≡ get_or others i []

-- the last renewal lies not ahead
pub renewed_before : (q k : ℕ) → q * (k / q) ≤ k
renewed_before q k = grind arith

pub read-agree : (sc : Scenario) (rows others : List (List ℤ)) (r k : ℕ) (w : Option Wire) →
    Agree (row_index sc.steps r k + 1) rows others → read sc rows r k w ≡ read sc others r k w
read-agree sc rows others r k None h = refl
read-agree sc rows others r k (Some w) h =
    let q = interval sc.every w.from w.to in
    let at = row_index sc.steps r (q * (k / q)) in
    let le : q * (k / q) ≤ k = renewed_before q k in
    let lt : at < row_index sc.steps r k + 1 = omega arith in
    ap (λ (row : List ℤ). get_or row (column sc.slaves w.from w.out) (pos 0)) (h at lt)

map-agree : {A B : Type 0} (f g : A → B) → ((x : A) → f x ≡ g x) → (xs : List A) → map f xs ≡ map g xs
map-agree f g h [] = refl
map-agree f g h (x ∷ xs) = let e = h x in let es = map-agree f g h xs in cc

pub inputs-agree : (sc : Scenario) (rows others : List (List ℤ)) (s : ℕ) (d : SlaveDesc) (r k : ℕ) →
    Agree (row_index sc.steps r k + 1) rows others → inputs sc rows s d r k ≡ inputs sc others s d r k
inputs-agree sc rows others s d r k h =
    map-agree (λ i. read sc rows r k (wire_into sc.wires s i)) (λ i. read sc others r k (wire_into sc.wires s i))
    (λ i. read-agree sc rows others r k (wire_into sc.wires s i) h) (range_with_len 0 (length d.inputs))

below : (sc : Scenario) (rows others : List (List ℤ)) (r k : ℕ) → Agree (row_index sc.steps r (suc k)) rows others → Agree (row_index sc.steps r k + 1) rows others
below sc rows others r k h i lt = h i (omega arith)

after-agree : (sc : Scenario) (rows others : List (List ℤ)) (s : ℕ) (d : SlaveDesc) (r k : ℕ) (x : Result (List ℤ) FaultCode) →
    Agree (row_index sc.steps r k + 1) rows others → model_state_after sc rows s d r k x ≡ model_state_after sc others s d r k x
after-agree sc rows others s d r k (Ok x) h =
    ap (λ (us : List ℤ). model_step d.kind (parameters sc s d r) (map (λ p. p.kind) d.outputs) x us sc.micro)
    (inputs-agree sc rows others s d r k h)
after-agree sc rows others s d r k (Err code) h = refl

-- a state depends on the rows before its place
pub state-agree : (sc : Scenario) (rows others : List (List ℤ)) (s : ℕ) (d : SlaveDesc) (r k : ℕ) →
    Agree (row_index sc.steps r k) rows others → state sc rows s d r k ≡ state sc others s d r k
state-agree sc rows others s d r zero h = refl
state-agree sc rows others s d r (suc k) h =
    let at = below sc rows others r k h in
    let before = state-agree sc rows others s d r k (λ i lt. h i (omega arith)) in
    ap (λ (x : Result (List ℤ) FaultCode). model_state_after sc rows s d r k x) before
    ∙ after-agree sc rows others s d r k (state sc others s d r k) at

pub row_from-agree : (sc : Scenario) (rows others : List (List ℤ)) (r k s : ℕ) (ds : List SlaveDesc) →
    Agree (row_index sc.steps r k) rows others → row_from sc rows r k s ds ≡ row_from sc others r k s ds
row_from-agree sc rows others r k s [] h = refl
row_from-agree sc rows others r k s (d ∷ ds) h =
    let e = ap (λ (x : Result (List ℤ) FaultCode). shown_at sc s d r x) (state-agree sc rows others s d r k h) in
    let es = row_from-agree sc rows others r k (s + 1) ds h in
    ap (λ (x : Result (List ℤ) FaultCode). beside s r k x (row_from sc rows r k (s + 1) ds)) e
    ∙ ap (λ (x : Result (List ℤ) RefFault). beside s r k (shown sc others s d r k) x) es

-- a row depends on the rows before its place
pub row-agree : (sc : Scenario) (rows others : List (List ℤ)) (r k : ℕ) →
    Agree (row_index sc.steps r k) rows others → row sc rows r k ≡ row sc others r k
row-agree sc rows others r k h = row_from-agree sc rows others r k 1 sc.slaves h
