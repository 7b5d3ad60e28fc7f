-- The wires are no more than the inputs.
use Rattle.std.proofs.Common.{◌≡◌, ◌≢◌, ℕ, ◌+◌, ◌-◌, ◌*◌, ◌<◌, ◌≤◌, Bool, true, false, cond, eqb, get_or, List, [], ◌∷◌, map, length, Option, Some, None, sym, ◌∙◌, subst, arith}
use Rattle.std.specs.Prelude.{All, AllPairs, slice_get}
use Rattle.std.specs.List.{list_any}
use Rattle.std.proofs.lemmas.Bool.{false≢true, eq-eqb, eqb-true, and_from}
use Rattle.std.proofs.lemmas.Bool.Decides.{Decides-eqb}
use Rattle.std.proofs.lemmas.List.{get_or-map, length-map}
use Rattle.std.proofs.lemmas.List.Folds.{Any-from_list_any}
use Rattle.std.proofs.lemmas.Option.{slice_get-get_or}
use Rattle.std.proofs.lemmas.Map.Made.{IsDistinct-from_AllPairs}
use Rattle.std.proofs.lemmas.Map.Steps.{length-le_from_distinct_below}
use Rattle.slave_desc.specs.Descriptions.{IsDesc}
use Rattle.slave_desc.specs.declared.descriptions.SlaveDesc.{SlaveDesc}
use Rattle.scenario.specs.Lookups.{inputs_at, inputs_in}
use Rattle.scenario.specs.Wiring.{same_input}
use Rattle.scenario.specs.Sound.{IsSlave, IsWire}
use Rattle.scenario.specs.declared.scenarios.Wire.{Wire}

inputs_by : (s : ℕ) (b : Bool) (o : Option SlaveDesc) (d : SlaveDesc) → o ≡ Some d → IsDesc d → length (inputs_in (cond b None o)) ≤ 8
inputs_by s true o d e desc = omega arith
inputs_by s false o d e desc = subst (λ (o : Option SlaveDesc). length (inputs_in o) ≤ 8) (sym e) desc.few_inputs

few_inputs : (slaves : List SlaveDesc) → All (λ d. IsDesc d) slaves → (s : ℕ) → IsSlave slaves s → length (inputs_at slaves s) ≤ 8
few_inputs [] all s is = absurd (omega (arith, is.0, is.1))
few_inputs (d ∷ ds) all s is =
    let below : s - 1 < length (d ∷ ds) = omega (arith, is.0, is.1) in
    inputs_by s (eqb s 0) (slice_get (d ∷ ds) (s - 1)) (get_or (d ∷ ds) (s - 1) d) (slice_get-get_or (d ∷ ds) (s - 1) d below) (all (s - 1) d below)

-- the inputs of 16 slaves, numbered
abbrev input_of : Wire → ℕ
input_of w = (w.to - 1) * 8 + w.into

input_below : (slaves : List SlaveDesc) → All (λ d. IsDesc d) slaves → length slaves ≤ 16 → (w : Wire) → IsWire slaves w → (input_of w < 128) × (1 ≤ w.to) × (w.into < 8)
input_below slaves all few w is = let inputs = few_inputs slaves all w.to is.to in (omega (arith, inputs, few, is.to.0, is.to.1, is.into), is.to.0, omega (arith, inputs, is.into))

same_place : (a b i j : ℕ) → 1 ≤ a → 1 ≤ b → i < 8 → j < 8 → (a - 1) * 8 + i ≡ (b - 1) * 8 + j → (a ≡ b) × (i ≡ j)
same_place a b i j la lb li lj e = (omega (arith, la, lb, li, lj, e), omega (arith, la, lb, li, lj, e))

differ : (slaves : List SlaveDesc) → All (λ d. IsDesc d) slaves → length slaves ≤ 16 → (v w : Wire) → IsWire slaves v → IsWire slaves w → same_input v w ≡ false → input_of v ≢ input_of w
differ slaves all few v w is_v is_w other e =
    let a = input_below slaves all few v is_v in
    let b = input_below slaves all few w is_w in
    let same = same_place v.to w.to v.into w.into a.1 b.1 a.2 b.2 e in
    false≢true (sym other ∙ and_from (eqb v.to w.to) (eqb v.into w.into) (eq-eqb v.to w.to same.0) (eq-eqb v.into w.into same.1))

-- ---- numbers of a list's elements

numbers_differ : {X : Type 0} (f : X → ℕ) (R : X → X → Type 0) (P : X → Type 0) (xs : List X) → All P xs → AllPairs R xs → ((x y : X) → P x → P y → R x y → f x ≢ f y) → AllPairs (λ m n. m ≢ n) (map f xs)
numbers_differ f R P [] all pairs h i j d before below = absurd (omega arith)
numbers_differ f R P (x ∷ xs) all pairs h i j d before below =
    let in_j : j < length (x ∷ xs) = omega (arith, below, length-map (x ∷ xs) f) in
    let in_i : i < length (x ∷ xs) = omega (arith, before, in_j) in
    λ same. h (get_or (x ∷ xs) i x) (get_or (x ∷ xs) j x) (all i x in_i) (all j x in_j) (pairs i j x before in_j) (sym (get_or-map f (x ∷ xs) i x d in_i) ∙ same ∙ get_or-map f (x ∷ xs) j x d in_j)

numbers_below : {X : Type 0} (f : X → ℕ) (n : ℕ) (P : X → Type 0) (xs : List X) → All P xs → ((x : X) → P x → f x < n) → (q : ℕ) → list_any (eqb q) (map f xs) ≡ true → q < n
numbers_below f n P [] all h q e = absurd (false≢true e)
numbers_below f n P (x ∷ xs) all h q e =
    let t = Any-from_list_any (eqb q) (map f (x ∷ xs)) e in
    let below : t.0 < length (x ∷ xs) = omega (arith, t.2, length-map (x ∷ xs) f) in
    let is : f (get_or (x ∷ xs) t.0 x) ≡ q = sym (get_or-map f (x ∷ xs) t.0 x t.1 below) ∙ t.3 ∙ sym (eqb-true q t.1 t.4) in
    subst (λ (m : ℕ). m < n) is (h (get_or (x ∷ xs) t.0 x) (all t.0 x below))

-- each input has at most one wire, so there are at most 128
pub few_wires : (slaves : List SlaveDesc) (wires : List Wire) → All (λ d. IsDesc d) slaves → length slaves ≤ 16 → All (λ w. IsWire slaves w) wires → AllPairs (λ v w. same_input v w ≡ false) wires → length wires ≤ 128
few_wires slaves wires all few there one =
    subst (λ (n : ℕ). n ≤ 128) (length-map wires input_of)
    (length-le_from_distinct_below (map input_of wires) 128
    (IsDistinct-from_AllPairs Decides-eqb (map input_of wires) (numbers_differ input_of (λ (v w : Wire). same_input v w ≡ false) (λ (w : Wire). IsWire slaves w) wires there one (differ slaves all few)))
    (numbers_below input_of 128 (λ (w : Wire). IsWire slaves w) wires there (λ w is. (input_below slaves all few w is).0)))
