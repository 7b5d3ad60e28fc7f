-- A row is what its slaves show, one behind the other.
use Rattle.std.proofs.Common.{◌≡◌, ℕ, zero, suc, ◌+◌, ◌-◌, ◌<◌, ◌==◌, Bool, true, false, if◌then◌else◌, List, [], ◌∷◌, ◌++◌, length, take, map, Some, Result, Ok, Err, refl, sym, ap, ◌∙◌, arith, ℤ, pos}
use Rattle.std.specs.Prelude.{slice_get, slice_index_or}
use Rattle.std.proofs.lemmas.Bool.{and_parts}
use Rattle.std.proofs.lemmas.List.{get_or_append_left, get_or-append-add, length-map}
use Rattle.std.proofs.lemmas.List.Sums.{sum_by-cons}
use Rattle.dcp_types.specs.declared.data_types.DataType.{DataType}
use Rattle.dcp_types.specs.declared.fault_codes.FaultCode.{FaultCode}
use Rattle.dcp_types.specs.declared.fault_codes.FaultCode.TheVariants.{OutOfRange}
use Rattle.dcp_types.specs.Values.{fits}
use Rattle.fixed_models.specs.Steps.{outputs, all_fit}
use Rattle.slave_desc.specs.declared.descriptions.SlaveDesc.{SlaveDesc}
use Rattle.scenario.specs.declared.scenarios.Scenario.{Scenario}
use Rattle.scenario.specs.Totals.{total_outputs}
use Rattle.scenario.specs.Settings.{parameters}
use Rattle.lockstep.specs.declared.references.RefFault.{RefFault}
use Rattle.lockstep.specs.Lockstep.{row_from, beside, shown, shown_of, shown_at, state}
use Rattle.slave_laws.specs.Wiring.RowParts.{RowsHaveParts}

-- ---- what is shown has a value for each output
fit_length : (types : List DataType) (us : List ℤ) → all_fit types us ≡ true → length us ≡ length types
fit_length [] [] h = refl
fit_length [] (u ∷ us) h = absurd cc
fit_length (t ∷ types) [] h = absurd cc
fit_length (t ∷ types) (u ∷ us) h = ap suc (fit_length types us (and_parts (fits t u) (all_fit types us) h).1)

of_length : (types : List DataType) (us vs : List ℤ) → shown_of types us ≡ Ok vs → length vs ≡ length types
of_length types us vs h = by (all_fit types us) refl h
  where
    by : (b : Bool) → all_fit types us ≡ b → (if b then Ok us else Err OutOfRange) ≡ Ok vs → length vs ≡ length types
    by true e k = let same : us ≡ vs = cc in ap length (sym same) ∙ fit_length types us e
    by false e k = absurd cc

pub shown_length : (sc : Scenario) (s : ℕ) (d : SlaveDesc) (r : ℕ) (x : Result (List ℤ) FaultCode) (vs : List ℤ) → shown_at sc s d r x ≡ Ok vs → length vs ≡ length d.outputs
shown_length sc s d r (Err code) vs h = absurd cc
shown_length sc s d r (Ok x) vs h = of_length (map (λ p. p.kind) d.outputs) (outputs d.kind (parameters sc s d r) x) vs h ∙ length-map d.outputs (λ p. p.kind)

-- ---- one beside the others
record Beside (x : Result (List ℤ) FaultCode) (y : Result (List ℤ) RefFault) (ws : List ℤ) : Type 0 where
  pub own : List ℤ
  pub others : List ℤ
  pub first : x ≡ Ok own
  pub rest : y ≡ Ok others
  pub is : ws ≡ own ++ others

beside_is : (s r k : ℕ) (x : Result (List ℤ) FaultCode) (y : Result (List ℤ) RefFault) (ws : List ℤ) → beside s r k x y ≡ Ok ws → Beside x y ws
beside_is s r k (Err code) y ws h = absurd cc
beside_is s r k (Ok vs) (Err fault) ws h = absurd cc
beside_is s r k (Ok vs) (Ok us) ws h = record { own = vs; others = us; first = refl; rest = refl; is = cc }

same_ok : (x : Result (List ℤ) FaultCode) (vs us : List ℤ) → x ≡ Ok vs → x ≡ Ok us → vs ≡ us
same_ok (Ok z) vs us a b = let p : z ≡ vs = cc in let q : z ≡ us = cc in sym p ∙ q
same_ok (Err code) vs us a b = absurd cc

module _ (sc : Scenario) (rows : List (List ℤ)) (r k : ℕ) where
  part_at : (ds : List SlaveDesc) (t base : ℕ) (d : SlaveDesc) (ws vs : List ℤ) (o : ℕ) → slice_get ds t ≡ Some d → row_from sc rows r k base ds ≡ Ok ws → shown sc rows (base + t) d r k ≡ Ok vs → o < length d.outputs
      → slice_index_or ws (total_outputs (take t ds) + o) (pos 0) ≡ slice_index_or vs o (pos 0)
  part_at [] t base d ws vs o e h g lt = absurd cc
  part_at (x ∷ ds) zero base d ws vs o e h g lt =
      let b = beside_is base r k (shown sc rows base x r k) (row_from sc rows r k (base + 1) ds) ws h in
      let same : x ≡ d = cc in
      let here : base + 0 ≡ base = omega arith in
      let mine : shown sc rows base x r k ≡ Ok vs = ap (λ z. shown sc rows base z r k) same ∙ ap (λ n. shown sc rows n d r k) (sym here) ∙ g in
      let own : b.own ≡ vs = same_ok (shown sc rows base x r k) b.own vs b.first mine in
      let size : length b.own ≡ length x.outputs = shown_length sc base x r (state sc rows base x r k) b.own b.first in
      let longer : length x.outputs ≡ length d.outputs = ap (λ z. length z.outputs) same in
      let none : 0 + o ≡ o = omega arith in
      ap (λ n. slice_index_or ws n (pos 0)) none ∙ ap (λ l. slice_index_or l o (pos 0)) b.is ∙ get_or_append_left b.own b.others (pos 0) o (omega (arith, size, longer, lt)) ∙ ap (λ l. slice_index_or l o (pos 0)) own
  part_at (x ∷ ds) (suc t) base d ws vs o e h g lt =
      let b = beside_is base r k (shown sc rows base x r k) (row_from sc rows r k (base + 1) ds) ws h in
      let size : length b.own ≡ length x.outputs = shown_length sc base x r (state sc rows base x r k) b.own b.first in
      let sums = sum_by-cons (λ (z : SlaveDesc). length z.outputs) x (take t ds) in
      let place : total_outputs (x ∷ take t ds) + o ≡ length b.own + (total_outputs (take t ds) + o) = omega (arith, size, sums) in
      let next : base + suc t ≡ (base + 1) + t = omega arith in
      let mine : shown sc rows ((base + 1) + t) d r k ≡ Ok vs = ap (λ n. shown sc rows n d r k) (sym next) ∙ g in
      ap (λ n. slice_index_or ws n (pos 0)) place ∙ ap (λ l. slice_index_or l (length b.own + (total_outputs (take t ds) + o)) (pos 0)) b.is
      ∙ get_or-append-add b.own b.others (total_outputs (take t ds) + o) (pos 0) ∙ part_at ds t (base + 1) d b.others vs o e b.rest mine lt

pub have_parts : RowsHaveParts
have_parts sc ok rows r k whole h s d pos' e vs g o lt =
    let there : 1 + (s - 1) ≡ s = omega (arith, pos') in
    part_at sc rows r k sc.slaves (s - 1) 1 d whole vs o e h (ap (λ n. shown sc rows n d r k) there ∙ g) lt
