-- A row that is filled slave by slave.
use Rattle.std.proofs.Common.{◌≡◌, ℕ, zero, suc, ◌+◌, ◌-◌, ◌≤◌, ◌<◌, Bool, true, false, cond, List, [], ◌∷◌, ◌++◌, length, drop, get_or, refl, sym, ◌∙◌, ap, subst, arith, append_assoc, below_more, ℤ, pos, negsuc, ◌^◌, ◌≤ℤ◌, Some, slice_get, Result, Ok, Err}
use Rattle.std.specs.Prelude.{slice_set as set, All, int_le}
use Rattle.std.specs.Int.Signed.{le_z_yes}
use Rattle.std.proofs.lemmas.Float.{T_from_true}
use Rattle.std.proofs.lemmas.Int.{ints}
use Rattle.std.proofs.lemmas.List.{drop_more, drop_all, append-nil, length-append, length-map, length-set}
use Rattle.std.proofs.lemmas.List.Elements.{All-append, All-nil, All-cons}
use Rattle.std.proofs.lemmas.List.Sums.{sum_by-cons}
use Rattle.std.proofs.lemmas.Option.{slice_get_within, get_or_from_slice_get}
use Rattle.dcp_types.specs.declared.data_types.DataType.{DataType}
use Rattle.dcp_types.specs.declared.data_types.DataType.TheVariants as types
use Rattle.dcp_types.specs.declared.fault_codes.FaultCode.{FaultCode}
use Rattle.dcp_types.specs.declared.fault_codes.FaultCode.TheVariants.{OutOfRange}
use Rattle.dcp_types.specs.Values.{fits, least, greatest}
use Rattle.fixed_models.specs.Domains.{IsInput}
use Rattle.fixed_models.specs.Steps.{outputs, all_fit}
use Rattle.slave_desc.specs.declared.descriptions.SlaveDesc.{SlaveDesc}
use Rattle.scenario.specs.declared.scenarios.Scenario.{Scenario}
use Rattle.scenario.specs.Totals.{total_outputs}
use Rattle.lockstep.specs.declared.parts.Part.{Part}
use Rattle.lockstep.specs.declared.references.RefFault.{RefFault}
use Rattle.lockstep.specs.Cut.{Grid, SameRows}
use Rattle.scenario.specs.Settings.{parameters}
use Rattle.lockstep.specs.Lockstep.{row, row_from, beside, shown, shown_at, shown_of, state}
use Rattle.lockstep.specs.Parts.{PartStandsAt, AllStand, types_of_outputs}
use Rattle.lockstep.specs.Filling.{behind, Filled}
use Rattle.lockstep.proofs.Serving.{both_first, both_second}

pub same_rows : (g : Grid) → SameRows g g
same_rows g = record { width = refl; rows = refl }

pub more_rows : (first before after : Grid) → SameRows first before → SameRows before after → SameRows first after
more_rows first before after h k = record { width = k.width ∙ h.width; rows = k.rows ∙ h.rows }

-- a value put behind the row that is begun leaves the others
pub put_rows : (first before after : Grid) (begun : List ℤ) → SameRows first before → after ≡ record before { begun = begun } → SameRows first after
put_rows first before after begun h e = record { width = ap (λ (x : Grid). x.width) e ∙ h.width; rows = ap (λ (x : Grid). x.rows) e ∙ h.rows }

-- what a slave shows, where the rows are the same
pub shown_rows : (sc : Scenario) (rows others : List (List ℤ)) (s : ℕ) (d : SlaveDesc) (r k : ℕ) (x : Result (List ℤ) FaultCode) → others ≡ rows → shown sc others s d r k ≡ x → shown sc rows s d r k ≡ x
shown_rows sc rows others s d r k x e h = subst (λ (l : List (List ℤ)). shown sc l s d r k ≡ x) e h

slice_get-set_same : (xs : List Part) (i : ℕ) (y : Part) → i < length xs → slice_get (set xs i y) i ≡ Some y
slice_get-set_same [] i y lt = absurd (omega arith)
slice_get-set_same (x ∷ xs) zero y lt = refl
slice_get-set_same (x ∷ xs) (suc i) y lt = slice_get-set_same xs i y (omega arith)

slice_get-set_other : (xs : List Part) (i j : ℕ) (y : Part) → (j ≡ i → ⊥) → slice_get (set xs i y) j ≡ slice_get xs j
slice_get-set_other [] i j y ne = refl
slice_get-set_other (x ∷ xs) zero zero y ne = absurd (ne refl)
slice_get-set_other (x ∷ xs) zero (suc j) y ne = refl
slice_get-set_other (x ∷ xs) (suc i) zero y ne = refl
slice_get-set_other (x ∷ xs) (suc i) (suc j) y ne = slice_get-set_other xs i j y (λ e. ne (ap suc e))

behind-nil : (x : Result (List ℤ) RefFault) → x ≡ behind [] x
behind-nil (Ok ws) = refl
behind-nil (Err fault) = refl

behind-behind : (us vs : List ℤ) (x : Result (List ℤ) RefFault) → behind us (behind vs x) ≡ behind (us ++ vs) x
behind-behind us vs (Ok ws) = ap (λ (x : List ℤ). Ok x) (sym (append_assoc us vs ws))
behind-behind us vs (Err fault) = refl

beside-ok : (s r k : ℕ) (vs : List ℤ) (x : Result (List ℤ) RefFault) → beside s r k (Ok vs) x ≡ behind vs x
beside-ok s r k vs (Ok ws) = refl
beside-ok s r k vs (Err fault) = refl

pub filled_none : (sc : Scenario) (rows : List (List ℤ)) (r k : ℕ) (parts : List Part) (row' : List ℤ) → row' ≡ [] → AllStand sc rows r (k - 1) parts → Filled sc rows r k 0 parts row'
filled_none sc rows r k parts row' e h = record {
  count = h.count;
  done = λ j d p lt. absurd (omega arith);
  still = λ j d p le. h.each j d p;
  rest = behind-nil (row sc rows r k) ∙ ap (λ (x : List ℤ). behind x (row sc rows r k)) (sym e);
}

-- what the rest of the slaves shows, the first of them apart
rest_more : (sc : Scenario) (rows : List (List ℤ)) (r k i : ℕ) (d : SlaveDesc) → slice_get sc.slaves i ≡ Some d →
    row_from sc rows r k (i + 1) (drop i sc.slaves) ≡ beside (i + 1) r k (shown sc rows (i + 1) d r k) (row_from sc rows r k (i + 1 + 1) (drop (i + 1) sc.slaves))
rest_more sc rows r k i d at =
    let lt : i < length sc.slaves = slice_get_within sc.slaves i d at in
    let is : get_or sc.slaves i d ≡ d = get_or_from_slice_get sc.slaves i d d at in
    ap (λ (x : List SlaveDesc). row_from sc rows r k (i + 1) x) (drop_more sc.slaves i d lt)
    ∙ ap (λ (x : SlaveDesc). row_from sc rows r k (i + 1) (x ∷ drop (i + 1) sc.slaves)) is

pub filled_more : (sc : Scenario) (rows : List (List ℤ)) (r k i : ℕ) (d : SlaveDesc) (parts : List Part) (p : Part) (before vs after : List ℤ) → slice_get sc.slaves i ≡ Some d →
    Filled sc rows r k i parts before → shown sc rows (i + 1) d r k ≡ Ok vs → after ≡ before ++ vs → PartStandsAt sc rows r k (i + 1) d p → Filled sc rows r k (i + 1) (set parts i p) after
filled_more sc rows r k i d parts p before vs after at h here e stands =
    let lt : i < length sc.slaves = slice_get_within sc.slaves i d at in
    let within : i < length parts = omega (arith, h.count) in
    record {
      count = length-set parts i p ∙ h.count;
      done = λ j d' p' below at' got.
          let P : ℕ → Type 0 = λ n. j ≡ n → PartStandsAt sc rows r k (j + 1) d' p' in
          let last : P i = λ same.
          let got' : Some p ≡ Some p' = sym (slice_get-set_same parts i p within) ∙ ap (λ (n : ℕ). slice_get (set parts i p) n) (sym same) ∙ got in
          let there : Some d ≡ Some d' = sym at ∙ ap (λ (n : ℕ). slice_get sc.slaves n) (sym same) ∙ at' in
          let part : p ≡ p' = cc in
          let desc : d ≡ d' = cc in
          subst (λ (x : Part). PartStandsAt sc rows r k (j + 1) d' x) part
          (subst (λ (x : SlaveDesc). PartStandsAt sc rows r k (j + 1) x p) desc
          (subst (λ (n : ℕ). PartStandsAt sc rows r k (n + 1) d p) (sym same) stands)) in
          let earlier : (n : ℕ) → n < i → P n = λ n less same.
          h.done j d' p' (omega arith) at' (sym (slice_get-set_other parts i j p (λ (q : j ≡ i). absurd (omega arith))) ∙ got) in
          below_more P i earlier last j below refl;
      still = λ j d' p' le at' got.
          h.still j d' p' (omega arith) at' (sym (slice_get-set_other parts i j p (λ (q : j ≡ i). absurd (omega arith))) ∙ got);
      rest =
          h.rest
          ∙ ap (λ (x : Result (List ℤ) RefFault). behind before x)
          (rest_more sc rows r k i d at
          ∙ ap (λ (x : Result (List ℤ) FaultCode). beside (i + 1) r k x (row_from sc rows r k (i + 1 + 1) (drop (i + 1) sc.slaves))) here
          ∙ beside-ok (i + 1) r k vs (row_from sc rows r k (i + 1 + 1) (drop (i + 1) sc.slaves)))
          ∙ behind-behind before vs (row_from sc rows r k (i + 1 + 1) (drop (i + 1) sc.slaves))
          ∙ ap (λ (x : List ℤ). behind x (row_from sc rows r k (i + 1 + 1) (drop (i + 1) sc.slaves))) (sym e);
    }

pub filled_fault : (sc : Scenario) (rows : List (List ℤ)) (r k i : ℕ) (d : SlaveDesc) (parts : List Part) (before : List ℤ) (code : FaultCode) → slice_get sc.slaves i ≡ Some d →
    Filled sc rows r k i parts before → shown sc rows (i + 1) d r k ≡ Err code → row sc rows r k ≡ Err (record { slave = i + 1; run = r; step = k; code = code })
filled_fault sc rows r k i d parts before code at h here =
    h.rest
    ∙ ap (λ (x : Result (List ℤ) RefFault). behind before x)
    (rest_more sc rows r k i d at
    ∙ ap (λ (x : Result (List ℤ) FaultCode). beside (i + 1) r k x (row_from sc rows r k (i + 1 + 1) (drop (i + 1) sc.slaves))) here)

pub filled_all : (sc : Scenario) (rows : List (List ℤ)) (r k i : ℕ) (parts : List Part) (row' : List ℤ) → length sc.slaves ≤ i → Filled sc rows r k i parts row' →
    (row sc rows r k ≡ Ok row') × AllStand sc rows r k parts
filled_all sc rows r k i parts row' le h = (
  h.rest
      ∙ ap (λ (x : List SlaveDesc). behind row' (row_from sc rows r k (i + 1) x)) (drop_all i sc.slaves le)
      ∙ ap (λ (x : List ℤ). Ok x) (append-nil row'),
  record { count = h.count; each = λ j d p at got. let lt : j < length sc.slaves = slice_get_within sc.slaves j d at in h.done j d p (omega arith) at got },
)

chain : (a b c : ℤ) → a ≤ℤ b → b ≤ℤ c → a ≤ℤ c
chain a b c h k = grind (arith, ints)

least_is : (t : DataType) → negsuc (2 ^ 63 - 1) ≤ℤ least t
least_is types.U8 = le_z_yes tt
least_is types.U16 = le_z_yes tt
least_is types.U32 = le_z_yes tt
least_is types.U64 = le_z_yes tt
least_is types.I8 = le_z_yes tt
least_is types.I16 = le_z_yes tt
least_is types.I32 = le_z_yes tt
least_is types.I64 = le_z_yes tt

greatest_is : (t : DataType) → greatest t ≤ℤ pos (2 ^ 64 - 1)
greatest_is types.U8 = le_z_yes tt
greatest_is types.U16 = le_z_yes tt
greatest_is types.U32 = le_z_yes tt
greatest_is types.U64 = le_z_yes tt
greatest_is types.I8 = le_z_yes tt
greatest_is types.I16 = le_z_yes tt
greatest_is types.I32 = le_z_yes tt
greatest_is types.I64 = le_z_yes tt

fits_input : (t : DataType) (z : ℤ) → fits t z ≡ true → IsInput z
fits_input t z h =
    let low : least t ≤ℤ z = le_z_yes (T_from_true (int_le (least t) z) (both_first (int_le (least t) z) (int_le z (greatest t)) h)) in
    let high : z ≤ℤ greatest t = le_z_yes (T_from_true (int_le z (greatest t)) (both_second (int_le (least t) z) (int_le z (greatest t)) h)) in
    record { low = chain (negsuc (2 ^ 63 - 1)) (least t) z (least_is t) low; high = chain z (greatest t) (pos (2 ^ 64 - 1)) high (greatest_is t) }

all_input : (ts : List DataType) (vs : List ℤ) → all_fit ts vs ≡ true → (length vs ≡ length ts) × All IsInput vs
all_input [] [] h = (refl, All-nil IsInput)
all_input [] (v ∷ vs) h = absurd (cc)
all_input (t ∷ ts) [] h = absurd (cc)
all_input (t ∷ ts) (v ∷ vs) h =
    let rest = all_input ts vs (both_second (fits t v) (all_fit ts vs) h) in
    (omega (arith, rest.0), All-cons IsInput v vs (fits_input t v (both_first (fits t v) (all_fit ts vs) h)) rest.1)

-- what is shown has a value for each output, and each is an input
pub IsShown : ℕ → Result (List ℤ) FaultCode → Type 0
IsShown n (Ok vs) = (length vs ≡ n) × All IsInput vs
IsShown n (Err code) = Unit {0}

pub IsRow : ℕ → Result (List ℤ) RefFault → Type 0
IsRow n (Ok vs) = (length vs ≡ n) × All IsInput vs
IsRow n (Err fault) = Unit {0}

checked_is : (ts : List DataType) (vs : List ℤ) (b : Bool) → all_fit ts vs ≡ b → IsShown (length ts) (cond b (Ok vs) (Err OutOfRange))
unfolding IsShown
checked_is ts vs true h = all_input ts vs h
checked_is ts vs false h = tt

shown_is : (sc : Scenario) (s : ℕ) (d : SlaveDesc) (r : ℕ) (x : Result (List ℤ) FaultCode) → IsShown (length d.outputs) (shown_at sc s d r x)
unfolding IsShown
shown_is sc s d r (Err code) = tt
shown_is sc s d r (Ok x) =
    let vs = outputs d.kind (parameters sc s d r) x in
    subst (λ (k : ℕ). IsShown k (shown_of (types_of_outputs d) vs)) (length-map d.outputs (λ p. p.kind)) (checked_is (types_of_outputs d) vs (all_fit (types_of_outputs d) vs) refl)

beside_is : (s r k n m : ℕ) (x : Result (List ℤ) FaultCode) (y : Result (List ℤ) RefFault) → IsShown n x → IsRow m y → IsRow (n + m) (beside s r k x y)
unfolding IsShown IsRow
beside_is s r k n m (Err code) y h g = tt
beside_is s r k n m (Ok vs) (Err fault) h g = tt
beside_is s r k n m (Ok vs) (Ok ws) h g = (omega (arith, length-append vs ws, h.0, g.0), All-append IsInput vs ws h.1 g.1)

row_nil : IsRow 0 (Ok [])
unfolding IsRow
row_nil = (refl, All-nil IsInput)

row_from_is : (sc : Scenario) (rows : List (List ℤ)) (r k s : ℕ) (ds : List SlaveDesc) → IsRow (total_outputs ds) (row_from sc rows r k s ds)
row_from_is sc rows r k s [] = row_nil
row_from_is sc rows r k s (d ∷ ds) =
    subst (λ (n : ℕ). IsRow n (row_from sc rows r k s (d ∷ ds))) (sym (sum_by-cons (λ (x : SlaveDesc). length x.outputs) d ds))
    (beside_is s r k (length d.outputs) (total_outputs ds) (shown sc rows s d r k) (row_from sc rows r k (s + 1) ds)
    (shown_is sc s d r (state sc rows s d r k))
    (row_from_is sc rows r k (s + 1) ds))

-- a row has a value for each output, and each is an input
pub row_is : (sc : Scenario) (rows : List (List ℤ)) (r k : ℕ) (vs : List ℤ) → row sc rows r k ≡ Ok vs → (length vs ≡ total_outputs sc.slaves) × All IsInput vs
unfolding IsRow
row_is sc rows r k vs e = subst (IsRow (total_outputs sc.slaves)) e (row_from_is sc rows r k 1 sc.slaves)
