-- Each scenario has a reference, and no other.
use Rattle.std.proofs.Common.{◌≡◌, ℕ, zero, suc, ◌+◌, ◌-◌, ◌*◌, ◌/◌, ◌%◌, ◌<◌, ◌≤◌, Some, None, Option, Ok, Err, Result, List, [], ◌∷◌, ◌++◌, length, refl, sym, ◌∙◌, ap, subst, arith, ℤ, get_or, below_more}
use Rattle.std.proofs.lemmas.Nat.{div-mul-add, mod-mul-add}
use Rattle.std.proofs.lemmas.List.{get_or_append_left, get_or_push, length_push, ext_get_or}
use Rattle.dcp_types.specs.declared.fault_codes.FaultCode.{FaultCode}
use Rattle.slave_desc.specs.declared.descriptions.SlaveDesc.{SlaveDesc}
use Rattle.scenario.specs.declared.scenarios.Scenario.{Scenario}
use Rattle.lockstep.specs.declared.references.RefFault.{RefFault}
use Rattle.lockstep.specs.Lockstep.{row_index, shown, beside, row_from, row, IsMoment, EndsAt, Ends, EachRow, IsReference}
use Rattle.lockstep.proofs.Agreement.{Agree, row-agree}

-- a fault carries the moment at which it is found
pub IsFaultOf : ℕ → ℕ → Result (List ℤ) RefFault → Type 0
IsFaultOf r k (Ok vs) = Unit {0}
IsFaultOf r k (Err fault) = (fault.run ≡ r) × (fault.step ≡ k)

beside-moment : (s r k : ℕ) (x : Result (List ℤ) FaultCode) (rest : Result (List ℤ) RefFault) → IsFaultOf r k rest → IsFaultOf r k (beside s r k x rest)
unfolding IsFaultOf
beside-moment s r k (Ok vs) (Ok ws) h = tt
beside-moment s r k (Ok vs) (Err fault) h = h
beside-moment s r k (Err code) rest h = (refl, refl)

row_from-moment : (sc : Scenario) (rows : List (List ℤ)) (r k s : ℕ) (ds : List SlaveDesc) → IsFaultOf r k (row_from sc rows r k s ds)
unfolding IsFaultOf
row_from-moment sc rows r k s [] = tt
row_from-moment sc rows r k s (d ∷ ds) = beside-moment s r k (shown sc rows s d r k) (row_from sc rows r k (s + 1) ds) (row_from-moment sc rows r k (s + 1) ds)

pub row-moment : (sc : Scenario) (rows : List (List ℤ)) (r k : ℕ) (fault : RefFault) → row sc rows r k ≡ Err fault → (fault.run ≡ r) × (fault.step ≡ k)
unfolding IsFaultOf
row-moment sc rows r k fault e = subst (IsFaultOf r k) e (row_from-moment sc rows r k 1 sc.slaves)

-- each place is that of one moment
pub run_at : Scenario → ℕ → ℕ
run_at sc i = i / (sc.steps + 1) + 1

pub step_at : Scenario → ℕ → ℕ
step_at sc i = i % (sc.steps + 1)

pub moment_at : (sc : Scenario) (i : ℕ) → i < sc.runs * (sc.steps + 1) → IsMoment sc (run_at sc i) (step_at sc i)
unfolding run_at step_at
moment_at sc i lt = record { first = omega arith; last = grind arith; within = grind arith }

pub place_at : (sc : Scenario) (i : ℕ) → row_index sc.steps (run_at sc i) (step_at sc i) ≡ i
unfolding run_at step_at
place_at sc i = grind arith

pub within_all : (sc : Scenario) (r k : ℕ) → IsMoment sc r k → row_index sc.steps r k < sc.runs * (sc.steps + 1)
within_all sc r k m = grind arith

pub same_moment : (sc : Scenario) (r k r' k' : ℕ) → IsMoment sc r k → IsMoment sc r' k' → row_index sc.steps r k ≡ row_index sc.steps r' k' → (r ≡ r') × (k ≡ k')
same_moment sc r k r' k' m m' e =
    let w = sc.steps + 1 in
    let lt : k < w = omega arith in
    let lt' : k' < w = omega arith in
    let runs : r - 1 ≡ r' - 1 =
    sym (div-mul-add (r - 1) w k lt) ∙ ap (λ (x : ℕ). x / w) e ∙ div-mul-add (r' - 1) w k' lt' in
    let steps : k ≡ k' =
    sym (mod-mul-add (r - 1) w k lt) ∙ ap (λ (x : ℕ). x % w) e ∙ mod-mul-add (r' - 1) w k' lt' in
    (omega arith, steps)

not_above : (m n : ℕ) → (m < n → ⊥) → n ≤ m
not_above m n h = omega arith

-- the rows are no more than there are moments
ends_within : (sc : Scenario) (rows : List (List ℤ)) (fault : Option RefFault) → Ends sc rows fault → length rows ≤ sc.runs * (sc.steps + 1)
ends_within sc rows None h = omega (arith, h)
ends_within sc rows (Some fault) h = let lt = within_all sc fault.run fault.step h.moment in omega (arith, h.behind, lt)

module _ (sc : Scenario) (rows others : List (List ℤ)) (fault fault' : Option RefFault) (one : IsReference sc rows fault) (two : IsReference sc others fault') where
  row_same : (n : ℕ) → n < length rows → n < length others → Agree n rows others → get_or rows n [] ≡ get_or others n []
  row_same n lt lt' before =
      let r = run_at sc n in
      let k = step_at sc n in
      let at : row_index sc.steps r k ≡ n = place_at sc n in
      let total = ends_within sc rows fault one.ends in
      let m : IsMoment sc r k = moment_at sc n (omega (arith, total)) in
      let here : row sc rows r k ≡ Ok (get_or rows n []) = rw at at (one.each r k m (omega (arith, at))) in
      let there : row sc others r k ≡ Ok (get_or others n []) = rw at at (two.each r k m (omega (arith, at))) in
      let same : row sc rows r k ≡ row sc others r k = row-agree sc rows others r k (λ i h. before i (omega (arith, at))) in
      cc

  agree_to : (n : ℕ) → n ≤ length rows → n ≤ length others → Agree n rows others
  agree_to zero le le' i h = absurd (omega arith)
  agree_to (suc n) le le' i h =
      let before = agree_to n (omega arith) (omega arith) in
      below_more (λ i. get_or rows i [] ≡ get_or others i []) n before (row_same n (omega arith) (omega arith) before) i (omega arith)

  -- where a list of rows ends, the other goes no further
  ends_first : (end : Option RefFault) → Ends sc rows end → length rows < length others → ⊥
  ends_first None h lt = let total = ends_within sc others fault' two.ends in omega (arith, h, total)
  ends_first (Some f) h lt =
      let same : row sc rows f.run f.step ≡ row sc others f.run f.step =
      row-agree sc rows others f.run f.step (λ i l. agree_to (length rows) (omega arith) (omega arith) i (omega (arith, h.behind))) in
      let there = two.each f.run f.step h.moment (omega (arith, h.behind)) in
      let here = h.faults in
      cc

  not_longer : length others ≤ length rows
  not_longer = not_above (length rows) (length others) (ends_first fault one.ends)

same_length : (sc : Scenario) (rows others : List (List ℤ)) (fault fault' : Option RefFault) → IsReference sc rows fault → IsReference sc others fault' → length rows ≡ length others
same_length sc rows others fault fault' one two =
    let le = not_longer sc rows others fault fault' one two in
    let ge = not_longer sc others rows fault' fault two one in
    omega (arith, le, ge)

same_rows : (sc : Scenario) (rows others : List (List ℤ)) (fault fault' : Option RefFault) → IsReference sc rows fault → IsReference sc others fault' → rows ≡ others
same_rows sc rows others fault fault' one two =
    let e = same_length sc rows others fault fault' one two in
    ext_get_or [] rows others e (λ i lt. agree_to sc rows others fault fault' one two (length rows) (omega arith) (omega (arith, e)) i lt)

same_end : (sc : Scenario) (rows : List (List ℤ)) (fault fault' : Option RefFault) → Ends sc rows fault → Ends sc rows fault' → fault ≡ fault'
same_end sc rows None None h h' = refl
same_end sc rows None (Some f) h h' = absurd (let lt = within_all sc f.run f.step h'.moment in omega (arith, h, h'.behind, lt))
same_end sc rows (Some f) None h h' = absurd (let lt = within_all sc f.run f.step h.moment in omega (arith, h', h.behind, lt))
same_end sc rows (Some f) (Some g) h h' =
    let at : row_index sc.steps f.run f.step ≡ row_index sc.steps g.run g.step = sym h.behind ∙ h'.behind in
    let same = same_moment sc f.run f.step g.run g.step h.moment h'.moment at in
    let run = same.0 in
    let step = same.1 in
    let here = h.faults in
    let there = h'.faults in
    cc

-- no other rows and no other fault are the reference
pub reference_unique : (sc : Scenario) (rows others : List (List ℤ)) (fault fault' : Option RefFault) → IsReference sc rows fault → IsReference sc others fault' → (rows ≡ others) × (fault ≡ fault')
reference_unique sc rows others fault fault' one two =
    let e = same_rows sc rows others fault fault' one two in
    (e, same_end sc rows fault fault' one.ends (subst (λ (x : List (List ℤ)). Ends sc x fault') (sym e) two.ends))

-- the rows before the last are those without it
pub agree_push : (rows : List (List ℤ)) (vs : List ℤ) (n : ℕ) → n ≤ length rows → Agree n (rows ++ vs ∷ []) rows
agree_push rows vs n le i lt = get_or_append_left rows (vs ∷ []) [] i (omega arith)

-- one more row
pub EachRow-push : (sc : Scenario) (rows : List (List ℤ)) (vs : List ℤ) (r k : ℕ) → IsMoment sc r k → length rows ≡ row_index sc.steps r k → row sc rows r k ≡ Ok vs →
    EachRow sc rows → EachRow sc (rows ++ vs ∷ [])
EachRow-push sc rows vs r k m at now each r' k' m' lt =
    let P : ℕ → Type 0 = λ i. row_index sc.steps r' k' ≡ i → row sc (rows ++ vs ∷ []) r' k' ≡ Ok (get_or (rows ++ vs ∷ []) i []) in
    let last : P (length rows) = λ e.
    let same = same_moment sc r' k' r k m' m (e ∙ at) in
    let run = same.0 in
    let step = same.1 in
    let new : get_or (rows ++ vs ∷ []) (length rows) [] ≡ vs = get_or_push rows vs [] (length rows) refl in
    let alike = row-agree sc (rows ++ vs ∷ []) rows r k (agree_push rows vs (row_index sc.steps r k) (omega arith)) in
    let moved : row sc (rows ++ vs ∷ []) r' k' ≡ row sc (rows ++ vs ∷ []) r k = cc in
    moved ∙ alike ∙ now ∙ ap (λ (x : List ℤ). Ok x) (sym new) in
    let earlier : (i : ℕ) → i < length rows → P i = λ i below e.
    let old = each r' k' m' (omega (arith, e)) in
    let kept : get_or (rows ++ vs ∷ []) i [] ≡ get_or rows i [] = agree_push rows vs (length rows) (omega arith) i below in
    let alike = row-agree sc (rows ++ vs ∷ []) rows r' k' (agree_push rows vs (row_index sc.steps r' k') (omega (arith, e))) in
    let here : get_or rows (row_index sc.steps r' k') [] ≡ get_or rows i [] = ap (λ (x : ℕ). get_or rows x []) e in
    alike ∙ old ∙ ap (λ (x : List ℤ). Ok x) (here ∙ sym kept) in
    let length_is = length_push rows vs in
    below_more P (length rows) earlier last (row_index sc.steps r' k') (omega (arith, length_is)) refl

-- The rows below a place, and the fault before it, if there is one.
abbrev pub GrownTo : Scenario → ℕ → List (List ℤ) → Option RefFault → Type 0
GrownTo sc n rows None = length rows ≡ n
GrownTo sc n rows (Some fault) = EndsAt sc rows fault

pub record Grown (sc : Scenario) (n : ℕ) : Type 0 where
  pub rows : List (List ℤ)
  pub fault : Option RefFault
  pub each : EachRow sc rows
  pub to : GrownTo sc n rows fault

grown_row : (sc : Scenario) (n : ℕ) → n < sc.runs * (sc.steps + 1) → (rows : List (List ℤ)) → EachRow sc rows → length rows ≡ n →
    (x : Result (List ℤ) RefFault) → row sc rows (run_at sc n) (step_at sc n) ≡ x → Grown sc (suc n)
grown_row sc n lt rows each at (Ok vs) now = record {
  rows = rows ++ vs ∷ [];
  fault = None;
  each = EachRow-push sc rows vs (run_at sc n) (step_at sc n) (moment_at sc n lt) (at ∙ sym (place_at sc n)) now each;
  to = length_push rows vs ∙ omega arith;
}
grown_row sc n lt rows each at (Err fault) now =
    let moment = row-moment sc rows (run_at sc n) (step_at sc n) fault now in
    let run = moment.0 in
    let step = moment.1 in
    let m : IsMoment sc fault.run fault.step = rw (run, step) (moment_at sc n lt) in
    let place_is : row_index sc.steps fault.run fault.step ≡ n = rw (run, step) (place_at sc n) in
    let faults : row sc rows fault.run fault.step ≡ Err fault =
    ap (λ (x : ℕ). row sc rows x fault.step) run ∙ ap (λ (x : ℕ). row sc rows (run_at sc n) x) step ∙ now in
    record { rows = rows; fault = Some fault; each = each; to = record { moment = m; behind = at ∙ sym place_is; faults = faults } }

grown_more : (sc : Scenario) (n : ℕ) → n < sc.runs * (sc.steps + 1) → (rows : List (List ℤ)) (fault : Option RefFault) → EachRow sc rows → GrownTo sc n rows fault → Grown sc (suc n)
grown_more sc n lt rows None each to = grown_row sc n lt rows each to (row sc rows (run_at sc n) (step_at sc n)) refl
grown_more sc n lt rows (Some fault) each to = record { rows = rows; fault = Some fault; each = each; to = to }

grown : (sc : Scenario) (n : ℕ) → n ≤ sc.runs * (sc.steps + 1) → Grown sc n
grown sc zero le = record { rows = []; fault = None; each = λ r k m lt. absurd (omega arith); to = refl }
grown sc (suc n) le =
    let before = grown sc n (omega arith) in
    grown_more sc n (omega arith) before.rows before.fault before.each before.to

grown_ends : (sc : Scenario) (rows : List (List ℤ)) (fault : Option RefFault) → GrownTo sc (sc.runs * (sc.steps + 1)) rows fault → Ends sc rows fault
grown_ends sc rows None h = h
grown_ends sc rows (Some fault) h = h

-- some rows, with a fault or none, are the reference
pub reference_exists : (sc : Scenario) → (rows : List (List ℤ)) × (fault : Option RefFault) × IsReference sc rows fault
reference_exists sc =
    let all = grown sc (sc.runs * (sc.steps + 1)) (omega arith) in
    (all.rows, all.fault, record { each = all.each; ends = grown_ends sc all.rows all.fault all.to })
