-- Where all slaves show something, the reference has a row.
use Rattle.std.proofs.Common.{◌≡◌, ℕ, suc, ◌+◌, ◌-◌, ◌*◌, ◌/◌, ◌%◌, ◌<◌, ◌≤◌, Bool, true, false, if◌then◌else◌, ◌⊎◌, inl, inr, Option, Some, None, List, [], ◌∷◌, ◌++◌, length, refl, sym, ap, ◌∙◌, subst, arith, ℤ, Ok, Err, Result}
use Rattle.std.specs.Prelude.{slice_get}
use Rattle.std.proofs.lemmas.Bool.{cases_lt}
use Rattle.std.proofs.lemmas.Nat.{div-add-mod', mod_below, div-mul-add, mod-mul-add}
use Rattle.dcp_types.specs.declared.data_types.DataType.{DataType}
use Rattle.dcp_types.specs.declared.fault_codes.FaultCode.{FaultCode}
use Rattle.dcp_types.specs.declared.fault_codes.FaultCode.TheVariants.{OutOfRange}
use Rattle.fixed_models.specs.declared.kinds.Kind.{Kind}
use Rattle.fixed_models.specs.Steps.{and_then, outputs, all_fit, micro_steps, model_step}
use Rattle.slave_desc.specs.declared.descriptions.SlaveDesc.{SlaveDesc}
use Rattle.scenario.specs.declared.scenarios.Scenario.{Scenario}
use Rattle.lockstep.specs.declared.references.RefFault.{RefFault}
use Rattle.lockstep.specs.Lockstep.{row_index, shown, beside, row_from, row, IsMoment, Ends, IsReference}
use Rattle.lockstep.proofs.Existence.{within_all, same_moment}

-- each slave of the list shows something
abbrev pub AllShow : Scenario → List (List ℤ) → (r k s : ℕ) → List SlaveDesc → Type 0
AllShow sc rows r k s ds = (i : ℕ) (d : SlaveDesc) → slice_get ds i ≡ Some d → (vs : List ℤ) × (shown sc rows (s + i) d r k ≡ Ok vs)

pub all_show : (sc : Scenario) (rows : List (List ℤ)) (r k s : ℕ) (ds : List SlaveDesc) → AllShow sc rows r k s ds → (vs : List ℤ) × (row_from sc rows r k s ds ≡ Ok vs)
all_show sc rows r k s [] h = ([], refl)
all_show sc rows r k s (d ∷ ds) h =
    let z : s + 0 ≡ s = omega arith in
    let P : ℕ → Type 0 = λ j. (vs : List ℤ) × (shown sc rows j d r k ≡ Ok vs) in
    let here = subst P z (h 0 d refl) in
    let rest = all_show sc rows r k (s + 1) ds (λ i d' e. let n : s + suc i ≡ s + 1 + i = omega arith in let Q : ℕ → Type 0 = λ j. (vs : List ℤ) × (shown sc rows j d' r k ≡ Ok vs) in subst Q n (h (suc i) d' e)) in
    (here.0 ++ rest.0, ap (λ (x : Result (List ℤ) FaultCode). beside s r k x (row_from sc rows r k (s + 1) ds)) here.1 ∙ ap (λ (x : Result (List ℤ) RefFault). beside s r k (Ok here.0) x) rest.1)

no_fault : (vs : List ℤ) (f : RefFault) (x : Result (List ℤ) RefFault) → x ≡ Ok vs → x ≡ Err f → ⊥
no_fault vs f x e g = absurd cc

-- a row that all slaves show, and before which there are all rows, is there
pub row_exists : (sc : Scenario) (rows : List (List ℤ)) (fault : Option RefFault) → IsReference sc rows fault → (r k : ℕ) → IsMoment sc r k → row_index sc.steps r k ≤ length rows → (vs : List ℤ) → row sc rows r k ≡ Ok vs → row_index sc.steps r k < length rows
row_exists sc rows fault ref r k at le vs e = by (cases_lt (row_index sc.steps r k) (length rows))
  where
    ends : (fault : Option RefFault) → Ends sc rows fault → length rows ≡ row_index sc.steps r k → row_index sc.steps r k < length rows
    ends None h same = let lt = within_all sc r k at in absurd (omega (arith, h, same, lt))
    ends (Some f) h same =
        let m = same_moment sc r k f.run f.step at h.moment (sym same ∙ h.behind) in
        absurd (no_fault vs f (row sc rows r k) e (ap (λ j. row sc rows j k) m.0 ∙ ap (λ j. row sc rows f.run j) m.1 ∙ h.faults))

    by : (row_index sc.steps r k < length rows) ⊎ (length rows ≤ row_index sc.steps r k) → row_index sc.steps r k < length rows
    by (inl lt) = lt
    by (inr ge) = ends fault ref.ends (omega (arith, le, ge))

-- after a step all outputs lie in their types
fits_after : (b : Bool) (x y : List ℤ) → let t : Result (List ℤ) FaultCode = Ok x in let f : Result (List ℤ) FaultCode = Err OutOfRange in (if b then t else f) ≡ Ok y → (b ≡ true) × (x ≡ y)
fits_after true x y h = (refl, cc)
fits_after false x y h = absurd cc

step_fits_by : (kind : Kind) (ps : List ℤ) (types : List DataType) (y : List ℤ) (m : Result (List ℤ) FaultCode) → and_then m (λ x. (if all_fit types (outputs kind ps x) then Ok x else Err OutOfRange)) ≡ Ok y → all_fit types (outputs kind ps y) ≡ true
step_fits_by kind ps types y (Ok x) h = let f = fits_after (all_fit types (outputs kind ps x)) x y h in let P : List ℤ → Type 0 = λ z. all_fit types (outputs kind ps z) ≡ true in subst P f.1 f.0
step_fits_by kind ps types y (Err c) h = absurd cc

pub step_fits : (kind : Kind) (ps : List ℤ) (types : List DataType) (s us : List ℤ) (micro : ℕ) (y : List ℤ) → model_step kind ps types s us micro ≡ Ok y → all_fit types (outputs kind ps y) ≡ true
step_fits kind ps types s us micro y h = step_fits_by kind ps types y (micro_steps micro kind ps s us) h

-- a place as a run and a step
pub run_of_place : (steps a n p : ℕ) → p ≡ a * (steps + 1) + n → n ≤ steps → (p / (steps + 1) ≡ a) × (p % (steps + 1) ≡ n)
run_of_place steps a n p e le = (ap (λ k. k / (steps + 1)) e ∙ div-mul-add a (steps + 1) n (omega (arith, le)), ap (λ k. k % (steps + 1)) e ∙ mod-mul-add a (steps + 1) n (omega (arith, le)))

pub place_is : (steps p : ℕ) → row_index steps (p / (steps + 1) + 1) (p % (steps + 1)) ≡ p
place_is steps p = let w = div-add-mod' p (steps + 1) in let s : p / (steps + 1) + 1 - 1 ≡ p / (steps + 1) = omega arith in ap (λ a. a * (steps + 1) + p % (steps + 1)) s ∙ w

pub step_below : (steps p : ℕ) → p % (steps + 1) ≤ steps
step_below steps p = let m = mod_below p (steps + 1) (omega arith) in omega (arith, m)

-- the reference has no more rows than its runs have
pub at_most : (sc : Scenario) (rows : List (List ℤ)) (fault : Option RefFault) → Ends sc rows fault → length rows ≤ sc.runs * (sc.steps + 1)
at_most sc rows None h = omega (arith, h)
at_most sc rows (Some f) h = let lt = within_all sc f.run f.step h.moment in omega (arith, lt, h.behind)
