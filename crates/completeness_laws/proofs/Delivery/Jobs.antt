-- Which row and which step a job with outputs stands for, and in which phase.
use Rattle.std.proofs.Common.{◌≡◌, ℕ, zero, suc, ◌+◌, ◌-◌, ◌*◌, ◌≤◌, Bool, true, false, if◌then◌else◌, Some, None, List, [], ◌∷◌, ◌++◌, refl, sym, ap, ◌∙◌, subst, arith}
use Rattle.std.specs.Prelude.{◌==◌, slice_get, slice_index_or}
use Rattle.std.specs.List.{flat_map, range_with_len}
use Rattle.std.proofs.lemmas.Bool.{eqb-true}
use Rattle.std.proofs.lemmas.List.{append_assoc}
use Rattle.lockstep.specs.Lockstep.{row_index}
use Rattle.master_spec.specs.declared.tasks.Task.{Task}
use Rattle.master_spec.specs.declared.tasks.Task.TheVariants as tasks
use Rattle.master_spec.specs.declared.setups.Script.{Script}
use Rattle.master_spec.specs.Tasks.{task_row, task_step}
use Rattle.master_spec.specs.Jobs.{Job, step_jobs, run_jobs, between_jobs, jobs_from, jobs}
use Rattle.completeness_laws.specs.StepPhases.{outputs_phase}

clash : {A : Type 0} {x : A} → None ≡ Some x → ⊥
clash z = cc

same_some : {A : Type 0} {x y : A} → Some x ≡ Some y → x ≡ y
same_some z = cc

-- the job before which so many jobs stand
pub record IsOutputsJob (steps runs p : ℕ) (task : Task) (row : ℕ) : Type 0 where
  pub run : ℕ
  pub first : 1 ≤ run
  pub last : run ≤ runs
  pub step : task_step task ≤ steps
  pub row_is : row ≡ row_index steps run (task_step task)
  pub phase_is : p + 1 ≡ outputs_phase steps run (task_step task)

abbrev IsPlaced : (steps runs p : ℕ) → Job → Type 0
IsPlaced steps runs p job = (row : ℕ) → task_row job.task ≡ Some row → IsOutputsJob steps runs p job.task row

abbrev ArePlaced : (steps runs p : ℕ) → List Job → Type 0
ArePlaced steps runs p [] = Unit {0}
ArePlaced steps runs p (job ∷ js) = IsPlaced steps runs p job × ArePlaced steps runs (p + 1) js

get_placed : (steps runs n : ℕ) (js : List Job) (p : ℕ) (job : Job) → ArePlaced steps runs n js → slice_get js p ≡ Some job → IsPlaced steps runs (n + p) job
get_placed steps runs n [] p job a e = absurd cc
get_placed steps runs n (j ∷ js) zero job a e =
    let z : j ≡ job = cc in
    let y : n ≡ n + 0 = omega arith in
    let P : Job → Type 0 = λ x. IsPlaced steps runs n x in
    let Q : ℕ → Type 0 = λ i. IsPlaced steps runs i job in
    subst Q y (subst P z a.0)
get_placed steps runs n (j ∷ js) (suc p) job a e =
    let y : n + 1 + p ≡ n + suc p = omega arith in
    let Q : ℕ → Type 0 = λ i. IsPlaced steps runs i job in
    subst Q y (get_placed steps runs (n + 1) js p job a.1 e)

no_row : (steps runs n : ℕ) (job : Job) → task_row job.task ≡ None → IsPlaced steps runs n job
no_row steps runs n job e row h = absurd (clash (sym e ∙ h))

phase_later : (steps r a : ℕ) → 1 ≤ a → outputs_phase steps r a ≡ (r - 1) * (8 + 2 * steps) + (7 + 2 * a)
phase_later steps r a h = by (a == 0) refl
  where
    by : (b : Bool) → (a == 0) ≡ b → (r - 1) * (8 + 2 * steps) + (if b then 6 else 7 + 2 * a) ≡ (r - 1) * (8 + 2 * steps) + (7 + 2 * a)
    by true e = let z = eqb-true a 0 e in absurd (omega (arith, z, h))
    by false e = refl

module _ (steps runs q : ℕ) (few : q + 1 ≤ runs) where
  abbrev B : ℕ
  B = q * (8 + 2 * steps)

  -- so many steps from step b + 1, and what follows them
  steps_placed : (r : ℕ) → r ≡ q + 1 → (b more n : ℕ) → b + more ≡ steps → n ≡ B + 7 + 2 * b → (js : List Job) → ((i : ℕ) → i ≡ B + 7 + 2 * steps → ArePlaced steps runs i js)
      → (a : ℕ) → a ≡ b + 1 → ArePlaced steps runs n (flat_map (step_jobs steps r) (range_with_len a more) ++ js)
  steps_placed r f b zero n l e js k a g =
      let z : b ≡ steps = omega (arith, l) in
      k n (e ∙ ap (λ (i : ℕ). B + 7 + 2 * i) z)
  steps_placed r f b (suc more) n l e js k a g = (
    no_row steps runs n (record { task = tasks.Step a; list = [] }) refl,
    (placed, steps_placed r f a more (n + 1 + 1) (omega (arith, l, g)) (omega (arith, e, g)) js k (a + 1) refl),
  )
    where
      u : r - 1 ≡ q
      u = omega (arith, f)

      phase : n + 1 + 1 ≡ outputs_phase steps r a
      phase =
          let y : (r - 1) * (8 + 2 * steps) ≡ B = ap (λ (i : ℕ). i * (8 + 2 * steps)) u in
          let z = phase_later steps r a (omega (arith, g)) in
          let x : n + 1 + 1 ≡ B + (7 + 2 * a) = omega (arith, e, g) in
          x ∙ ap (λ (i : ℕ). i + (7 + 2 * a)) (sym y) ∙ sym z

      placed : IsPlaced steps runs (n + 1) (record { task = tasks.Outputs a (row_index steps r a); list = [] })
      placed row h = record { run = r; first = omega (arith, f); last = omega (arith, f, few); step = omega (arith, l, g); row_is = sym (same_some h); phase_is = phase }

  -- run q + 1, and what follows it
  run_placed : (r : ℕ) → r ≡ q + 1 → (n : ℕ) → n ≡ B + 2 → (js : List Job) → ((i : ℕ) → i ≡ B + 8 + 2 * steps → ArePlaced steps runs i js) → ArePlaced steps runs n (run_jobs steps r ++ js)
  run_placed r f n e js k = (
    no_row steps runs n (record { task = tasks.Prepare; list = [] }) refl,
    (
      no_row steps runs (n + 1) (record { task = tasks.Configure; list = [] }) refl,
      (
        no_row steps runs (n + 1 + 1) (record { task = tasks.Initialize; list = [] }) refl,
        (placed, (no_row steps runs (n + 1 + 1 + 1 + 1) (record { task = tasks.Run; list = [] }) refl, after)),
      ),
    ),
  )
    where
      stop : Job
      stop = record { task = tasks.Stop; list = [] }

      u : r - 1 ≡ q
      u = omega (arith, f)

      phase : n + 1 + 1 + 1 + 1 ≡ outputs_phase steps r 0
      phase =
          let y : (r - 1) * (8 + 2 * steps) ≡ B = ap (λ (i : ℕ). i * (8 + 2 * steps)) u in
          let x : n + 1 + 1 + 1 + 1 ≡ B + 6 = omega (arith, e) in
          x ∙ ap (λ (i : ℕ). i + 6) (sym y)

      placed : IsPlaced steps runs (n + 1 + 1 + 1) (record { task = tasks.FirstOutputs (row_index steps r 0); list = [] })
      placed row h = record { run = r; first = omega (arith, f); last = omega (arith, f, few); step = omega arith; row_is = sym (same_some h); phase_is = phase }

      after : ArePlaced steps runs (n + 1 + 1 + 1 + 1 + 1) ((flat_map (step_jobs steps r) (range_with_len 1 steps) ++ (stop ∷ [])) ++ js)
      after =
          let Q : List Job → Type 0 = λ xs. ArePlaced steps runs (n + 1 + 1 + 1 + 1 + 1) xs in
          subst Q (sym (append_assoc (flat_map (step_jobs steps r) (range_with_len 1 steps)) (stop ∷ []) js))
          (steps_placed r f 0 steps (n + 1 + 1 + 1 + 1 + 1) (omega arith) (omega (arith, e)) (stop ∷ js) (λ i h. (no_row steps runs i stop refl, k (i + 1) (omega (arith, h)))) 1 (omega arith))

from_placed : (steps runs : ℕ) (script : Script) (q more r n : ℕ) → q + 1 + more ≤ runs → r ≡ q + 1 → n ≡ q * (8 + 2 * steps) + 2 → ArePlaced steps runs n (jobs_from steps script r more)
from_placed steps runs script q zero r n l f e =
    run_placed steps runs q (omega (arith, l)) r f n e (record { task = tasks.Deregister; list = [] } ∷ []) (λ i h. (no_row steps runs i (record { task = tasks.Deregister; list = [] }) refl, tt))
from_placed steps runs script q (suc more) r n l f e =
    run_placed steps runs q (omega (arith, l)) r f n e (between_jobs script r ++ jobs_from steps script (r + 1) more)
    (λ i h. between i h (from_placed steps runs script (q + 1) more (r + 1) (i + 1 + 1) (omega (arith, l)) (omega (arith, f)) (next i h)))
  where
    next : (i : ℕ) → i ≡ q * (8 + 2 * steps) + 8 + 2 * steps → i + 1 + 1 ≡ (q + 1) * (8 + 2 * steps) + 2
    next i h = omega (arith, h)

    between : (i : ℕ) → i ≡ q * (8 + 2 * steps) + 8 + 2 * steps → ArePlaced steps runs (i + 1 + 1) (jobs_from steps script (r + 1) more) → ArePlaced steps runs i (between_jobs script r ++ jobs_from steps script (r + 1) more)
    between i h k =
        (no_row steps runs i (record { task = tasks.Reset; list = [] }) refl, (no_row steps runs (i + 1) (record { task = tasks.Adjust; list = slice_index_or script.adjusts (r - 1) [] }) refl, k))

-- each job with outputs of a script
pub outputs_job : (steps runs : ℕ) (script : Script) → 1 ≤ runs → (p : ℕ) (job : Job) → slice_get (jobs steps runs script) p ≡ Some job → (row : ℕ) → task_row job.task ≡ Some row → IsOutputsJob steps runs p job.task row
outputs_job steps runs script h p job e =
    let register : Job = record { task = tasks.Register script.uuid; list = [] } in
    let setup : Job = record { task = tasks.Setup; list = script.setup } in
    let first : 0 + 1 + 1 ≡ 0 * (8 + 2 * steps) + 2 = omega arith in
    let z : 0 + p ≡ p = omega arith in
    let Q : ℕ → Type 0 = λ i. IsPlaced steps runs i job in
    subst Q z (get_placed steps runs 0 (jobs steps runs script) p job
    (no_row steps runs 0 register refl, (no_row steps runs (0 + 1) setup refl, from_placed steps runs script 0 (runs - 1) 1 (0 + 1 + 1) (omega (arith, h)) refl first)) e)
