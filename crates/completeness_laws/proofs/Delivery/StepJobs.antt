-- In which phase a step of a run is done, and after how many row events.
use Rattle.std.proofs.Common.{◌≡◌, ℕ, zero, suc, ◌+◌, ◌-◌, ◌*◌, ◌≤◌, Bool, true, false, if◌then◌else◌, Option, Some, None, List, [], ◌∷◌, ◌++◌, refl, sym, ap, ◌∙◌, subst, arith}
use Rattle.std.specs.Prelude.{◌==◌, slice_get, slice_index_or}
use Rattle.std.specs.List.{flat_map, range_with_len}
use Rattle.std.proofs.lemmas.Bool.{eqb-true}
use Rattle.std.proofs.lemmas.List.{append_assoc}
use Rattle.lockstep.specs.Lockstep.{row_index}
use Rattle.master_spec.specs.declared.tasks.Task.{Task}
use Rattle.master_spec.specs.declared.tasks.Task.TheVariants as tasks
use Rattle.master_spec.specs.declared.setups.Script.{Script}
use Rattle.master_spec.specs.Jobs.{Job, step_jobs, run_jobs, between_jobs, jobs_from, jobs}
use Rattle.master_laws.specs.Barrier.Laws.{events_before}
use Rattle.master_laws.proofs.Barrier.Scripts.{events_of, none_before, before_cons}
use Rattle.completeness_laws.specs.StepPhases.{phase_of_step}

-- the step that a task asks for
abbrev step_in : Task → Option ℕ
step_in (tasks.Step k) = Some k
step_in (tasks.Register uuid) = None
step_in tasks.Setup = None
step_in tasks.Prepare = None
step_in tasks.Configure = None
step_in tasks.Initialize = None
step_in (tasks.FirstOutputs row) = None
step_in tasks.Run = None
step_in (tasks.Outputs k row) = None
step_in tasks.Stop = None
step_in tasks.Reset = None
step_in tasks.Adjust = None
step_in tasks.Deregister = None

clash : {A : Type 0} {x : A} → None ≡ Some x → ⊥
clash z = cc

same_some : {A : Type 0} {x y : A} → Some x ≡ Some y → x ≡ y
same_some z = cc

-- the job for step k, before which so many jobs stand, that ask for so many row events
pub record IsStepJob (steps runs p n k : ℕ) : Type 0 where
  pub run : ℕ
  pub first : 1 ≤ run
  pub last : run ≤ runs
  pub some : 1 ≤ k
  pub step : k ≤ steps
  pub phase_is : p + 1 ≡ phase_of_step steps run k
  pub events : n ≡ 2 * row_index steps run (k - 1) + 1

-- where the job is for a step, it stands where that does
abbrev IsPlaced : (steps runs p n : ℕ) → Job → Type 0
IsPlaced steps runs p n job = (k : ℕ) → step_in job.task ≡ Some k → IsStepJob steps runs p n k

abbrev ArePlaced : (steps runs p n : ℕ) → List Job → Type 0
ArePlaced steps runs p n [] = Unit {0}
ArePlaced steps runs p n (job ∷ js) = IsPlaced steps runs p n job × ArePlaced steps runs (p + 1) (n + events_of job) js

-- what holds of each job in a list holds of one at a place
get_placed : (steps runs p n : ℕ) (js : List Job) (i : ℕ) (job : Job) → ArePlaced steps runs p n js → slice_get js i ≡ Some job → IsPlaced steps runs (p + i) (n + events_before js i) job
get_placed steps runs p n [] i job a e = absurd cc
get_placed steps runs p n (j ∷ js) zero job a e =
    let z : j ≡ job = cc in
    let b = none_before (j ∷ js) in
    let x : p ≡ p + 0 = omega arith in
    let y : n ≡ n + events_before (j ∷ js) 0 = omega (arith, b) in
    let P : Job → Type 0 = λ v. IsPlaced steps runs p n v in
    let Q : ℕ → Type 0 = λ v. IsPlaced steps runs v n job in
    let R : ℕ → Type 0 = λ v. IsPlaced steps runs (p + 0) v job in
    subst R y (subst Q x (subst P z a.0))
get_placed steps runs p n (j ∷ js) (suc i) job a e =
    let b = before_cons j js i in
    let x : p + 1 + i ≡ p + suc i = omega arith in
    let y : n + events_of j + events_before js i ≡ n + events_before (j ∷ js) (suc i) = omega (arith, b) in
    let Q : ℕ → Type 0 = λ v. IsPlaced steps runs v (n + events_of j + events_before js i) job in
    let R : ℕ → Type 0 = λ v. IsPlaced steps runs (p + suc i) v job in
    subst R y (subst Q x (get_placed steps runs (p + 1) (n + events_of j) js i job a.1 e))

-- a job that asks for no step
no_step : (steps runs p n : ℕ) (job : Job) → step_in job.task ≡ None → IsPlaced steps runs p n job
no_step steps runs p n job e k h = absurd (clash (sym e ∙ h))

-- the phase of a step that is not the start of a run
phase_later : (steps r a : ℕ) → 1 ≤ a → phase_of_step steps r a ≡ (r - 1) * (8 + 2 * steps) + (6 + 2 * a)
phase_later steps r a h = by (a == 0) refl
  where
    by : (b : Bool) → (a == 0) ≡ b → (r - 1) * (8 + 2 * steps) + (if b then 5 else 6 + 2 * a) ≡ (r - 1) * (8 + 2 * steps) + (6 + 2 * a)
    by true e = let z = eqb-true a 0 e in absurd (omega (arith, z, h))
    by false e = refl

module _ (steps runs q : ℕ) (few : q + 1 ≤ runs) where
  abbrev B : ℕ
  B = q * (8 + 2 * steps)

  abbrev row : ℕ → ℕ
  row k = q * (steps + 1) + k

  -- so many steps from step b + 1, and what follows them
  steps_placed : (r : ℕ) → r ≡ q + 1 → (b more p n : ℕ) → b + more ≡ steps → p ≡ B + 7 + 2 * b → n ≡ 2 * row b + 1 → (js : List Job) → ((i m : ℕ) → i ≡ B + 7 + 2 * steps → m ≡ 2 * row steps + 1 → ArePlaced steps runs i m js)
      → (a : ℕ) → a ≡ b + 1 → ArePlaced steps runs p n (flat_map (step_jobs steps r) (range_with_len a more) ++ js)
  steps_placed r f b zero p n l e h js k a g =
      let z : b ≡ steps = omega (arith, l) in
      k p n (e ∙ ap (λ (i : ℕ). B + 7 + 2 * i) z) (h ∙ ap (λ (i : ℕ). 2 * row i + 1) z)
  steps_placed r f b (suc more) p n l e h js k a g = (
    placed,
    (
      no_step steps runs (p + 1) (n + 1) (record { task = tasks.Outputs a (row_index steps r a); list = [] }) refl,
      steps_placed r f a more (p + 1 + 1) (n + 1 + 1) (omega (arith, l, g)) (omega (arith, e, g)) (omega (arith, h, g)) js k (a + 1) refl,
    ),
  )
    where
      u : r - 1 ≡ q
      u = omega (arith, f)

      phase : p + 1 ≡ phase_of_step steps r a
      phase =
          let y : (r - 1) * (8 + 2 * steps) ≡ B = ap (λ (i : ℕ). i * (8 + 2 * steps)) u in
          let z = phase_later steps r a (omega (arith, g)) in
          let x : p + 1 ≡ B + (6 + 2 * a) = omega (arith, e, g) in
          x ∙ ap (λ (i : ℕ). i + (6 + 2 * a)) (sym y) ∙ sym z

      row_is : row_index steps r (a - 1) ≡ row b
      row_is =
          let x : a - 1 ≡ b = omega (arith, g) in
          ap (λ (i : ℕ). i * (steps + 1) + (a - 1)) u ∙ ap row x

      of : IsStepJob steps runs p n a
      of = record { run = r; first = omega (arith, f); last = omega (arith, f, few); some = omega (arith, g); step = omega (arith, l, g); phase_is = phase; events = h ∙ ap (λ (i : ℕ). 2 * i + 1) (sym row_is) }

      placed : IsPlaced steps runs p n (record { task = tasks.Step a; list = [] })
      placed c z = let P : ℕ → Type 0 = λ v. IsStepJob steps runs p n v in subst P (same_some z) of

  -- run q + 1, and what follows it
  run_placed : (r : ℕ) → r ≡ q + 1 → (p n : ℕ) → p ≡ B + 2 → n ≡ 2 * row 0 → (js : List Job) → ((i m : ℕ) → i ≡ B + 8 + 2 * steps → m ≡ 2 * row steps + 1 → ArePlaced steps runs i m js) → ArePlaced steps runs p n (run_jobs steps r ++ js)
  run_placed r f p n e h js k = (
    no_step steps runs p n (record { task = tasks.Prepare; list = [] }) refl,
    (
      no_step steps runs (p + 1) (n + 0) (record { task = tasks.Configure; list = [] }) refl,
      (
        no_step steps runs (p + 1 + 1) (n + 0 + 0) (record { task = tasks.Initialize; list = [] }) refl,
        (
          no_step steps runs (p + 1 + 1 + 1) (n + 0 + 0 + 0) (record { task = tasks.FirstOutputs (row_index steps r 0); list = [] }) refl,
          (no_step steps runs (p + 1 + 1 + 1 + 1) (n + 0 + 0 + 0 + 1) (record { task = tasks.Run; list = [] }) refl, after),
        ),
      ),
    ),
  )
    where
      stop : Job
      stop = record { task = tasks.Stop; list = [] }

      after : ArePlaced steps runs (p + 1 + 1 + 1 + 1 + 1) (n + 0 + 0 + 0 + 1 + 0) ((flat_map (step_jobs steps r) (range_with_len 1 steps) ++ (stop ∷ [])) ++ js)
      after =
          let Q : List Job → Type 0 = λ xs. ArePlaced steps runs (p + 1 + 1 + 1 + 1 + 1) (n + 0 + 0 + 0 + 1 + 0) xs in
          subst Q (sym (append_assoc (flat_map (step_jobs steps r) (range_with_len 1 steps)) (stop ∷ []) js))
          (steps_placed r f 0 steps (p + 1 + 1 + 1 + 1 + 1) (n + 0 + 0 + 0 + 1 + 0) (omega arith) (omega (arith, e)) (omega (arith, h)) (stop ∷ js)
          (λ i m x y. (no_step steps runs i m stop refl, k (i + 1) (m + 0) (omega (arith, x)) (omega (arith, y)))) 1 (omega arith))

-- a run, so many more after it, and the end
from_placed : (steps runs : ℕ) (script : Script) (q more r p n : ℕ) → q + 1 + more ≤ runs → r ≡ q + 1 → p ≡ q * (8 + 2 * steps) + 2 → n ≡ 2 * (q * (steps + 1) + 0) → ArePlaced steps runs p n (jobs_from steps script r more)
from_placed steps runs script q zero r p n l f e h =
    run_placed steps runs q (omega (arith, l)) r f p n e h (record { task = tasks.Deregister; list = [] } ∷ []) (λ i m x y. (no_step steps runs i m (record { task = tasks.Deregister; list = [] }) refl, tt))
from_placed steps runs script q (suc more) r p n l f e h =
    run_placed steps runs q (omega (arith, l)) r f p n e h (between_jobs script r ++ jobs_from steps script (r + 1) more)
    (λ i m x y. between i m (from_placed steps runs script (q + 1) more (r + 1) (i + 1 + 1) (m + 1 + 0) (omega (arith, l)) (omega (arith, f)) (next i x) (restarted m y)))
  where
    next : (i : ℕ) → i ≡ q * (8 + 2 * steps) + 8 + 2 * steps → i + 1 + 1 ≡ (q + 1) * (8 + 2 * steps) + 2
    next i x = omega (arith, x)

    restarted : (m : ℕ) → m ≡ 2 * (q * (steps + 1) + steps) + 1 → m + 1 + 0 ≡ 2 * ((q + 1) * (steps + 1) + 0)
    restarted m y = omega (arith, y)

    between : (i m : ℕ) → ArePlaced steps runs (i + 1 + 1) (m + 1 + 0) (jobs_from steps script (r + 1) more) → ArePlaced steps runs i m (between_jobs script r ++ jobs_from steps script (r + 1) more)
    between i m k =
        (no_step steps runs i m (record { task = tasks.Reset; list = [] }) refl, (no_step steps runs (i + 1) (m + 1) (record { task = tasks.Adjust; list = slice_index_or script.adjusts (r - 1) [] }) refl, k))

-- each job for a step of a script
pub step_job : (steps runs : ℕ) (script : Script) → 1 ≤ runs → (p : ℕ) (job : Job) → slice_get (jobs steps runs script) p ≡ Some job → (k : ℕ) → job.task ≡ tasks.Step k → IsStepJob steps runs p (events_before (jobs steps runs script) p) k
step_job steps runs script h p job e k t =
    let register : Job = record { task = tasks.Register script.uuid; list = [] } in
    let setup : Job = record { task = tasks.Setup; list = script.setup } in
    let x : 0 + p ≡ p = omega arith in
    let y : 0 + events_before (jobs steps runs script) p ≡ events_before (jobs steps runs script) p = omega arith in
    let first : 0 + 1 + 1 ≡ 0 * (8 + 2 * steps) + 2 = omega arith in
    let none : 0 + 0 + 0 ≡ 2 * (0 * (steps + 1) + 0) = omega arith in
    let Q : ℕ → Type 0 = λ i. IsPlaced steps runs i (0 + events_before (jobs steps runs script) p) job in
    let R : ℕ → Type 0 = λ i. IsPlaced steps runs p i job in
    let all : ArePlaced steps runs 0 0 (jobs steps runs script) =
    (no_step steps runs 0 0 register refl, (no_step steps runs (0 + 1) (0 + 0) setup refl, from_placed steps runs script 0 (runs - 1) 1 (0 + 1 + 1) (0 + 0 + 0) (omega (arith, h)) refl first none)) in
    subst R y (subst Q x (get_placed steps runs 0 0 (jobs steps runs script) p job all e)) k (ap step_in t)
