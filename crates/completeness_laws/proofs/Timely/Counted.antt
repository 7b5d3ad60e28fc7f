-- The rows before a fault of the reference.
use Rattle.std.proofs.Common.{◌≡◌, ℕ, zero, suc, ◌+◌, ◌-◌, ◌*◌, ◌<◌, ◌≤◌, inl, inr, Bool, true, false, if◌then◌else◌, Option, Some, None, List, [], ◌∷◌, ◌++◌, map, length, drop, refl, sym, ap, ◌∙◌, subst, arith, length-append}
use Rattle.std.specs.Prelude.{◌==◌, slice_get}
use Rattle.std.proofs.Math.Nat.{suc-mul, zero-mul}
use Rattle.std.proofs.lemmas.List.{append_assoc, length-map}
use Rattle.std.proofs.lemmas.Bool.{eqb-true}
use Rattle.lockstep.specs.Lockstep.{row_index}
use Rattle.master_spec.specs.declared.setups.Script.{Script}
use Rattle.master_spec.specs.declared.tasks.Task.TheVariants as tasks
use Rattle.master_spec.specs.Tasks.{task_row}
use Rattle.master_spec.specs.Course.{row_in_job}
use Rattle.master_spec.specs.Jobs.{Job, run_jobs, between_jobs, jobs_from, jobs}
use Rattle.master_spec.specs.Setup.{jobs_of}
use Rattle.master_log_laws.specs.Index.Runs.{course_at, events_of_master}
use Rattle.master_log_laws.proofs.Finish.Scripts.{alone, some_steps, steps_long, steps_split}
use Rattle.master_laws.proofs.RowCounts.Places.{row_here, places, job_places, joined, due_at, job_due, onward, AreCounted}
use Rattle.master_laws.proofs.RowCounts.All.{Stands, fit}
use Rattle.completeness_laws.specs.StepPhases.{phase_of_step}
use Rattle.completeness_laws.specs.Completes.{RowsBeforeFault}

-- ---- the jobs of a run among all jobs
record RunHere (steps r d : ℕ) (js : List Job) : Type 0 where
  pub pre : List Job
  pub tail : List Job
  pub is : js ≡ pre ++ (run_jobs steps r ++ tail)
  pub long : length pre ≡ d * (8 + 2 * steps)

run_long : (steps r : ℕ) → length (run_jobs steps r) ≡ 6 + 2 * steps
run_long steps r =
    let fm = some_steps steps r 1 steps in
    let a = steps_long steps r 1 steps in
    let b = length-append fm (alone tasks.Stop ∷ []) in
    omega (arith, a, b)

run_here : (steps : ℕ) (script : Script) (s more d r : ℕ) → d ≤ more → r ≡ s + d → RunHere steps r d (jobs_from steps script s more)
run_here steps script s zero zero r h e =
    let z : s ≡ r = omega (arith, e) in
    let w = zero-mul (8 + 2 * steps) in
    record { pre = []; tail = alone tasks.Deregister ∷ []; is = ap (λ (n : ℕ). run_jobs steps n ++ alone tasks.Deregister ∷ []) z; long = omega (arith, w) }
run_here steps script s (suc more) zero r h e =
    let z : s ≡ r = omega (arith, e) in
    let w = zero-mul (8 + 2 * steps) in
    let tail : List Job = between_jobs script s ++ jobs_from steps script (s + 1) more in
    record { pre = []; tail = tail; is = ap (λ (n : ℕ). run_jobs steps n ++ tail) z; long = omega (arith, w) }
run_here steps script s zero (suc d) r h e = absurd (omega (arith, h))
run_here steps script s (suc more) (suc d) r h e =
    let g = run_here steps script (s + 1) more d r (omega (arith, h)) (omega (arith, e)) in
    let run = run_jobs steps s in
    let between = between_jobs script s in
    let body = run_jobs steps r ++ g.tail in
    let a = run_long steps s in
    let b = length-append run (between ++ g.pre) in
    let c = g.long in
    let w = suc-mul d (8 + 2 * steps) in
    record {
      pre = run ++ (between ++ g.pre);
      tail = g.tail;
      is = ap (λ (z : List Job). run ++ (between ++ z)) g.is ∙ sym (append_assoc run (between ++ g.pre) body);
      long = omega (arith, a, b, c, w);
    }

-- ---- the job of a fault's phase, in which no outputs are shown, and the next one, in which they are
record Around (js : List Job) (p row : ℕ) : Type 0 where
  pub front : List Job
  pub here : Job
  pub next : Job
  pub back : List Job
  pub is : js ≡ front ++ (here ∷ next ∷ back)
  pub long : p ≡ suc (length front)
  pub none : task_row here.task ≡ None
  pub row_is : task_row next.task ≡ Some row

-- the front of a run up to one of its steps
step_split : (steps r k : ℕ) (tail : List Job) → 1 ≤ k → k ≤ steps
    → some_steps steps r 1 steps ++ (alone tasks.Stop ∷ tail) ≡ some_steps steps r 1 (k - 1) ++ (alone (tasks.Step k) ∷ alone (tasks.Outputs k (row_index steps r k)) ∷ (some_steps steps r (k + 1) (steps - k) ++ (alone tasks.Stop ∷ tail)))
step_split steps r k tail c d =
    let X : List Job = alone tasks.Stop ∷ tail in
    let front : List Job = some_steps steps r 1 (k - 1) in
    let e : steps ≡ (k - 1) + suc (steps - k) = omega (arith, c, d) in
    let f : 1 + (k - 1) ≡ k = omega (arith, c) in
    ap (λ (n : ℕ). some_steps steps r 1 n ++ X) e ∙ ap (λ (z : List Job). z ++ X) (steps_split steps r 1 (k - 1) (steps - k))
    ∙ ap (λ (n : ℕ). (front ++ (alone (tasks.Step n) ∷ alone (tasks.Outputs n (row_index steps r n)) ∷ some_steps steps r (n + 1) (steps - k))) ++ X) f
    ∙ append_assoc front (alone (tasks.Step k) ∷ alone (tasks.Outputs k (row_index steps r k)) ∷ some_steps steps r (k + 1) (steps - k)) X

not_first : (i : ℕ) → (suc i == 0) ≡ false
not_first i = by (suc i == 0) refl
  where
    by : (b : Bool) → (suc i == 0) ≡ b → b ≡ false
    by true e = let z = eqb-true (suc i) 0 e in absurd (omega (arith, z))
    by false e = refl

around : (steps runs : ℕ) (script : Script) (r k : ℕ) → 1 ≤ r → r ≤ runs → k ≤ steps → Around (jobs steps runs script) (phase_of_step steps r k) (row_index steps r k)
around steps runs script r zero a b c =
    let g = run_here steps script 1 (runs - 1) (r - 1) r (omega (arith, a, b)) (omega (arith, a)) in
    let register = alone (tasks.Register script.uuid) in
    let setup : Job = record { task = tasks.Setup; list = script.setup } in
    let begun : List Job = alone tasks.Prepare ∷ alone tasks.Configure ∷ [] in
    let back : List Job = alone tasks.Run ∷ (some_steps steps r 1 steps ++ (alone tasks.Stop ∷ g.tail)) in
    let x = length-append g.pre begun in
    let y = g.long in
    let run : run_jobs steps r ++ g.tail ≡ begun ++ (alone tasks.Initialize ∷ alone (tasks.FirstOutputs (row_index steps r 0)) ∷ back) =
    ap (λ (z : List Job). begun ++ (alone tasks.Initialize ∷ alone (tasks.FirstOutputs (row_index steps r 0)) ∷ alone tasks.Run ∷ z)) (append_assoc (some_steps steps r 1 steps) (alone tasks.Stop ∷ []) g.tail) in
    record {
      front = register ∷ setup ∷ (g.pre ++ begun);
      here = alone tasks.Initialize;
      next = alone (tasks.FirstOutputs (row_index steps r 0));
      back = back;
      is = ap (λ (z : List Job). register ∷ setup ∷ z) (g.is ∙ ap (λ (z : List Job). g.pre ++ z) run ∙ sym (append_assoc g.pre begun (alone tasks.Initialize ∷ alone (tasks.FirstOutputs (row_index steps r 0)) ∷ back)));
      long = omega (arith, x, y);
      none = refl;
      row_is = refl;
    }
around steps runs script r (suc i) a b c =
    let k = suc i in
    let g = run_here steps script 1 (runs - 1) (r - 1) r (omega (arith, a, b)) (omega (arith, a)) in
    let register = alone (tasks.Register script.uuid) in
    let setup : Job = record { task = tasks.Setup; list = script.setup } in
    let steps_front = some_steps steps r 1 (k - 1) in
    let begun : List Job = alone tasks.Prepare ∷ alone tasks.Configure ∷ alone tasks.Initialize ∷ alone (tasks.FirstOutputs (row_index steps r 0)) ∷ alone tasks.Run ∷ steps_front in
    let back : List Job = some_steps steps r (k + 1) (steps - k) ++ (alone tasks.Stop ∷ g.tail) in
    let x = length-append g.pre begun in
    let y = g.long in
    let m = steps_long steps r 1 (k - 1) in
    let phase : phase_of_step steps r k ≡ (r - 1) * (8 + 2 * steps) + (6 + 2 * k) = ap (λ (t : Bool). (r - 1) * (8 + 2 * steps) + (if t then 5 else 6 + 2 * k)) (not_first i) in
    let run : run_jobs steps r ++ g.tail ≡ begun ++ (alone (tasks.Step k) ∷ alone (tasks.Outputs k (row_index steps r k)) ∷ back) =
    ap (λ (z : List Job). alone tasks.Prepare ∷ alone tasks.Configure ∷ alone tasks.Initialize ∷ alone (tasks.FirstOutputs (row_index steps r 0)) ∷ alone tasks.Run ∷ z)
    (append_assoc (some_steps steps r 1 steps) (alone tasks.Stop ∷ []) g.tail ∙ step_split steps r k g.tail (omega arith) c) in
    record {
      front = register ∷ setup ∷ (g.pre ++ begun);
      here = alone (tasks.Step k);
      next = alone (tasks.Outputs k (row_index steps r k));
      back = back;
      is = ap (λ (z : List Job). register ∷ setup ∷ z) (g.is ∙ ap (λ (z : List Job). g.pre ++ z) run ∙ sym (append_assoc g.pre begun (alone (tasks.Step k) ∷ alone (tasks.Outputs k (row_index steps r k)) ∷ back)));
      long = phase ∙ omega (arith, x, y, m);
      none = refl;
      row_is = refl;
    }

get_first : (xs : List Job) (y : Job) (ys : List Job) → slice_get (xs ++ (y ∷ ys)) (length xs) ≡ Some y
get_first [] y ys = refl
get_first (x ∷ xs) y ys = get_first xs y ys

get_second : (xs : List Job) (y z : Job) (zs : List Job) → slice_get (xs ++ (y ∷ z ∷ zs)) (suc (length xs)) ≡ Some z
get_second [] y z zs = refl
get_second (x ∷ xs) y z zs = get_second xs y z zs

pub rows_before : RowsBeforeFault
rows_before setup runs slave first r k a b c log e = by (fit setup runs slave first (events_of_master setup log)).stands
  where
    js : List Job
    js = jobs_of setup slave

    os : List (Option ℕ)
    os = places setup.steps setup.runs

    p : ℕ
    p = (course_at setup log).phase

    n : ℕ
    n = length (course_at setup log).rows

    row : ℕ
    row = row_index setup.steps r k

    g : Around js (phase_of_step setup.steps r k) row
    g = around setup.steps setup.runs slave.script r k a b c

    long : p ≡ suc (length g.front)
    long = e ∙ g.long

    due : (q : ℕ) → joined (slice_get os q) ≡ row_in_job (slice_get js q)
    due q = ap (λ (z : List (Option ℕ)). joined (slice_get z q)) (sym (job_places setup.steps setup.runs slave.script)) ∙ sym (job_due js q)

    none_here : due_at os p ≡ None
    none_here = ap (due_at os) long ∙ due (length g.front) ∙ ap (λ (z : List Job). row_in_job (slice_get z (length g.front))) g.is ∙ ap row_in_job (get_first g.front g.here (g.next ∷ g.back)) ∙ g.none

    row_next : due_at os (suc p) ≡ Some row
    row_next = ap (λ (i : ℕ). due_at os (suc i)) long ∙ due (suc (length g.front)) ∙ ap (λ (z : List Job). row_in_job (slice_get z (suc (length g.front)))) g.is ∙ ap row_in_job (get_second g.front g.here g.next g.back) ∙ g.row_is

    within : p < length os
    within =
        let x : length os ≡ length (map row_here js) = ap length (sym (job_places setup.steps setup.runs slave.script)) in
        let y = length-map js row_here in
        let z = ap length g.is in
        let w = length-append g.front (g.here ∷ g.next ∷ g.back) in
        let v = long in
        omega (arith, x, y, z, w, v)

    by : Stands setup runs slave first p n → n ≡ row
    by (inl d) =
        let total = setup.runs * (setup.steps + 1) in
        let o = onward os p within in
        let is : o.place ≡ Some row = sym o.is ∙ row_next in
        let P : List (Option ℕ) → Type 0 = λ z. AreCounted n z total in
        let Q : Option ℕ → Type 0 = λ z. AreCounted n (z ∷ drop (suc p) os) total in
        let counted : Q (Some row) = subst Q is (subst P o.more d.rest) in
        sym counted.0
    by (inr w) = let z : None ≡ Some n = sym none_here ∙ w.here in absurd cc
