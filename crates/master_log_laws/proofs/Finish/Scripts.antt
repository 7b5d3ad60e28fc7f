-- Where the jobs of a run and of a step stand among those of a slave.
use Rattle.std.proofs.Common.{◌≡◌, ℕ, zero, suc, ◌+◌, ◌-◌, ◌*◌, ◌<◌, ◌≤◌, List, [], ◌∷◌, ◌++◌, length, refl, sym, ap, ◌∙◌, subst, arith, length-append}
use Rattle.std.specs.Prelude.{◌==◌, slice_index_or}
use Rattle.std.specs.List.{flat_map, range_with_len}
use Rattle.std.proofs.Math.Nat.{suc-mul, zero-mul}
use Rattle.std.proofs.lemmas.List.{append_assoc}
use Rattle.lockstep.specs.Lockstep.{row_index}
use Rattle.master_spec.specs.declared.setups.Script.{Script}
use Rattle.master_spec.specs.declared.tasks.Task.{Task}
use Rattle.master_spec.specs.declared.tasks.Task.TheVariants as tasks
use Rattle.master_spec.specs.Jobs.{Job, step_jobs, run_jobs, between_jobs, jobs_from, jobs}
use Rattle.master_log_laws.specs.Index.Dates.{bit}
use Rattle.master_log_laws.proofs.Finish.Codes.{task_code, count_code, count_append}

abbrev pub alone : Task → Job
alone task = record { task = task; list = [] }

-- the jobs of n steps of run r, from step a
abbrev pub some_steps : (steps r a n : ℕ) → List Job
some_steps steps r a n = flat_map (step_jobs steps r) (range_with_len a n)

pub steps_long : (steps r a n : ℕ) → length (some_steps steps r a n) ≡ n + n
steps_long steps r a zero = refl
steps_long steps r a (suc n) = let h = steps_long steps r (a + 1) n in omega (arith, h)

pub steps_one : (c : ℕ) → bit (7 == c) + bit (8 == c) ≡ 1 → (steps r a n : ℕ) → count_code c (some_steps steps r a n) ≡ n
steps_one c e steps r a zero = refl
steps_one c e steps r a (suc n) = let h = steps_one c e steps r (a + 1) n in omega (arith, h, e)

pub steps_none : (c : ℕ) → bit (7 == c) + bit (8 == c) ≡ 0 → (steps r a n : ℕ) → count_code c (some_steps steps r a n) ≡ 0
steps_none c e steps r a zero = refl
steps_none c e steps r a (suc n) = let h = steps_none c e steps r (a + 1) n in omega (arith, h, e)

-- one step among them
pub steps_split : (steps r a n m : ℕ) → some_steps steps r a (n + suc m) ≡ some_steps steps r a n ++ (alone (tasks.Step (a + n)) ∷ alone (tasks.Outputs (a + n) (row_index steps r (a + n))) ∷ some_steps steps r (a + n + 1) m)
steps_split steps r a zero m =
    let f : a ≡ a + 0 = omega arith in
    let e : 0 + suc m ≡ suc m = omega arith in
    ap (some_steps steps r a) e ∙ ap (λ (k : ℕ). alone (tasks.Step k) ∷ alone (tasks.Outputs k (row_index steps r k)) ∷ some_steps steps r (k + 1) m) f
steps_split steps r a (suc n) m =
    let e : suc n + suc m ≡ suc (n + suc m) = omega arith in
    let f : a + 1 + n ≡ a + suc n = omega arith in
    let h = steps_split steps r (a + 1) n m ∙ ap (λ (k : ℕ). some_steps steps r (a + 1) n ++ (alone (tasks.Step k) ∷ alone (tasks.Outputs k (row_index steps r k)) ∷ some_steps steps r (k + 1) m)) f in
    ap (some_steps steps r a) e ∙ ap (λ (z : List Job). alone (tasks.Step a) ∷ alone (tasks.Outputs a (row_index steps r a)) ∷ z) h

run_long : (steps r : ℕ) → length (run_jobs steps r) ≡ 6 + 2 * steps
run_long steps r =
    let fm = some_steps steps r 1 steps in
    let a = steps_long steps r 1 steps in
    let b = length-append fm (alone tasks.Stop ∷ []) in
    omega (arith, a, b)

run_count : (steps r : ℕ) → count_code 6 (run_jobs steps r) ≡ 1
run_count steps r =
    let fm = some_steps steps r 1 steps in
    let a = steps_none 6 refl steps r 1 steps in
    let b = count_append 6 fm (alone tasks.Stop ∷ []) in
    omega (arith, a, b)

-- what follows the stop of a run that is not the last
pub record Next (tail : List Job) : Type 0 where
  pub adjust : Job
  pub rest : List Job
  pub adjust_is : task_code adjust.task ≡ 0
  pub is : tail ≡ alone tasks.Reset ∷ adjust ∷ alone tasks.Prepare ∷ rest

pub record RunAt (steps : ℕ) (js : List Job) (r before first : ℕ) (More : Type 0) : Type 0 where
  pub pre : List Job
  pub tail : List Job
  pub is : js ≡ pre ++ (alone tasks.Run ∷ (some_steps steps r 1 steps ++ (alone tasks.Stop ∷ tail)))
  pub long : length pre ≡ first + before * (8 + 2 * steps)
  pub runs : count_code 6 pre ≡ before
  pub more : More → Next tail

starts : (steps : ℕ) (script : Script) (r m : ℕ) → (rest : List Job) × (jobs_from steps script r m ≡ alone tasks.Prepare ∷ rest)
starts steps script r zero = (_, refl)
starts steps script r (suc m) = (_, refl)

run_first : (steps r : ℕ) (tail : List Job) (More : Type 0) → (More → Next tail) → RunAt steps (run_jobs steps r ++ tail) r 0 4 More
run_first steps r tail More f =
    record {
      pre = alone tasks.Prepare ∷ alone tasks.Configure ∷ alone tasks.Initialize ∷ alone (tasks.FirstOutputs (row_index steps r 0)) ∷ [];
      tail = tail;
      is = ap (λ (z : List Job). alone tasks.Prepare ∷ alone tasks.Configure ∷ alone tasks.Initialize ∷ alone (tasks.FirstOutputs (row_index steps r 0)) ∷ alone tasks.Run ∷ z) (append_assoc (some_steps steps r 1 steps) (alone tasks.Stop ∷ []) tail);
      long = four;
      runs = refl;
      more = f;
    }
  where
    four : 4 ≡ 4 + 0 * (8 + 2 * steps)
    four = let z = zero-mul (8 + 2 * steps) in omega (arith, z)

run_from : (steps : ℕ) (script : Script) (s more d r : ℕ) → d ≤ more → r ≡ s + d → RunAt steps (jobs_from steps script s more) r d 4 (d < more)
run_from steps script s zero zero r h e =
    let z : s ≡ r = omega (arith, e) in
    let P : ℕ → Type 0 = λ n. RunAt steps (jobs_from steps script s 0) n 0 4 (0 < 0) in
    subst P z (run_first steps s (alone tasks.Deregister ∷ []) (0 < 0) (λ k. absurd (omega (arith, k))))
run_from steps script s (suc more) zero r h e =
    let z : s ≡ r = omega (arith, e) in
    let g = starts steps script (s + 1) more in
    let P : ℕ → Type 0 = λ n. RunAt steps (jobs_from steps script s (suc more)) n 0 4 (0 < suc more) in
    let adjust : Job = record { task = tasks.Adjust; list = slice_index_or script.adjusts (s - 1) [] } in
    subst P z (run_first steps s (between_jobs script s ++ jobs_from steps script (s + 1) more) (0 < suc more)
    (λ k. record { adjust = adjust; rest = g.0; adjust_is = refl; is = ap (λ (y : List Job). alone tasks.Reset ∷ adjust ∷ y) g.1 }))
run_from steps script s zero (suc d) r h e = absurd (omega (arith, h))
run_from steps script s (suc more) (suc d) r h e =
    let g = run_from steps script (s + 1) more d r (omega (arith, h)) (omega (arith, e)) in
    let run = run_jobs steps s in
    let between = between_jobs script s in
    let body = alone tasks.Run ∷ (some_steps steps r 1 steps ++ (alone tasks.Stop ∷ g.tail)) in
    let a = run_long steps s in
    let b = length-append run (between ++ g.pre) in
    let c = g.long in
    let w = suc-mul d (8 + 2 * steps) in
    let x = run_count steps s in
    let y = count_append 6 run (between ++ g.pre) in
    let z = g.runs in
    record {
      pre = run ++ (between ++ g.pre);
      tail = g.tail;
      is = ap (λ (z : List Job). run ++ (between ++ z)) g.is ∙ sym (append_assoc run (between ++ g.pre) body);
      long = omega (arith, a, b, c, w);
      runs = omega (arith, x, y, z);
      more = λ k. g.more (omega (arith, k));
    }

two_ahead : (a b : Job) (js ks : List Job) → js ≡ ks → a ∷ b ∷ js ≡ a ∷ b ∷ ks
two_ahead a b js ks e = ap (λ (z : List Job). a ∷ b ∷ z) e

-- run r of a slave
pub run_at : (steps runs : ℕ) (script : Script) (r : ℕ) → 1 ≤ r → r ≤ runs → RunAt steps (jobs steps runs script) r (r - 1) 6 (r < runs)
run_at steps runs script r a b =
    let g = run_from steps script 1 (runs - 1) (r - 1) r (omega (arith, a, b)) (omega (arith, a)) in
    let c = g.long in
    let d = g.runs in
    let register = alone (tasks.Register script.uuid) in
    let setup : Job = record { task = tasks.Setup; list = script.setup } in
    record {
      pre = register ∷ setup ∷ g.pre;
      tail = g.tail;
      is = two_ahead register setup (jobs_from steps script 1 (runs - 1)) (g.pre ++ (alone tasks.Run ∷ (some_steps steps r 1 steps ++ (alone tasks.Stop ∷ g.tail)))) g.is;
      long = omega (arith, c);
      runs = omega (arith, d);
      more = λ k. g.more (omega (arith, k, a));
    }
