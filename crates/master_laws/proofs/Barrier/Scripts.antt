-- Which row event each job asks for, by how many the jobs before it ask for.
use Rattle.std.proofs.Common.{◌≡◌, ℕ, zero, suc, ◌+◌, ◌-◌, ◌*◌, ◌/◌, ◌%◌, ◌<◌, ◌≤◌, Bool, true, false, if◌then◌else◌, Some, None, List, [], ◌∷◌, ◌++◌, refl, sym, ap, ◌∙◌, subst, arith}
use Rattle.std.specs.Prelude.{◌==◌, is_some, take, slice_get, slice_index_or}
use Rattle.std.specs.List.{flat_map, range_with_len}
use Rattle.std.proofs.lemmas.Bool.{eq-eqb, eqb-true}
use Rattle.std.proofs.lemmas.List.{append_assoc}
use Rattle.std.proofs.lemmas.List.Sums.{sum_by-cons}
use Rattle.std.proofs.lemmas.Nat.{div-mul-add, mod-mul-add}
use Rattle.lockstep.specs.Lockstep.{row_index}
use Rattle.lockstep_laws.specs.Steps.{RowEvent, Show, Step, Restart, row_event_at, run_after}
use Rattle.master_spec.specs.declared.setups.Script.{Script}
use Rattle.master_spec.specs.declared.tasks.Task.TheVariants as tasks
use Rattle.master_spec.specs.Tasks.{task_row}
use Rattle.master_spec.specs.Jobs.{Job, step_jobs, run_jobs, between_jobs, jobs_from, jobs}
use Rattle.master_laws.specs.Barrier.Laws.{row_event_in, events_before}

-- ---- counting jobs
abbrev pub events_of : Job → ℕ
events_of job = if is_some (row_event_in job.task) then 1 else 0

pub none_before : (js : List Job) → events_before js 0 ≡ 0
none_before [] = refl
none_before (job ∷ js) = refl

pub before_cons : (job : Job) (js : List Job) (p : ℕ) → events_before (job ∷ js) (suc p) ≡ events_of job + events_before js p
before_cons job js p = sum_by-cons (λ (j : Job). if is_some (row_event_in j.task) then 1 else 0) job (take p js)

pub before_next : (js : List Job) (p : ℕ) (job : Job) → slice_get js p ≡ Some job → events_before js (p + 1) ≡ events_before js p + events_of job
before_next [] p job e = absurd cc
before_next (j ∷ js) zero job e =
    let z : j ≡ job = cc in
    let k : 0 + 1 ≡ suc 0 = omega arith in
    let a = before_cons j js 0 in
    let b = none_before js in
    let c = none_before (j ∷ js) in
    ap (events_before (j ∷ js)) k ∙ a ∙ ap (λ (x : Job). events_of x + events_before js 0) z ∙ omega (arith, b, c)
before_next (j ∷ js) (suc p) job e =
    let h = before_next js p job e in
    let k : suc p + 1 ≡ suc (p + 1) = omega arith in
    let a = before_cons j js (p + 1) in
    let b = before_cons j js p in
    ap (events_before (j ∷ js)) k ∙ omega (arith, a, b, h)

-- ---- slaves are asked for the same row events
abbrev Alike : List Job → List Job → Type 0
Alike [] [] = Unit {0}
Alike [] (b ∷ bs) = ⊥
Alike (a ∷ az) [] = ⊥
Alike (a ∷ az) (b ∷ bs) = (events_of a ≡ events_of b) × Alike az bs

alike_self : (js : List Job) → Alike js js
alike_self [] = tt
alike_self (job ∷ js) = (refl, alike_self js)

alike_append : (js az bs : List Job) → Alike az bs → Alike (js ++ az) (js ++ bs)
alike_append [] az bs k = k
alike_append (job ∷ js) az bs k = (refl, alike_append js az bs k)

alike_from : (steps : ℕ) (a b : Script) (r more : ℕ) → Alike (jobs_from steps a r more) (jobs_from steps b r more)
alike_from steps a b r zero = alike_self (jobs_from steps a r zero)
alike_from steps a b r (suc more) = alike_append (run_jobs steps r) (between_jobs a r ++ jobs_from steps a (r + 1) more) (between_jobs b r ++ jobs_from steps b (r + 1) more) (refl, (refl, alike_from steps a b (r + 1) more))

alike_before : (az bs : List Job) (p : ℕ) → Alike az bs → events_before az p ≡ events_before bs p
alike_before [] [] p k = refl
alike_before [] (b ∷ bs) p k = absurd k
alike_before (a ∷ az) [] p k = absurd k
alike_before (a ∷ az) (b ∷ bs) zero k = none_before (a ∷ az) ∙ sym (none_before (b ∷ bs))
alike_before (a ∷ az) (b ∷ bs) (suc p) k =
    let h = alike_before az bs p k.1 in
    let x = before_cons a az p in
    let y = before_cons b bs p in
    let z = k.0 in
    omega (arith, h, x, y, z)

pub same_before : (steps runs : ℕ) (a b : Script) (p : ℕ) → events_before (jobs steps runs a) p ≡ events_before (jobs steps runs b) p
same_before steps runs a b p = alike_before (jobs steps runs a) (jobs steps runs b) p (refl, (refl, alike_from steps a b 1 (runs - 1)))

-- ---- the row event after so many
even_shows : (steps n m : ℕ) → n ≡ 2 * m → Show ≡ row_event_at steps n
even_shows steps n m e =
    let z : n % 2 ≡ 0 = omega (arith, e) in
    sym (ap (λ (b : Bool). if b then Show else (if (n / 2 + 1) % (steps + 1) == 0 then Restart else Step)) (eq-eqb (n % 2) 0 z))

not_zero : (n : ℕ) → (n ≡ 0 → ⊥) → (n == 0) ≡ false
not_zero n h = by (n == 0) refl
  where
    by : (b : Bool) → (n == 0) ≡ b → b ≡ false
    by true e = absurd (h (eqb-true n 0 e))
    by false e = refl

odd_goes : (steps n m : ℕ) (b : Bool) → n ≡ 2 * m + 1 → ((m + 1) % (steps + 1) == 0) ≡ b → (if b then Restart else Step) ≡ row_event_at steps n
odd_goes steps n m b e h =
    let z : n % 2 ≡ 1 = omega (arith, e) in
    let y : n / 2 ≡ m = omega (arith, e) in
    let o : (n % 2 == 0) ≡ false = not_zero (n % 2) (λ k. omega (arith, z, k)) in
    sym (ap (λ (c : Bool). if c then Show else (if (n / 2 + 1) % (steps + 1) == 0 then Restart else Step)) o
    ∙ ap (λ (i : ℕ). if (i + 1) % (steps + 1) == 0 then Restart else Step) y
    ∙ ap (λ (c : Bool). if c then Restart else Step) h)

-- a row of a run
abbrev row_at : (steps q k : ℕ) → ℕ
row_at steps q k = q * (steps + 1) + k

odd_steps : (steps q k n : ℕ) → k < steps → n ≡ 2 * row_at steps q k + 1 → Step ≡ row_event_at steps n
odd_steps steps q k n l e =
    let a : row_at steps q k + 1 ≡ q * (steps + 1) + (k + 1) = omega arith in
    let b = ap (λ (i : ℕ). i % (steps + 1)) a ∙ mod-mul-add q (steps + 1) (k + 1) (omega (arith, l)) in
    odd_goes steps n (row_at steps q k) false e (not_zero ((row_at steps q k + 1) % (steps + 1)) (λ z. omega (arith, z, b)))

odd_restarts : (steps q n : ℕ) → n ≡ 2 * row_at steps q steps + 1 → Restart ≡ row_event_at steps n
odd_restarts steps q n e =
    let a : row_at steps q steps + 1 ≡ (q + 1) * (steps + 1) + 0 = omega arith in
    let b = ap (λ (i : ℕ). i % (steps + 1)) a ∙ mod-mul-add (q + 1) (steps + 1) 0 (omega arith) in
    odd_goes steps n (row_at steps q steps) true e (eq-eqb ((row_at steps q steps + 1) % (steps + 1)) 0 b)

in_run : (steps q k n : ℕ) → k ≤ steps → n / 2 ≡ row_at steps q k → run_after steps n ≡ q + 1
in_run steps q k n l e = ap (λ (i : ℕ). i / (steps + 1) + 1) e ∙ ap (λ (i : ℕ). i + 1) (div-mul-add q (steps + 1) k (omega (arith, l)))

-- ---- each job asks for the row event that comes next
pub record IsInPlace (steps runs n : ℕ) (job : Job) : Type 0 where
  pub next : (k : RowEvent) → row_event_in job.task ≡ Some k → k ≡ row_event_at steps n
  pub within : (k : RowEvent) → row_event_in job.task ≡ Some k → run_after steps n ≤ runs
  pub row : (row : ℕ) → task_row job.task ≡ Some row → n ≡ 2 * row

abbrev AreInPlace : (steps runs n : ℕ) → List Job → Type 0
AreInPlace steps runs n [] = Unit {0}
AreInPlace steps runs n (job ∷ js) = IsInPlace steps runs n job × AreInPlace steps runs (n + events_of job) js

get_in_place : (steps runs n : ℕ) (js : List Job) (p : ℕ) (job : Job) → AreInPlace steps runs n js → slice_get js p ≡ Some job → IsInPlace steps runs (n + events_before js p) job
get_in_place steps runs n [] p job a e = absurd cc
get_in_place steps runs n (j ∷ js) zero job a e =
    let z : j ≡ job = cc in
    let b = none_before (j ∷ js) in
    let y : n ≡ n + events_before (j ∷ js) 0 = omega (arith, b) in
    let P : Job → Type 0 = λ x. IsInPlace steps runs n x in
    let Q : ℕ → Type 0 = λ i. IsInPlace steps runs i job in
    subst Q y (subst P z a.0)
get_in_place steps runs n (j ∷ js) (suc p) job a e =
    let b = before_cons j js p in
    let y : n + events_of j + events_before js p ≡ n + events_before (j ∷ js) (suc p) = omega (arith, b) in
    let Q : ℕ → Type 0 = λ i. IsInPlace steps runs i job in
    subst Q y (get_in_place steps runs (n + events_of j) js p job a.1 e)

clash : {A : Type 0} {x : A} → None ≡ Some x → ⊥
clash z = cc

same_some : {A : Type 0} {x y : A} → Some x ≡ Some y → x ≡ y
same_some z = cc

-- a job that asks for none
idle_place : (steps runs n : ℕ) (job : Job) → row_event_in job.task ≡ None → task_row job.task ≡ None → IsInPlace steps runs n job
idle_place steps runs n job e r = record { next = λ k h. absurd (clash (sym e ∙ h)); within = λ k h. absurd (clash (sym e ∙ h)); row = λ k h. absurd (clash (sym r ∙ h)) }

event_place : (steps runs n : ℕ) (job : Job) (k : RowEvent) → row_event_in job.task ≡ Some k → task_row job.task ≡ None → k ≡ row_event_at steps n → run_after steps n ≤ runs → IsInPlace steps runs n job
event_place steps runs n job k e r h w =
    record {
      next = λ c f. sym (same_some (sym e ∙ f)) ∙ h;
      within = λ c f. w;
      row = λ c f. absurd (clash (sym r ∙ f));
    }

show_place : (steps runs n : ℕ) (job : Job) (row : ℕ) → row_event_in job.task ≡ Some Show → task_row job.task ≡ Some row → n ≡ 2 * row → run_after steps n ≤ runs → IsInPlace steps runs n job
show_place steps runs n job row e r h w =
    record {
      next = λ c f. sym (same_some (sym e ∙ f)) ∙ even_shows steps n row h;
      within = λ c f. w;
      row = λ c f. h ∙ ap (λ (i : ℕ). 2 * i) (same_some (sym r ∙ f));
    }

module _ (steps runs q : ℕ) (few : q + 1 ≤ runs) where
  within : (k n : ℕ) → k ≤ steps → n / 2 ≡ row_at steps q k → run_after steps n ≤ runs
  within k n l e = let z = in_run steps q k n l e in omega (arith, z, few)

  -- so many steps from step b + 1, and what follows them
  steps_place : (r : ℕ) → r ≡ q + 1 → (b more n : ℕ) → b + more ≡ steps → n ≡ 2 * row_at steps q b + 1 → (js : List Job) → ((i : ℕ) → i ≡ 2 * row_at steps q steps + 1 → AreInPlace steps runs i js)
      → (a : ℕ) → a ≡ b + 1 → AreInPlace steps runs n (flat_map (step_jobs steps r) (range_with_len a more) ++ js)
  steps_place r f b zero n l e js k a g =
      let z : b ≡ steps = omega (arith, l) in
      k n (e ∙ ap (λ (i : ℕ). 2 * row_at steps q i + 1) z)
  steps_place r f b (suc more) n l e js k a g =
      let one : row_at steps q b + 1 ≡ row_at steps q a = omega (arith, g) in
      let u : q ≡ r - 1 = omega (arith, f) in
      let row : row_at steps q a ≡ row_index steps r a = ap (λ (i : ℕ). i * (steps + 1) + a) u in
      let m : n + 1 ≡ 2 * row_at steps q a = omega (arith, e, one) in (
        event_place steps runs n (record { task = tasks.Step a; list = [] }) Step refl refl (odd_steps steps q b n (omega (arith, l)) e) (within b n (omega (arith, l)) (omega (arith, e))),
        (
          show_place steps runs (n + 1) (record { task = tasks.Outputs a (row_index steps r a); list = [] }) (row_index steps r a) refl refl (m ∙ ap (λ (i : ℕ). 2 * i) row) (within a (n + 1) (omega (arith, l, g)) (omega (arith, m))),
          steps_place r f a more (n + 1 + 1) (omega (arith, l, g)) (omega (arith, m)) js k (a + 1) refl,
        ),
      )

  -- run q + 1, and what follows it
  run_place : (r : ℕ) → r ≡ q + 1 → (n : ℕ) → n ≡ 2 * row_at steps q 0 → (js : List Job) → ((i : ℕ) → i ≡ 2 * row_at steps q steps + 1 → AreInPlace steps runs i js) → AreInPlace steps runs n (run_jobs steps r ++ js)
  run_place r f n e js k =
      let u : q ≡ r - 1 = omega (arith, f) in
      let row : row_at steps q 0 ≡ row_index steps r 0 = ap (λ (i : ℕ). i * (steps + 1) + 0) u in
      let stop : Job = record { task = tasks.Stop; list = [] } in
      let z : n + 0 + 0 + 0 ≡ n = omega arith in
      let P : ℕ → Type 0 = λ i. AreInPlace steps runs i (record { task = tasks.FirstOutputs (row_index steps r 0); list = [] } ∷ record { task = tasks.Run; list = [] } ∷ ((flat_map (step_jobs steps r) (range_with_len 1 steps) ++ (stop ∷ [])) ++ js)) in
      let Q : List Job → Type 0 = λ xs. AreInPlace steps runs (n + 1 + 0) xs in
      let after : AreInPlace steps runs (n + 1 + 0) ((flat_map (step_jobs steps r) (range_with_len 1 steps) ++ (stop ∷ [])) ++ js) =
      subst Q (sym (append_assoc (flat_map (step_jobs steps r) (range_with_len 1 steps)) (stop ∷ []) js))
      (steps_place r f 0 steps (n + 1 + 0) (omega arith) (omega (arith, e)) (stop ∷ js) (λ i h. (idle_place steps runs i stop refl refl, k (i + 0) (omega (arith, h)))) 1 (omega arith)) in (
        idle_place steps runs n (record { task = tasks.Prepare; list = [] }) refl refl,
        (
          idle_place steps runs (n + 0) (record { task = tasks.Configure; list = [] }) refl refl,
          (
            idle_place steps runs (n + 0 + 0) (record { task = tasks.Initialize; list = [] }) refl refl,
            subst P (sym z) (
              show_place steps runs n (record { task = tasks.FirstOutputs (row_index steps r 0); list = [] }) (row_index steps r 0) refl refl (e ∙ ap (λ (i : ℕ). 2 * i) row) (within 0 n (omega arith) (omega (arith, e))),
              (idle_place steps runs (n + 1) (record { task = tasks.Run; list = [] }) refl refl, after),
            ),
          ),
        ),
      )

from_place : (steps runs : ℕ) (script : Script) (q more r n : ℕ) → q + 1 + more ≤ runs → r ≡ q + 1 → n ≡ 2 * row_at steps q 0 → AreInPlace steps runs n (jobs_from steps script r more)
from_place steps runs script q zero r n l f e =
    run_place steps runs q (omega (arith, l)) r f n e (record { task = tasks.Deregister; list = [] } ∷ []) (λ i h. (idle_place steps runs i (record { task = tasks.Deregister; list = [] }) refl refl, tt))
from_place steps runs script q (suc more) r n l f e =
    run_place steps runs q (omega (arith, l)) r f n e (between_jobs script r ++ jobs_from steps script (r + 1) more)
    (λ i h. between i h (from_place steps runs script (q + 1) more (r + 1) (i + 1 + 0) (omega (arith, l)) (omega (arith, f)) (omega (arith, h))))
  where
    adjust : Job
    adjust = record { task = tasks.Adjust; list = slice_index_or script.adjusts (r - 1) [] }

    between : (i : ℕ) → i ≡ 2 * row_at steps q steps + 1 → AreInPlace steps runs (i + 1 + 0) (jobs_from steps script (r + 1) more) → AreInPlace steps runs i (between_jobs script r ++ jobs_from steps script (r + 1) more)
    between i h k =
        let w = in_run steps q steps i (omega arith) (omega (arith, h)) in
        (event_place steps runs i (record { task = tasks.Reset; list = [] }) Restart refl refl (odd_restarts steps q i h) (omega (arith, w, l)), (idle_place steps runs (i + 1) adjust refl refl, k))

pub in_place : (steps runs : ℕ) (script : Script) → 1 ≤ runs → (p : ℕ) (job : Job) → slice_get (jobs steps runs script) p ≡ Some job → IsInPlace steps runs (events_before (jobs steps runs script) p) job
in_place steps runs script h p job e =
    let register : Job = record { task = tasks.Register script.uuid; list = [] } in
    let setup : Job = record { task = tasks.Setup; list = script.setup } in
    let first : 0 + 0 + 0 ≡ 2 * row_at steps 0 0 = omega arith in
    let z : 0 + events_before (jobs steps runs script) p ≡ events_before (jobs steps runs script) p = omega arith in
    let Q : ℕ → Type 0 = λ i. IsInPlace steps runs i job in
    subst Q z (get_in_place steps runs 0 (jobs steps runs script) p job
    (idle_place steps runs 0 register refl refl, (idle_place steps runs (0 + 0) setup refl refl, from_place steps runs script 0 (runs - 1) 1 (0 + 0 + 0) (omega (arith, h)) refl first)) e)
