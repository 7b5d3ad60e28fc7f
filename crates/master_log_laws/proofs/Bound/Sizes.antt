-- The longest list of each phase, and how many turns all phases take.
use Rattle.std.proofs.Common.{◌≡◌, ℕ, zero, suc, ◌+◌, ◌-◌, ◌*◌, ◌≤◌, max, Some, List, [], ◌∷◌, ◌++◌, map, length, drop, refl, sym, ap, subst, ◌∙◌, arith, length-append}
use Rattle.std.specs.Prelude.{sum_by, slice_get, slice_index_or}
use Rattle.std.specs.List.{AllByRecursion, flat_map, range_with_len}
use Rattle.std.proofs.Math.Nat.{add-mul, mul_assoc}
use Rattle.std.proofs.lemmas.List.{length-map}
use Rattle.std.proofs.lemmas.List.Sums.{sum_by-cons}
use Rattle.dcp_types.specs.declared.limits.Limits.{Limits}
use Rattle.master_spec.specs.declared.setups.Script.{Script}
use Rattle.master_spec.specs.declared.setups.Slave.{Slave}
use Rattle.master_spec.specs.declared.setups.Setup.{Setup}
use Rattle.master_spec.specs.declared.tasks.Task.TheVariants as tasks
use Rattle.master_spec.specs.Jobs.{Job, step_jobs, run_jobs, between_jobs, jobs_from, jobs}
use Rattle.master_spec.specs.Setup.{jobs_of}
use Rattle.master_spec.specs.Bound.{longest, longest_lists, bound}
use Rattle.master_spec.proofs.Phases.{phases_counted}

-- the job of each phase has a list of at most that length
abbrev pub AreWithin : List Job → List ℕ → Type 0
AreWithin [] [] = Unit {0}
AreWithin [] (x ∷ xs) = ⊥
AreWithin (job ∷ js) [] = ⊥
AreWithin (job ∷ js) (x ∷ xs) = (length job.list ≤ x) × AreWithin js xs

abbrev pub size_of : Job → ℕ
size_of job = length job.list

-- the sizes of a run, of what stands between it and the next, and so on
abbrev pub sizes_from : (ℕ → ℕ) → (steps r more : ℕ) → List ℕ
sizes_from f steps r zero = map size_of (run_jobs steps r) ++ 0 ∷ []
sizes_from f steps r (suc more) = map size_of (run_jobs steps r) ++ (0 ∷ f r ∷ sizes_from f steps (r + 1) more)

abbrev pub sizes : (first : ℕ) → (ℕ → ℕ) → (steps runs : ℕ) → List ℕ
sizes first f steps runs = 0 ∷ first ∷ sizes_from f steps 1 (runs - 1)

abbrev pub longest_setup : Setup → ℕ
longest_setup setup = longest (λ s. length s.script.setup) setup.slaves

abbrev pub longest_adjust : Setup → ℕ → ℕ
longest_adjust setup r = longest (λ s. length (slice_index_or s.script.adjusts (r - 1) [])) setup.slaves

-- the longest list of each phase of a session
abbrev pub sizes_of : Setup → List ℕ
sizes_of setup = sizes (longest_setup setup) (longest_adjust setup) setup.steps setup.runs

-- ---- the lists are within them

within_append : (js ks : List Job) (xs ys : List ℕ) → AreWithin js xs → AreWithin ks ys → AreWithin (js ++ ks) (xs ++ ys)
within_append [] ks [] ys a b = b
within_append [] ks (x ∷ xs) ys a b = absurd a
within_append (job ∷ js) ks [] ys a b = absurd a
within_append (job ∷ js) ks (x ∷ xs) ys a b = (a.0, within_append js ks xs ys a.1 b)

within_self : (js : List Job) → AreWithin js (map size_of js)
within_self [] = tt
within_self (job ∷ js) = (omega arith, within_self js)

within_from : (f : ℕ → ℕ) (steps : ℕ) (script : Script) (r more : ℕ) → ((k : ℕ) → length (slice_index_or script.adjusts (k - 1) []) ≤ f k) → AreWithin (jobs_from steps script r more) (sizes_from f steps r more)
within_from f steps script r zero h =
    within_append (run_jobs steps r) (record { task = tasks.Deregister; list = [] } ∷ []) (map size_of (run_jobs steps r)) (0 ∷ []) (within_self (run_jobs steps r)) (omega arith, tt)
within_from f steps script r (suc more) h =
    within_append (run_jobs steps r) (between_jobs script r ++ jobs_from steps script (r + 1) more) (map size_of (run_jobs steps r)) (0 ∷ f r ∷ sizes_from f steps (r + 1) more) (within_self (run_jobs steps r))
    (omega arith, (h r, within_from f steps script (r + 1) more h))

within_jobs : (first : ℕ) (f : ℕ → ℕ) (steps runs : ℕ) (script : Script) → length script.setup ≤ first → ((k : ℕ) → length (slice_index_or script.adjusts (k - 1) []) ≤ f k) → AreWithin (jobs steps runs script) (sizes first f steps runs)
within_jobs first f steps runs script h k = (omega arith, (h, within_from f steps script 1 (runs - 1) k))

longest_weaker : (size : Slave → ℕ) (m n : ℕ) (slaves : List Slave) → m ≤ n → AllByRecursion (λ s. size s ≤ m) slaves → AllByRecursion (λ s. size s ≤ n) slaves
longest_weaker size m n [] h a = tt
longest_weaker size m n (s ∷ slaves) h a = let b = a.0 in (omega (arith, b, h), longest_weaker size m n slaves h a.1)

longest_all : (size : Slave → ℕ) (slaves : List Slave) → AllByRecursion (λ s. size s ≤ longest size slaves) slaves
longest_all size [] = tt
longest_all size (s ∷ slaves) = (omega arith, longest_weaker size (longest size slaves) (max (size s) (longest size slaves)) slaves (omega arith) (longest_all size slaves))

every_one : (P : ℕ → Slave → Type 0) (slaves : List Slave) → ((k : ℕ) → AllByRecursion (λ s. P k s) slaves) → AllByRecursion (λ s. (k : ℕ) → P k s) slaves
every_one P [] h = tt
every_one P (s ∷ slaves) h = ((λ k. (h k).0), every_one P slaves (λ k. (h k).1))

both : (P Q R : Slave → Type 0) (slaves : List Slave) → ((s : Slave) → P s → Q s → R s) → AllByRecursion P slaves → AllByRecursion Q slaves → AllByRecursion R slaves
both P Q R [] f a b = tt
both P Q R (s ∷ slaves) f a b = (f s a.0 b.0, both P Q R slaves f a.1 b.1)

-- the jobs of each slave are within the sizes of the setup
pub all_within : (setup : Setup) → AllByRecursion (λ s. AreWithin (jobs_of setup s) (sizes_of setup)) setup.slaves
all_within setup =
    both (λ s. length s.script.setup ≤ longest_setup setup) (λ s. (k : ℕ) → length (slice_index_or s.script.adjusts (k - 1) []) ≤ longest_adjust setup k) (λ s. AreWithin (jobs_of setup s) (sizes_of setup)) setup.slaves
    (λ s h k. within_jobs (longest_setup setup) (longest_adjust setup) setup.steps setup.runs s.script h k)
    (longest_all (λ s. length s.script.setup) setup.slaves)
    (every_one (λ k s. length (slice_index_or s.script.adjusts (k - 1) []) ≤ longest_adjust setup k) setup.slaves (λ k. longest_all (λ s. length (slice_index_or s.script.adjusts (k - 1) [])) setup.slaves))

-- the job of a phase, from 0, is there
pub within_at : (js : List Job) (xs : List ℕ) (p x : ℕ) (rest : List ℕ) → AreWithin js xs → drop p xs ≡ x ∷ rest → (job : Job) × (slice_get js p ≡ Some job) × (length job.list ≤ x)
within_at [] [] zero x rest a e = absurd (cc)
within_at [] [] (suc p) x rest a e = absurd (cc)
within_at [] (y ∷ ys) p x rest a e = absurd a
within_at (job ∷ js) [] p x rest a e = absurd a
within_at (job ∷ js) (y ∷ ys) zero x rest a e = let s : y ≡ x = cc in (job, refl, subst (λ (n : ℕ). length job.list ≤ n) s a.0)
within_at (job ∷ js) (y ∷ ys) (suc p) x rest a e = within_at js ys p x rest a.1 e

-- ---- how many there are, and what they come to

abbrev pub total : List ℕ → ℕ
total [] = 0
total (x ∷ xs) = x + total xs

total_append : (xs ys : List ℕ) → total (xs ++ ys) ≡ total xs + total ys
total_append [] ys = omega arith
total_append (x ∷ xs) ys = let h = total_append xs ys in omega (arith, h)

total_both : (js ks : List Job) → total (map size_of (js ++ ks)) ≡ total (map size_of js) + total (map size_of ks)
total_both [] ks = omega arith
total_both (job ∷ js) ks = let h = total_both js ks in omega (arith, h)

total_steps : (steps r a n : ℕ) → total (map size_of (flat_map (step_jobs steps r) (range_with_len a n))) ≡ 0
total_steps steps r a zero = refl
total_steps steps r a (suc n) = let h = total_steps steps r (a + 1) n in omega (arith, h)

total_run : (steps r : ℕ) → total (map size_of (run_jobs steps r)) ≡ 0
total_run steps r =
    let js = flat_map (step_jobs steps r) (range_with_len 1 steps) in
    let h = total_steps steps r 1 steps in
    let g = total_both js (record { task = tasks.Stop; list = [] } ∷ []) in
    omega (arith, h, g)

total_from : (f : ℕ → ℕ) (steps r more : ℕ) → total (sizes_from f steps r more) ≡ sum_by f (range_with_len r more)
total_from f steps r zero =
    let h = total_run steps r in
    let g = total_append (map size_of (run_jobs steps r)) (0 ∷ []) in
    omega (arith, h, g)
total_from f steps r (suc more) =
    let h = total_run steps r in
    let g = total_append (map size_of (run_jobs steps r)) (0 ∷ f r ∷ sizes_from f steps (r + 1) more) in
    let i = total_from f steps (r + 1) more in
    let s = sum_by-cons f r (range_with_len (r + 1) more) in
    omega (arith, h, g, i, s)

length_from : (f : ℕ → ℕ) (steps : ℕ) (script : Script) (r more : ℕ) → length (sizes_from f steps r more) ≡ length (jobs_from steps script r more)
length_from f steps script r zero =
    let a = length-append (map size_of (run_jobs steps r)) (0 ∷ []) in
    let b = length-append (run_jobs steps r) (record { task = tasks.Deregister; list = [] } ∷ []) in
    let m = length-map (run_jobs steps r) size_of in
    omega (arith, a, b, m)
length_from f steps script r (suc more) =
    let a = length-append (map size_of (run_jobs steps r)) (0 ∷ f r ∷ sizes_from f steps (r + 1) more) in
    let b = length-append (run_jobs steps r) (between_jobs script r ++ jobs_from steps script (r + 1) more) in
    let m = length-map (run_jobs steps r) size_of in
    let i = length_from f steps script (r + 1) more in
    omega (arith, a, b, m, i)

abbrev blank : Script
blank = record { uuid = 0; setup = []; adjusts = [] }

pub length_sizes : (setup : Setup) → 1 ≤ setup.runs → length (sizes_of setup) ≡ 1 + setup.runs * (8 + 2 * setup.steps)
length_sizes setup h =
    let i = length_from (longest_adjust setup) setup.steps blank 1 (setup.runs - 1) in
    let p = phases_counted setup.steps setup.runs blank h in
    omega (arith, i, p)

total_sizes : (setup : Setup) → total (sizes_of setup) ≡ longest_lists setup
total_sizes setup = let h = total_from (longest_adjust setup) setup.steps 1 (setup.runs - 1) in omega (arith, h)

-- ---- the turns of these phases, where a phase with a list of length x takes 1 + x times a weight

abbrev pub cost : (weight : ℕ) → List ℕ → ℕ
cost weight [] = 0
cost weight (x ∷ xs) = (1 + x) * weight + cost weight xs

cost_total : (weight : ℕ) (xs : List ℕ) → cost weight xs ≡ (length xs + total xs) * weight
cost_total weight [] = omega arith
cost_total weight (x ∷ xs) =
    let i = cost_total weight xs in
    let s = add-mul (1 + x) (length xs + total xs) weight in
    let e : (length (x ∷ xs) + total (x ∷ xs)) * weight ≡ (1 + x + (length xs + total xs)) * weight = ap (λ (n : ℕ). n * weight) (omega arith) in
    omega (arith, i, s, e)

-- the turns of one request, and of what follows from it
abbrev pub share : Limits → ℕ
share l = 5 * (l.tries * l.turn_limit) + l.state_limit + l.watch_turns + l.retry_turns + l.data_turns + 8

abbrev pub weight_of : Limits → ℕ
weight_of l = l.step_tries * share l

-- all phases take as many turns as the bound says
pub cost_bound : (setup : Setup) → 1 ≤ setup.runs → cost (weight_of setup.limits) (sizes_of setup) ≡ bound setup
cost_bound setup h =
    let n = length (sizes_of setup) + total (sizes_of setup) in
    let m = 1 + longest_lists setup + setup.runs * (8 + 2 * setup.steps) in
    let e : n ≡ m = (let p = length_sizes setup h in let q = total_sizes setup in omega (arith, p, q)) in
    cost_total (weight_of setup.limits) (sizes_of setup)
    ∙ ap (λ (k : ℕ). k * weight_of setup.limits) e
    ∙ sym (mul_assoc m setup.limits.step_tries (share setup.limits))
