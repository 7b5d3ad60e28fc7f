-- The rows of a slave's jobs, in order: none for most, and all rows of all runs one after the other.
use Rattle.std.proofs.Common.{◌≡◌, ℕ, zero, suc, ◌+◌, ◌-◌, ◌*◌, ◌<◌, ◌≤◌, Option, Some, None, List, [], ◌∷◌, ◌++◌, map, length, drop, refl, sym, ap, ◌∙◌, subst, arith}
use Rattle.std.specs.Prelude.{slice_get}
use Rattle.std.specs.List.{flat_map, range_with_len}
use Rattle.std.proofs.Math.Nat.{suc-mul}
use Rattle.std.proofs.lemmas.List.{map-append}
use Rattle.lockstep.specs.Lockstep.{row_index}
use Rattle.master_spec.specs.declared.setups.Script.{Script}
use Rattle.master_spec.specs.Tasks.{task_row}
use Rattle.master_spec.specs.Jobs.{Job, step_jobs, run_jobs, between_jobs, jobs_from, jobs}
use Rattle.master_spec.specs.Course.{row_in_job}

abbrev pub row_here : Job → Option ℕ
row_here job = task_row job.task

abbrev steps_from : (steps r a n : ℕ) → List Job
steps_from steps r a n = flat_map (step_jobs steps r) (range_with_len a n)

-- the same for every script
abbrev places_from : (steps r more : ℕ) → List (Option ℕ)
places_from steps r zero = map row_here (run_jobs steps r) ++ None ∷ []
places_from steps r (suc more) = map row_here (run_jobs steps r) ++ None ∷ None ∷ places_from steps (r + 1) more

abbrev pub places : (steps runs : ℕ) → List (Option ℕ)
places steps runs = None ∷ None ∷ places_from steps 1 (runs - 1)

from_places : (steps : ℕ) (script : Script) (r more : ℕ) → map row_here (jobs_from steps script r more) ≡ places_from steps r more
from_places steps script r zero = map-append row_here (run_jobs steps r) _
from_places steps script r (suc more) =
    map-append row_here (run_jobs steps r) (between_jobs script r ++ jobs_from steps script (r + 1) more)
    ∙ ap (λ (z : List (Option ℕ)). map row_here (run_jobs steps r) ++ None ∷ None ∷ z) (from_places steps script (r + 1) more)

pub job_places : (steps runs : ℕ) (script : Script) → map row_here (jobs steps runs script) ≡ places steps runs
job_places steps runs script = ap (λ (z : List (Option ℕ)). None ∷ None ∷ z) (from_places steps script 1 (runs - 1))

-- ---- the row of a phase
abbrev pub joined : Option (Option ℕ) → Option ℕ
joined None = None
joined (Some o) = o

-- of phase p + 1; none before the first
abbrev pub due_at : List (Option ℕ) → ℕ → Option ℕ
due_at os zero = None
due_at os (suc p) = joined (slice_get os p)

pub job_due : (js : List Job) (p : ℕ) → row_in_job (slice_get js p) ≡ joined (slice_get (map row_here js) p)
job_due [] p = refl
job_due (job ∷ js) zero = refl
job_due (job ∷ js) (suc p) = job_due js p

-- the places from one on
pub record Onward (os : List (Option ℕ)) (p : ℕ) : Type 0 where
  pub place : Option ℕ
  pub is : due_at os (suc p) ≡ place
  pub more : drop p os ≡ place ∷ drop (suc p) os

pub onward : (os : List (Option ℕ)) (p : ℕ) → p < length os → Onward os p
onward [] p h = absurd (omega (arith, h))
onward (o ∷ os) zero h = record { place = o; is = refl; more = refl }
onward (o ∷ os) (suc p) h = let k = onward os p (omega (arith, h)) in record { place = k.place; is = k.is; more = k.more }

pub over : (os : List (Option ℕ)) (p : ℕ) → length os ≤ p → drop p os ≡ []
over [] zero h = refl
over [] (suc p) h = refl
over (o ∷ os) zero h = absurd (omega (arith, h))
over (o ∷ os) (suc p) h = over os p (omega (arith, h))

-- ---- the rows stand one after the other, from n up to m
abbrev pub IsCountedBy : Option ℕ → (n : ℕ) → (ℕ → Type 0) → Type 0
IsCountedBy None n More = More n
IsCountedBy (Some r) n More = (r ≡ n) × More (n + 1)

abbrev pub AreCounted : (n : ℕ) → List (Option ℕ) → (m : ℕ) → Type 0
AreCounted n [] m = n ≡ m
AreCounted n (o ∷ os) m = IsCountedBy o n (λ k. AreCounted k os m)

counted_append : (n : ℕ) (os qs : List (Option ℕ)) (m k : ℕ) → AreCounted n os m → AreCounted m qs k → AreCounted n (os ++ qs) k
counted_append n [] qs m k a b = let P : ℕ → Type 0 = λ i. AreCounted i qs k in subst P (sym a) b
counted_append n (None ∷ os) qs m k a b = counted_append n os qs m k a b
counted_append n (Some r ∷ os) qs m k a b = (a.0, counted_append (n + 1) os qs m k a.1 b)

counted_to : (n m k : ℕ) (os : List (Option ℕ)) → m ≡ k → AreCounted n os m → AreCounted n os k
counted_to n m k os e a = let P : ℕ → Type 0 = λ i. AreCounted n os i in subst P e a

counted_from : (n m k : ℕ) (os : List (Option ℕ)) → n ≡ m → AreCounted n os k → AreCounted m os k
counted_from n m k os e a = let P : ℕ → Type 0 = λ i. AreCounted i os k in subst P e a

steps_counted : (steps r a n : ℕ) → AreCounted (row_index steps r a) (map row_here (steps_from steps r a n)) (row_index steps r (a + n))
steps_counted steps r a zero = let z : a ≡ a + 0 = omega arith in ap (row_index steps r) z
steps_counted steps r a (suc n) =
    let h = steps_counted steps r (a + 1) n in
    let x : row_index steps r (a + 1) ≡ row_index steps r a + 1 = omega arith in
    let y : row_index steps r (a + 1 + n) ≡ row_index steps r (a + suc n) = ap (row_index steps r) (omega arith) in
    let rest = map row_here (steps_from steps r (a + 1) n) in
    (refl, counted_from (row_index steps r (a + 1)) (row_index steps r a + 1) (row_index steps r (a + suc n)) rest x (counted_to (row_index steps r (a + 1)) (row_index steps r (a + 1 + n)) (row_index steps r (a + suc n)) rest y h))

-- a run has the rows of its steps, and that of its first outputs
run_counted : (steps r : ℕ) → AreCounted (row_index steps r 0) (map row_here (run_jobs steps r)) (row_index steps r 0 + (steps + 1))
run_counted steps r =
    let fm = steps_from steps r 1 steps in
    let e : map row_here (run_jobs steps r) ≡ None ∷ None ∷ None ∷ Some (row_index steps r 0) ∷ None ∷ (map row_here fm ++ None ∷ []) = ap (λ (z : List (Option ℕ)). None ∷ None ∷ None ∷ Some (row_index steps r 0) ∷ None ∷ z) (map-append row_here fm _) in
    let x : row_index steps r 1 ≡ row_index steps r 0 + 1 = omega arith in
    let y : row_index steps r (1 + steps) ≡ row_index steps r 0 + (steps + 1) = omega arith in
    let s = counted_from (row_index steps r 1) (row_index steps r 0 + 1) (row_index steps r 0 + (steps + 1)) (map row_here fm) x (counted_to (row_index steps r 1) (row_index steps r (1 + steps)) (row_index steps r 0 + (steps + 1)) (map row_here fm) y (steps_counted steps r 1 steps)) in
    let P : List (Option ℕ) → Type 0 = λ z. AreCounted (row_index steps r 0) z (row_index steps r 0 + (steps + 1)) in
    subst P (sym e) (refl, counted_append (row_index steps r 0 + 1) (map row_here fm) (None ∷ []) (row_index steps r 0 + (steps + 1)) (row_index steps r 0 + (steps + 1)) s refl)

next_run : (steps r : ℕ) → 1 ≤ r → row_index steps r 0 + (steps + 1) ≡ row_index steps (r + 1) 0
next_run steps zero h = absurd (omega (arith, h))
next_run steps (suc r) h =
    let i : suc r - 1 ≡ r = omega arith in
    let j : suc r + 1 - 1 ≡ suc r = omega arith in
    let a : row_index steps (suc r) 0 ≡ r * (steps + 1) + 0 = ap (λ k. k * (steps + 1) + 0) i in
    let b : row_index steps (suc r + 1) 0 ≡ suc r * (steps + 1) + 0 = ap (λ k. k * (steps + 1) + 0) j in
    let c : suc r * (steps + 1) ≡ r * (steps + 1) + (steps + 1) = suc-mul r (steps + 1) in
    omega (arith, a, b, c)

from_counted : (steps r more : ℕ) → 1 ≤ r → AreCounted (row_index steps r 0) (places_from steps r more) (row_index steps (r + more + 1) 0)
from_counted steps r zero h =
    let e : row_index steps (r + 1) 0 ≡ row_index steps (r + 0 + 1) 0 = ap (λ k. row_index steps k 0) (omega arith) in
    counted_append (row_index steps r 0) (map row_here (run_jobs steps r)) (None ∷ []) (row_index steps r 0 + (steps + 1)) (row_index steps (r + 0 + 1) 0) (run_counted steps r) (next_run steps r h ∙ e)
from_counted steps r (suc more) h =
    let e : row_index steps (r + 1 + more + 1) 0 ≡ row_index steps (r + suc more + 1) 0 = ap (λ k. row_index steps k 0) (omega arith) in
    let rest = counted_to (row_index steps (r + 1) 0) (row_index steps (r + 1 + more + 1) 0) (row_index steps (r + suc more + 1) 0) (places_from steps (r + 1) more) e (from_counted steps (r + 1) more (omega arith)) in
    counted_append (row_index steps r 0) (map row_here (run_jobs steps r)) (None ∷ None ∷ places_from steps (r + 1) more) (row_index steps r 0 + (steps + 1)) (row_index steps (r + suc more + 1) 0) (run_counted steps r)
    (counted_from (row_index steps (r + 1) 0) (row_index steps r 0 + (steps + 1)) (row_index steps (r + suc more + 1) 0) (places_from steps (r + 1) more) (sym (next_run steps r h)) rest)

pub all_counted : (steps runs : ℕ) → 1 ≤ runs → AreCounted 0 (places steps runs) (runs * (steps + 1))
all_counted steps runs h =
    let i : 1 + (runs - 1) + 1 - 1 ≡ runs = omega (arith, h) in
    let f : row_index steps (1 + (runs - 1) + 1) 0 ≡ runs * (steps + 1) + 0 = ap (λ k. k * (steps + 1) + 0) i in
    let e : row_index steps (1 + (runs - 1) + 1) 0 ≡ runs * (steps + 1) = omega (arith, f) in
    let z : row_index steps 1 0 ≡ 0 = omega arith in
    counted_from (row_index steps 1 0) 0 (runs * (steps + 1)) (places_from steps 1 (runs - 1)) z (counted_to (row_index steps 1 0) (row_index steps (1 + (runs - 1) + 1) 0) (runs * (steps + 1)) (places_from steps 1 (runs - 1)) e (from_counted steps 1 (runs - 1) (omega arith)))
