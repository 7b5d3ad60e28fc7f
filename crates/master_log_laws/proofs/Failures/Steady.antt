-- A list of configurations follows a job with the same target, which has none.
use Rattle.std.proofs.Common.{◌≡◌, ℕ, zero, suc, ◌+◌, ◌-◌, true, false, Some, List, [], ◌∷◌, ◌++◌, refl, sym, ap, ◌∙◌, subst, arith}
use Rattle.std.specs.Prelude.{slice_get, slice_index_or}
use Rattle.std.specs.List.{flat_map, range_with_len}
use Rattle.master_spec.specs.declared.setups.Script.{Script}
use Rattle.master_spec.specs.declared.tasks.Task.TheVariants as tasks
use Rattle.master_spec.specs.Tasks.{is_by_list, target_of}
use Rattle.master_spec.specs.Jobs.{Job, step_jobs, run_jobs, between_jobs, jobs_from, jobs}

abbrev pub IsNext : Job → Job → Type 0
IsNext j k = is_by_list k.task ≡ true → (target_of j.task ≡ target_of k.task) × (is_by_list j.task ≡ false)

abbrev SteadyAfter : Job → List Job → Type 0
SteadyAfter j [] = Unit {0}
SteadyAfter j (k ∷ js) = IsNext j k × SteadyAfter k js

-- jobs without a list
abbrev ArePlain : List Job → Type 0
ArePlain [] = Unit {0}
ArePlain (j ∷ js) = (is_by_list j.task ≡ false) × ArePlain js

plain_next : (j k : Job) → is_by_list k.task ≡ false → IsNext j k
plain_next j k e h = let z : false ≡ true = sym e ∙ h in absurd cc

plain_steady : (xs ys : List Job) → ArePlain xs → ((j : Job) → SteadyAfter j ys) → (j : Job) → SteadyAfter j (xs ++ ys)
plain_steady [] ys p s j = s j
plain_steady (x ∷ xs) ys p s j = (plain_next j x p.0, plain_steady xs ys p.1 s x)

plain_append : (xs ys : List Job) → ArePlain xs → ArePlain ys → ArePlain (xs ++ ys)
plain_append [] ys p q = q
plain_append (x ∷ xs) ys p q = (p.0, plain_append xs ys p.1 q)

plain_steps : (steps r a n : ℕ) → ArePlain (flat_map (step_jobs steps r) (range_with_len a n))
plain_steps steps r a zero = tt
plain_steps steps r a (suc n) = (refl, (refl, plain_steps steps r (a + 1) n))

plain_run : (steps r : ℕ) → ArePlain (run_jobs steps r)
plain_run steps r = (refl, (refl, (refl, (refl, (refl, plain_append (flat_map (step_jobs steps r) (range_with_len 1 steps)) (record { task = tasks.Stop; list = [] } ∷ []) (plain_steps steps r 1 steps) (refl, tt))))))

steady_from : (steps : ℕ) (script : Script) (r more : ℕ) → (j : Job) → SteadyAfter j (jobs_from steps script r more)
steady_from steps script r zero j = plain_steady (run_jobs steps r) (record { task = tasks.Deregister; list = [] } ∷ []) (plain_run steps r) (λ k. (plain_next k (record { task = tasks.Deregister; list = [] }) refl, tt)) j
steady_from steps script r (suc more) j =
    plain_steady (run_jobs steps r) (between_jobs script r ++ jobs_from steps script (r + 1) more) (plain_run steps r)
    (λ k. (plain_next k (record { task = tasks.Reset; list = [] }) refl, (λ h. (refl, refl), steady_from steps script (r + 1) more (record { task = tasks.Adjust; list = slice_index_or script.adjusts (r - 1) [] })))) j

next_at : (j : Job) (js : List Job) (p : ℕ) (a b : Job) → SteadyAfter j js → slice_get (j ∷ js) p ≡ Some a → slice_get js p ≡ Some b → IsNext a b
next_at j [] p a b s e f = absurd cc
next_at j (k ∷ js) zero a b s e f =
    let x : j ≡ a = cc in
    let y : k ≡ b = cc in
    let P : Job → Type 0 = λ u. IsNext u b in
    let Q : Job → Type 0 = λ u. IsNext j u in
    subst P x (subst Q y s.0)
next_at j (k ∷ js) (suc p) a b s e f = next_at k js p a b s.1 e f

-- in the jobs of a slave
pub steady : (steps runs : ℕ) (script : Script) (p : ℕ) (a b : Job) → slice_get (jobs steps runs script) p ≡ Some a → slice_get (jobs steps runs script) (p + 1) ≡ Some b → IsNext a b
steady steps runs script p a b e f =
    let first : Job = record { task = tasks.Register script.uuid; list = [] } in
    let rest : List Job = record { task = tasks.Setup; list = script.setup } ∷ jobs_from steps script 1 (runs - 1) in
    let k : p + 1 ≡ suc p = omega arith in
    next_at first rest p a b ((λ h. (refl, refl)), steady_from steps script 1 (runs - 1) (record { task = tasks.Setup; list = script.setup })) e (ap (slice_get (jobs steps runs script)) (sym k) ∙ f)
