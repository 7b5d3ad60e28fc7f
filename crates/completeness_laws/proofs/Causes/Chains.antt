-- In the jobs of a slave each finds it where the one before has led it, and a list of settings is followed by the preparation.
use Rattle.std.proofs.Common.{◌≡◌, ℕ, zero, suc, ◌+◌, ◌-◌, true, false, ◌⊎◌, inl, inr, Some, List, [], ◌∷◌, ◌++◌, refl, sym, ap, ◌∙◌, subst, arith}
use Rattle.std.specs.Prelude.{slice_get}
use Rattle.std.specs.List.{flat_map, range_with_len}
use Rattle.dcp_types.specs.declared.states.State.{State}
use Rattle.dcp_types.specs.declared.states.State.TheVariants.{Alive, Configuration, Preparing, Configuring, Initializing, SendingI, Synchronizing, Computing, SendingD, Stopping}
use Rattle.slave_laws.specs.Model.Stages.{SlaveStage}
use Rattle.master_spec.specs.declared.setups.Script.{Script}
use Rattle.master_spec.specs.declared.tasks.Task.{Task}
use Rattle.master_spec.specs.declared.tasks.Task.TheVariants as tasks
use Rattle.master_spec.specs.Tasks.{is_by_list}
use Rattle.master_spec.specs.Jobs.{Job, step_jobs, run_jobs, jobs_from, jobs}
use Rattle.completeness_laws.proofs.Causes.Homes.{entered_at}
use Rattle.completeness_laws.proofs.Causes.Past.{StandsAt}

-- the state that the slave has entered last when a task begins
abbrev pub IsRunning : State → Type 0
IsRunning t = (t ≡ Synchronizing) ⊎ (t ≡ SendingD)

abbrev pub ComesFrom : Task → State → Type 0
ComesFrom (tasks.Register uuid) t = t ≡ Alive
ComesFrom tasks.Setup t = t ≡ Configuration
ComesFrom tasks.Prepare t = t ≡ Configuration
ComesFrom tasks.Configure t = t ≡ Preparing
ComesFrom tasks.Initialize t = t ≡ Configuring
ComesFrom (tasks.FirstOutputs row) t = t ≡ Initializing
ComesFrom tasks.Run t = t ≡ SendingI
ComesFrom (tasks.Step k) t = IsRunning t
ComesFrom (tasks.Outputs k row) t = t ≡ Computing
ComesFrom tasks.Stop t = IsRunning t
ComesFrom tasks.Reset t = t ≡ Stopping
ComesFrom tasks.Adjust t = t ≡ Configuration
ComesFrom tasks.Deregister t = t ≡ Stopping

abbrev Goes : State → List Job → State → Type 0
Goes t [] u = t ≡ u
Goes t (j ∷ js) u = ComesFrom j.task t × Goes (entered_at j.task) js u

goes_append : (t : State) (xs ys : List Job) (u v : State) → Goes t xs u → Goes u ys v → Goes t (xs ++ ys) v
goes_append t [] ys u v g h = let P : State → Type 0 = λ z. Goes z ys v in subst P (sym g) h
goes_append t (x ∷ xs) ys u v g h = (g.0, goes_append (entered_at x.task) xs ys u v g.1 h)

steps_go : (steps r a n : ℕ) (t : State) → IsRunning t → (u : State) × (IsRunning u × Goes t (flat_map (step_jobs steps r) (range_with_len a n)) u)
steps_go steps r a zero t h = (t, (h, refl))
steps_go steps r a (suc n) t h = let z = steps_go steps r (a + 1) n SendingD (inr refl) in (z.0, ((z.1).0, (h, (refl, (z.1).1))))

run_goes : (steps r : ℕ) → Goes Configuration (run_jobs steps r) Stopping
run_goes steps r =
    let z = steps_go steps r 1 steps Synchronizing (inl refl) in
    (refl, (refl, (refl, (refl, (refl, goes_append Synchronizing (flat_map (step_jobs steps r) (range_with_len 1 steps)) _ z.0 Stopping (z.1).1 ((z.1).0, refl))))))

from_goes : (steps : ℕ) (script : Script) (r more : ℕ) → Goes Configuration (jobs_from steps script r more) Alive
from_goes steps script r zero = goes_append Configuration (run_jobs steps r) _ Stopping Alive (run_goes steps r) (refl, refl)
from_goes steps script r (suc more) = goes_append Configuration (run_jobs steps r) _ Stopping Alive (run_goes steps r) (refl, (refl, from_goes steps script (r + 1) more))

jobs_go : (steps runs : ℕ) (script : Script) → Goes Alive (jobs steps runs script) Alive
jobs_go steps runs script = (refl, (refl, from_goes steps script 1 (runs - 1)))

before_at : List Job → State → ℕ → State
before_at js t zero = t
before_at [] t (suc p) = t
before_at (j ∷ js) t (suc p) = before_at js (entered_at j.task) p

comes_at : (js : List Job) (t u : State) (p : ℕ) (job : Job) → Goes t js u → slice_get js p ≡ Some job → ComesFrom job.task (before_at js t p)
unfolding before_at
comes_at [] t u p job g e = absurd cc
comes_at (j ∷ js) t u zero job g e = let z : j ≡ job = cc in let P : Job → Type 0 = λ x. ComesFrom x.task t in subst P z g.0
comes_at (j ∷ js) t u (suc p) job g e = comes_at js (entered_at j.task) u p job g.1 e

before_next : (js : List Job) (t : State) (q : ℕ) (job : Job) → slice_get js q ≡ Some job → before_at js t (suc q) ≡ entered_at job.task
unfolding before_at
before_next [] t q job e = absurd cc
before_next (j ∷ js) t zero job e = let z : j ≡ job = cc in ap (λ (x : Job). entered_at x.task) z
before_next (j ∷ js) t (suc q) job e = before_next js (entered_at j.task) q job e

at_zero : (js : List Job) (t : State) → before_at js t 0 ≡ t
unfolding before_at
at_zero js t = refl

pub comes_from : (steps runs : ℕ) (script : Script) (p : ℕ) (job : Job) (g : SlaveStage) → slice_get (jobs steps runs script) p ≡ Some job → StandsAt (jobs steps runs script) p g → ComesFrom job.task g.entered
comes_from steps runs script p job g e h = let P : State → Type 0 = λ t. ComesFrom job.task t in subst P (by h) (comes_at js Alive Alive p job (jobs_go steps runs script) e)
  where
    js : List Job
    js = jobs steps runs script

    by : StandsAt js p g → before_at js Alive p ≡ g.entered
    by (inl k) = ap (before_at js Alive) k.0 ∙ at_zero js Alive ∙ sym (ap (λ (x : SlaveStage). x.entered) k.1)
    by (inr k) =
        let q : p ≡ suc k.before = k.next ∙ omega arith in
        ap (before_at js Alive) q ∙ before_next js Alive k.before k.job k.job_at ∙ sym k.passed.0

-- ---- a list, and then the preparation
abbrev pub preparation : Job
preparation = record { task = tasks.Prepare; list = [] }

abbrev IsFollowed : Job → List Job → Type 0
IsFollowed j js = is_by_list j.task ≡ true → (rest : List Job) × (js ≡ preparation ∷ rest)

abbrev ListsPrepare : List Job → Type 0
ListsPrepare [] = Unit {0}
ListsPrepare (j ∷ js) = IsFollowed j js × ListsPrepare js

abbrev ArePlain : List Job → Type 0
ArePlain [] = Unit {0}
ArePlain (j ∷ js) = (is_by_list j.task ≡ false) × ArePlain js

plain_append : (xs ys : List Job) → ArePlain xs → ArePlain ys → ArePlain (xs ++ ys)
plain_append [] ys p q = q
plain_append (x ∷ xs) ys p q = (p.0, plain_append xs ys p.1 q)

plain_steps : (steps r a n : ℕ) → ArePlain (flat_map (step_jobs steps r) (range_with_len a n))
plain_steps steps r a zero = tt
plain_steps steps r a (suc n) = (refl, (refl, plain_steps steps r (a + 1) n))

plain_run : (steps r : ℕ) → ArePlain (run_jobs steps r)
plain_run steps r = (refl, (refl, (refl, (refl, (refl, plain_append (flat_map (step_jobs steps r) (range_with_len 1 steps)) (record { task = tasks.Stop; list = [] } ∷ []) (plain_steps steps r 1 steps) (refl, tt))))))

plain_followed : (j : Job) (js : List Job) → is_by_list j.task ≡ false → IsFollowed j js
plain_followed j js e h = let z : false ≡ true = sym e ∙ h in absurd cc

plain_prepare : (xs ys : List Job) → ArePlain xs → ListsPrepare ys → ListsPrepare (xs ++ ys)
plain_prepare [] ys p h = h
plain_prepare (x ∷ xs) ys p h = (plain_followed x (xs ++ ys) p.0, plain_prepare xs ys p.1 h)

begins_prepared : (steps : ℕ) (script : Script) (r more : ℕ) → (rest : List Job) × (jobs_from steps script r more ≡ preparation ∷ rest)
begins_prepared steps script r zero = (_, refl)
begins_prepared steps script r (suc more) = (_, refl)

from_prepare : (steps : ℕ) (script : Script) (r more : ℕ) → ListsPrepare (jobs_from steps script r more)
from_prepare steps script r zero = plain_prepare (run_jobs steps r) _ (plain_run steps r) (plain_followed (record { task = tasks.Deregister; list = [] }) [] refl, tt)
from_prepare steps script r (suc more) = plain_prepare (run_jobs steps r) _ (plain_run steps r) (plain_followed (record { task = tasks.Reset; list = [] }) _ refl, (λ h. begins_prepared steps script (r + 1) more, from_prepare steps script (r + 1) more))

followed_at : (js : List Job) (p : ℕ) (job : Job) → ListsPrepare js → slice_get js p ≡ Some job → is_by_list job.task ≡ true → slice_get js (suc p) ≡ Some preparation
followed_at [] p job h e l = absurd cc
followed_at (j ∷ js) zero job h e l =
    let z : j ≡ job = cc in
    let k = h.0 (ap (λ (x : Job). is_by_list x.task) z ∙ l) in
    ap (λ (x : List Job). slice_get x 0) k.1
followed_at (j ∷ js) (suc p) job h e l = followed_at js p job h.1 e l

pub then_prepared : (steps runs : ℕ) (script : Script) (p : ℕ) (job : Job) → slice_get (jobs steps runs script) p ≡ Some job → is_by_list job.task ≡ true → slice_get (jobs steps runs script) (suc p) ≡ Some preparation
then_prepared steps runs script p job e l =
    followed_at (jobs steps runs script) p job (plain_followed (record { task = tasks.Register script.uuid; list = [] }) _ refl, (λ h. begins_prepared steps script 1 (runs - 1), from_prepare steps script 1 (runs - 1))) e l
