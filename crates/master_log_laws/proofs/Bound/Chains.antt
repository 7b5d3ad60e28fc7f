-- Each state request of a session names the last target before it.
use Rattle.std.proofs.Common.{◌≡◌, ℕ, zero, suc, ◌+◌, ◌-◌, Some, List, [], ◌∷◌, ◌++◌, map, take, refl, sym, subst}
use Rattle.std.specs.Prelude.{All, slice_get}
use Rattle.std.specs.List.{AllByRecursion, flat_map, range_with_len}
use Rattle.std.proofs.lemmas.List.Elements.{All-from_recursion}
use Rattle.dcp_types.specs.declared.states.State.{State}
use Rattle.dcp_types.specs.declared.states.State.TheVariants as states
use Rattle.pdu_layout.specs.declared.messages.Cfg.{Cfg}
use Rattle.master_spec.specs.declared.setups.Script.{Script}
use Rattle.master_spec.specs.declared.tasks.Task.TheVariants as tasks
use Rattle.master_spec.specs.declared.requests.Request.TheVariants.{Configure}
use Rattle.master_spec.specs.Tasks.{target_of}
use Rattle.master_spec.specs.Jobs.{Job, asked_by, step_jobs, run_jobs, between_jobs, jobs_from, jobs}
use Rattle.master_log_laws.specs.Bound.Naming.{target_or, last_target, NamesState}

-- the requests of each job name the last target before it, from this state on
abbrev Chain : State → List Job → Type 0
Chain state [] = Unit {0}
Chain state (job ∷ js) = AllByRecursion (λ r. NamesState state r) (asked_by job) × Chain (target_or state (target_of job.task)) js

chain_append : (state : State) (js ks : List Job) → Chain state js → Chain (last_target state js) ks → Chain state (js ++ ks)
chain_append state [] ks a b = b
chain_append state (job ∷ js) ks a b = (a.0, chain_append (target_or state (target_of job.task)) js ks a.1 b)

target_append : (state : State) (js ks : List Job) → last_target state (js ++ ks) ≡ last_target (last_target state js) ks
target_append state [] ks = refl
target_append state (job ∷ js) ks = target_append (target_or state (target_of job.task)) js ks

-- configurations name no state
none_named : (state : State) (list : List Cfg) → AllByRecursion (λ r. NamesState state r) (map Configure list)
none_named state [] = tt
none_named state (body ∷ list) = (tt, none_named state list)

chain_steps : (steps r a n : ℕ) → Chain states.Running (flat_map (step_jobs steps r) (range_with_len a n))
chain_steps steps r a zero = tt
chain_steps steps r a (suc n) = ((refl, tt), ((refl, tt), chain_steps steps r (a + 1) n))

target_steps : (steps r a n : ℕ) → last_target states.Running (flat_map (step_jobs steps r) (range_with_len a n)) ≡ states.Running
target_steps steps r a zero = refl
target_steps steps r a (suc n) = target_steps steps r (a + 1) n

chain_run : (steps r : ℕ) → Chain states.Configuration (run_jobs steps r)
chain_run steps r =
    let js = flat_map (step_jobs steps r) (range_with_len 1 steps) in
    let ks : List Job = record { task = tasks.Stop; list = [] } ∷ [] in
    let last : Chain (last_target states.Running js) ks = subst (λ (s : State). Chain s ks) (sym (target_steps steps r 1 steps)) ((refl, tt), tt) in
    ((refl, tt), ((refl, tt), ((refl, tt), ((refl, tt), ((refl, tt), chain_append states.Running js ks (chain_steps steps r 1 steps) last)))))

target_run : (steps r : ℕ) → last_target states.Configuration (run_jobs steps r) ≡ states.Stopped
target_run steps r = target_append states.Running (flat_map (step_jobs steps r) (range_with_len 1 steps)) (record { task = tasks.Stop; list = [] } ∷ [])

chain_from : (steps : ℕ) (script : Script) (r more : ℕ) → Chain states.Configuration (jobs_from steps script r more)
chain_from steps script r zero =
    let ks : List Job = record { task = tasks.Deregister; list = [] } ∷ [] in
    chain_append states.Configuration (run_jobs steps r) ks (chain_run steps r) (subst (λ (s : State). Chain s ks) (sym (target_run steps r)) ((refl, tt), tt))
chain_from steps script r (suc more) =
    let ks : List Job = between_jobs script r ++ jobs_from steps script (r + 1) more in
    chain_append states.Configuration (run_jobs steps r) ks (chain_run steps r)
    (subst (λ (s : State). Chain s ks) (sym (target_run steps r)) ((refl, tt), (none_named states.Configuration _, chain_from steps script (r + 1) more)))

chain_all : (steps runs : ℕ) (script : Script) → Chain states.Alive (jobs steps runs script)
chain_all steps runs script = ((refl, tt), (none_named states.Configuration script.setup, chain_from steps script 1 (runs - 1)))

chain_at : (state : State) (js : List Job) (p : ℕ) (job : Job) → Chain state js → slice_get js p ≡ Some job → AllByRecursion (λ r. NamesState (last_target state (take p js)) r) (asked_by job)
chain_at state [] p job a e = absurd (cc)
chain_at state (first ∷ js) zero job a e = let s : first ≡ job = cc in subst (λ (j : Job). AllByRecursion (λ r. NamesState state r) (asked_by j)) s a.0
chain_at state (first ∷ js) (suc p) job a e = chain_at (target_or state (target_of first.task)) js p job a.1 e

pub last_named : (steps runs : ℕ) (script : Script) (p : ℕ) (job : Job) → slice_get (jobs steps runs script) p ≡ Some job → All (λ r. NamesState (last_target states.Alive (take p (jobs steps runs script))) r) (asked_by job)
last_named steps runs script p job e =
    All-from_recursion (λ r. NamesState (last_target states.Alive (take p (jobs steps runs script))) r) (asked_by job) (chain_at states.Alive (jobs steps runs script) p job (chain_all steps runs script) e)
