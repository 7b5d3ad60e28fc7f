-- A phase begins for a conversation: so many turns it has left.
use Rattle.std.proofs.Common.{◌≡◌, ℕ, ◌+◌, ◌*◌, ◌≤◌, true, false, Option, Some, None, List, [], ◌∷◌, map, length, refl, sym, subst, arith}
use Rattle.scenario.specs.Sound.{IsLimits}
use Rattle.dcp_types.specs.declared.limits.Limits.{Limits}
use Rattle.dcp_types.specs.declared.states.State.{State}
use Rattle.pdu_layout.specs.declared.messages.Stc.{Stc}
use Rattle.pdu_layout.specs.declared.messages.Cfg.{Cfg}
use Rattle.master_spec.specs.declared.causes.Cause.{Cause}
use Rattle.master_spec.specs.declared.tasks.Task.{Task}
use Rattle.master_spec.specs.declared.tasks.Task.TheVariants as tasks
use Rattle.master_spec.specs.declared.requests.Request.TheVariants.{Change, Configure}
use Rattle.master_spec.specs.declared.reactions.Reaction.{Reaction}
use Rattle.master_spec.specs.Tasks.{is_by_list, requests_of}
use Rattle.master_spec.specs.Jobs.{Job}
use Rattle.master_spec.specs.Marks.{Mark, Begun, Asked, cause_of}
use Rattle.master_spec.specs.Conversation.{done, marks_after, first_of}
use Rattle.master_log_laws.proofs.Bound.Budgets.{patience, attempt, settling, closing}
use Rattle.master_log_laws.proofs.Bound.Places.{listing, changing, resting, Stay, over, going}
use Rattle.master_log_laws.proofs.Bound.Reactions.{reacts, reacts_ended, passed_list}
use Rattle.master_log_laws.proofs.Bound.Opens.{just_open}

-- the most turns that a phase with a list of this length takes
abbrev pub whole : Limits → ℕ → ℕ
whole l size = size * patience l + l.step_tries * attempt l + settling l + closing l

-- by the task's one request
one_asked : (l : Limits) (n : ℕ) (marks : List Mark) (job : Job) (state : State) (body : Stc) → IsLimits l → cause_of marks ≡ None → is_by_list job.task ≡ false → whole l (length job.list) ≤ n
    → Stay l n (Asked (Change state body) ∷ Begun job ∷ marks)
one_asked l n marks job state body lim none e h =
    let tries = lim.step_tries.0 in
    going job refl none (changing (record {
      state = state;
      body = body;
      latest_is = refl;
      opened = just_open l (Change state body) (Begun job ∷ marks) lim;
      by_one = e;
      short = omega (arith, tries);
      room = omega (arith, h);
    }))

-- by its list
list_asked : (l : Limits) (n : ℕ) (marks : List Mark) (task : Task) (list : List Cfg) → IsLimits l → cause_of marks ≡ None → is_by_list task ≡ true → whole l (length list) ≤ n
    → Stay l n (done (first_of (map Configure list)) (Begun (record { task = task; list = list }) ∷ marks))
list_asked l n marks task [] lim none e h =
    going (record { task = task; list = [] }) refl none (resting (record {
      passed = passed_list (record { task = task; list = [] }) (Begun (record { task = task; list = [] }) ∷ marks) e (omega arith);
      awaits = refl;
    }))
list_asked l n marks task (body ∷ list) lim none e h =
    going (record { task = task; list = body ∷ list }) refl none (listing (record {
      body = body;
      latest_is = refl;
      opened = just_open l (Configure body) (Begun (record { task = task; list = body ∷ list }) ∷ marks) lim;
      by_list = e;
      short = omega arith;
      room = omega (arith, h);
    }))

first_asked : (l : Limits) (n : ℕ) (marks : List Mark) (task : Task) (list : List Cfg) → IsLimits l → cause_of marks ≡ None → whole l (length list) ≤ n
    → Stay l n (done (first_of (requests_of task list)) (Begun (record { task = task; list = list }) ∷ marks))
first_asked l n marks (tasks.Register uuid) list lim none h = one_asked l n marks (record { task = tasks.Register uuid; list = list }) _ _ lim none refl h
first_asked l n marks tasks.Setup list lim none h = list_asked l n marks tasks.Setup list lim none refl h
first_asked l n marks tasks.Prepare list lim none h = one_asked l n marks (record { task = tasks.Prepare; list = list }) _ _ lim none refl h
first_asked l n marks tasks.Configure list lim none h = one_asked l n marks (record { task = tasks.Configure; list = list }) _ _ lim none refl h
first_asked l n marks tasks.Initialize list lim none h = one_asked l n marks (record { task = tasks.Initialize; list = list }) _ _ lim none refl h
first_asked l n marks (tasks.FirstOutputs row) list lim none h = one_asked l n marks (record { task = tasks.FirstOutputs row; list = list }) _ _ lim none refl h
first_asked l n marks tasks.Run list lim none h = one_asked l n marks (record { task = tasks.Run; list = list }) _ _ lim none refl h
first_asked l n marks (tasks.Step k) list lim none h = one_asked l n marks (record { task = tasks.Step k; list = list }) _ _ lim none refl h
first_asked l n marks (tasks.Outputs k row) list lim none h = one_asked l n marks (record { task = tasks.Outputs k row; list = list }) _ _ lim none refl h
first_asked l n marks tasks.Stop list lim none h = one_asked l n marks (record { task = tasks.Stop; list = list }) _ _ lim none refl h
first_asked l n marks tasks.Reset list lim none h = one_asked l n marks (record { task = tasks.Reset; list = list }) _ _ lim none refl h
first_asked l n marks tasks.Adjust list lim none h = list_asked l n marks tasks.Adjust list lim none refl h
first_asked l n marks tasks.Deregister list lim none h = one_asked l n marks (record { task = tasks.Deregister; list = list }) _ _ lim none refl h

-- A phase begins, whatever came before.
pub begins : (l : Limits) (n : ℕ) (marks : List Mark) (job : Job) → IsLimits l → whole l (length job.list) ≤ n → Stay l n (marks_after l (Begun job) marks)
begins l n marks job lim h = by (cause_of marks) refl
  where
    by : (o : Option Cause) → cause_of marks ≡ o → Stay l n (marks_after l (Begun job) marks)
    by (Some cause) e = subst (λ (r : Reaction). Stay l n (done r (Begun job ∷ marks))) (sym (reacts_ended l (Begun job) marks cause e)) (over cause e)
    by None e = subst (λ (r : Reaction). Stay l n (done r (Begun job ∷ marks))) (sym (reacts l (Begun job) marks job e refl)) (first_asked l n marks job.task job.list lim e h)
