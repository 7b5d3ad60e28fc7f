-- Where a conversation stands in its phase, and how many turns it has left at most until nothing keeps the phase from its end.
use Rattle.std.proofs.Common.{◌≡◌, ℕ, ◌+◌, ◌*◌, ◌<◌, ◌≤◌, Bool, true, false, Some, None, List, length}
use Rattle.std.specs.Prelude.{if◌then◌else◌}
use Rattle.dcp_types.specs.declared.limits.Limits.{Limits}
use Rattle.dcp_types.specs.declared.states.State.{State}
use Rattle.pdu_layout.specs.declared.messages.Stc.{Stc}
use Rattle.pdu_layout.specs.declared.messages.Cfg.{Cfg}
use Rattle.master_spec.specs.declared.causes.Cause.{Cause}
use Rattle.master_spec.specs.declared.requests.Request.TheVariants.{Change, Configure, AskState, AskError}
use Rattle.master_spec.specs.declared.requests.Answer.TheVariants.{Nack}
use Rattle.master_spec.specs.declared.requests.Latest.{Latest}
use Rattle.master_spec.specs.declared.requests.Latest.TheVariants as latests
use Rattle.master_spec.specs.declared.reactions.Awaited.{Awaited}
use Rattle.master_spec.specs.declared.reactions.Awaited.TheVariants.{TheAnswer, TheState, TheOutputs, TheOthers}
use Rattle.master_spec.specs.Tasks.{is_by_list, target_of}
use Rattle.master_spec.specs.Jobs.{Job}
use Rattle.master_spec.specs.Marks.{Mark, count, since, before, turns_since, is_asked, is_again, is_sending, is_answer, acks_change, latest, settings_answered, refusals, is_passed, job_of, cause_of}
use Rattle.master_spec.specs.Conversation.{awaited_after}
use Rattle.master_log_laws.proofs.Bound.Budgets.{patience, attempt, last_question, settling, closing}

-- The newest request is open: so many times it was sent again, each time when the limit had passed.
pub record Open (l : Limits) (marks : List Mark) : Type 0 where
  pub whole : turns_since is_asked marks ≡ count is_again (since is_asked marks) * l.turn_limit + turns_since is_sending marks
  pub soon : turns_since is_sending marks < l.turn_limit
  pub few : count is_again (since is_asked marks) < l.tries

-- what is waited for, by the newest exchange and whether the task is done
abbrev pub awaited_if : Job → Latest → (passed : Bool) → Awaited
awaited_if job latests.Nothing passed = TheOthers
awaited_if job (latests.Asked request) passed = TheAnswer
awaited_if job (latests.Answered request answer) passed = awaited_after (target_of job.task) request answer passed

-- a configuration of the list is open
pub record Listing (l : Limits) (job : Job) (n : ℕ) (marks : List Mark) : Type 0 where
  pub body : Cfg
  pub latest_is : latest marks ≡ latests.Asked (Configure body)
  pub opened : Open l marks
  pub by_list : is_by_list job.task ≡ true
  pub short : settings_answered marks < length job.list
  pub room : length job.list * patience l + closing l ≤ n + settings_answered marks * patience l + turns_since is_asked marks

-- the task's one request is open
pub record Changing (l : Limits) (job : Job) (n : ℕ) (marks : List Mark) : Type 0 where
  pub state : State
  pub body : Stc
  pub latest_is : latest marks ≡ latests.Asked (Change state body)
  pub opened : Open l marks
  pub by_one : is_by_list job.task ≡ false
  pub short : refusals marks < l.step_tries
  pub room : l.step_tries * attempt l + settling l + closing l ≤ n + refusals marks * attempt l + turns_since is_asked marks

-- it was refused for want of inputs
pub record Refused (l : Limits) (job : Job) (n : ℕ) (marks : List Mark) : Type 0 where
  pub state : State
  pub body : Stc
  pub code : ℕ
  pub latest_is : latest marks ≡ latests.Answered (Change state body) (Nack code)
  pub soon : turns_since is_answer marks < l.retry_turns
  pub by_one : is_by_list job.task ≡ false
  pub short : refusals marks < l.step_tries
  pub room : l.step_tries * attempt l + l.retry_turns + settling l + closing l ≤ n + refusals marks * attempt l + turns_since is_answer marks

-- it was acknowledged, and the state is not asked for
pub record Waiting (l : Limits) (job : Job) (n : ℕ) (marks : List Mark) : Type 0 where
  pub awaits : (passed : Bool) → awaited_if job (latest marks) passed ≡ (if passed then TheOthers else TheState)
  pub soon : turns_since is_answer marks < l.watch_turns
  pub since_ack : turns_since acks_change marks ≤ l.state_limit + patience l + turns_since is_answer marks
  pub room : settling l + closing l ≤ n + turns_since acks_change marks

-- the question for the state is open
pub record Asking (l : Limits) (job : Job) (n : ℕ) (marks : List Mark) : Type 0 where
  pub latest_is : latest marks ≡ latests.Asked AskState
  pub opened : Open l marks
  pub since_ack : turns_since acks_change marks ≤ turns_since acks_change (before is_asked marks) + turns_since is_asked marks
  pub begun : turns_since acks_change (before is_asked marks) ≤ last_question l
  pub room : settling l + closing l ≤ n + turns_since acks_change marks

-- the question for the fault is open
pub record Erring (l : Limits) (job : Job) (n : ℕ) (marks : List Mark) : Type 0 where
  pub latest_is : latest marks ≡ latests.Asked AskError
  pub opened : Open l marks
  pub room : patience l + closing l ≤ n + turns_since is_asked marks

-- the target is reached, and the outputs have to come
pub record Bringing (l : Limits) (job : Job) (n : ℕ) (marks : List Mark) : Type 0 where
  pub awaits : (passed : Bool) → awaited_if job (latest marks) passed ≡ (if passed then TheOthers else TheOutputs)
  pub soon : turns_since is_answer marks < l.data_turns
  pub room : l.data_turns + closing l ≤ n + turns_since is_answer marks

-- the task is done, and nothing is open
pub record Resting (job : Job) (marks : List Mark) : Type 0 where
  pub passed : is_passed job marks ≡ true
  pub awaits : awaited_if job (latest marks) true ≡ TheOthers

-- the task is done, and a sign of life is asked for
pub record Beating (l : Limits) (job : Job) (n : ℕ) (marks : List Mark) : Type 0 where
  pub passed : is_passed job marks ≡ true
  pub latest_is : latest marks ≡ latests.Asked AskState
  pub opened : Open l marks
  pub room : patience l + patience l ≤ n + turns_since is_asked marks

-- the task was done, and then the fault is asked for
pub record Failing (l : Limits) (job : Job) (n : ℕ) (marks : List Mark) : Type 0 where
  pub passed : is_passed job marks ≡ true
  pub latest_is : latest marks ≡ latests.Asked AskError
  pub opened : Open l marks
  pub room : patience l ≤ n + turns_since is_asked marks

-- one of these, with at most n turns left
pub data Place (l : Limits) (job : Job) (n : ℕ) (marks : List Mark) : Type 0 where
  listing : Listing l job n marks → Place l job n marks
  changing : Changing l job n marks → Place l job n marks
  refused : Refused l job n marks → Place l job n marks
  waiting : Waiting l job n marks → Place l job n marks
  asking : Asking l job n marks → Place l job n marks
  erring : Erring l job n marks → Place l job n marks
  bringing : Bringing l job n marks → Place l job n marks
  resting : Resting job marks → Place l job n marks
  beating : Beating l job n marks → Place l job n marks
  failing : Failing l job n marks → Place l job n marks

-- a conversation in a phase: it has ended, or stands at a place of its job
pub data Stay (l : Limits) (n : ℕ) (marks : List Mark) : Type 0 where
  over : (cause : Cause) → cause_of marks ≡ Some cause → Stay l n marks
  going : (job : Job) → job_of marks ≡ Some job → cause_of marks ≡ None → Place l job n marks → Stay l n marks

-- the job of a conversation that has not ended
pub record Live (job : Job) (marks : List Mark) : Type 0 where
  pub job_is : job_of marks ≡ Some job
  pub no_cause : cause_of marks ≡ None
