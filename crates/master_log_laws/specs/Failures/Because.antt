-- Why the master gives up, read off what came last.
use Rattle.std.specs.Prelude.{◌≡◌, ℕ, Some, ◌&&◌, not, nat_le, Bool, true, false, if◌then◌else◌, List}
use Rattle.dcp_types.specs.declared.limits.Limits.{Limits}
use Rattle.master_spec.specs.declared.tasks.Task.{Task}
use Rattle.master_spec.specs.declared.causes.Cause.{Cause}
use Rattle.master_spec.specs.declared.causes.Cause.TheVariants as causes
use Rattle.master_spec.specs.declared.requests.Request.{Request}
use Rattle.master_spec.specs.declared.requests.Request.TheVariants.{Change, Configure, AskState, AskError}
use Rattle.master_spec.specs.declared.requests.Answer.{Answer}
use Rattle.master_spec.specs.declared.requests.Answer.TheVariants.{Ack, Nack, StateAck, ErrorAck, LogAck}
use Rattle.master_spec.specs.Tasks.{asks_step, target_of, passing_of, task_step}
use Rattle.master_spec.specs.Jobs.{Job}
use Rattle.master_spec.specs.News.{type_in_answer, state_in_answer}
use Rattle.master_spec.specs.Marks.{Mark, Begun, Asked, Again, Answered, Hinted, Brought, Turned, Ended, newest_number, open_request, is_missing, refusals, is_reached, turns_since, is_sending, is_answer, sendings}
use Rattle.master_spec.specs.declared.reactions.Awaited.TheVariants.{TheOutputs}
use Rattle.master_spec.specs.Conversation.{is_error, is_state, is_late, awaited}
use Rattle.master_spec.specs.Shown.{fits_change, fits_error}

-- the answer fits the request, where the target has been named or not
abbrev pub fits_state_mark : Task → (reached : Bool) → Answer → Bool
fits_state_mark task reached (Nack code) = true
fits_state_mark task reached (StateAck state) =
    if is_error state then true else if is_state (target_of task) state then true else (is_state (passing_of task) state && not reached)
fits_state_mark task reached Ack = false
fits_state_mark task reached (ErrorAck code) = false
fits_state_mark task reached LogAck = false

abbrev pub fits_mark : Task → (reached : Bool) → Request → Answer → Bool
fits_mark task reached (Change state body) answer = fits_change answer
fits_mark task reached (Configure body) answer = fits_change answer
fits_mark task reached AskError answer = fits_error answer
fits_mark task reached AskState answer = fits_state_mark task reached answer

pub record MissesAnswer (limits : Limits) (job : Job) (request : Request) (answer : Answer) (marks : List Mark) (q k : ℕ) : Type 0 where
  pub code : ℕ
  pub nack : answer ≡ Nack code
  pub step : (is_missing code && asks_step request) ≡ true
  pub tries : nat_le limits.step_tries (refusals marks) ≡ true
  pub step_is : task_step job.task ≡ k
  pub number : newest_number marks ≡ q

pub record StuckBy (limits : Limits) (job : Job) (request : Request) (answer : Answer) (older marks : List Mark) (q t : ℕ) : Type 0 where
  pub asked : request ≡ AskState
  pub told : answer ≡ StateAck t
  pub passing : is_state (passing_of job.task) t ≡ true
  pub late : is_late limits marks ≡ true
  pub number : newest_number marks ≡ q

-- by an answer; marks are all, the answer included, and older those before it
abbrev pub Because : Limits → Job → Request → Answer → (older marks : List Mark) → Cause → Type 0
Because limits job request answer older marks (causes.NoAnswer q) = ⊥
Because limits job request answer older marks (causes.DataMissing k) = ⊥
Because limits job request answer older marks (causes.Refused q c) = (newest_number marks ≡ q) × ((answer ≡ Nack c) × ((is_missing c && asks_step request) ≡ false))
Because limits job request answer older marks (causes.InputsMissing q k) = MissesAnswer limits job request answer marks q k
Because limits job request answer older marks (causes.Stuck q t) = StuckBy limits job request answer older marks q t
Because limits job request answer older marks (causes.Faulted q c) = (newest_number marks ≡ q) × ((request ≡ AskError) × (answer ≡ ErrorAck c))
Because limits job request answer older marks (causes.Unexpected q y t) =
    (newest_number marks ≡ q) × ((type_in_answer answer ≡ y) × ((state_in_answer answer ≡ t) × (fits_mark job.task (is_reached job.task older) request answer ≡ false)))

-- by a turn
abbrev pub BecauseOfTurn : Limits → Job → (marks : List Mark) → Cause → Type 0
BecauseOfTurn limits job marks (causes.NoAnswer q) = (newest_number marks ≡ q) × ((nat_le limits.turn_limit (turns_since is_sending marks) ≡ true) × ((nat_le limits.tries (sendings marks) ≡ true) × ((r : Request) × (open_request marks ≡ Some r))))
BecauseOfTurn limits job marks (causes.DataMissing k) = (task_step job.task ≡ k) × ((nat_le limits.data_turns (turns_since is_answer marks) ≡ true) × (awaited job marks ≡ TheOutputs))
BecauseOfTurn limits job marks (causes.Refused q c) = ⊥
BecauseOfTurn limits job marks (causes.InputsMissing q k) = ⊥
BecauseOfTurn limits job marks (causes.Stuck q t) = ⊥
BecauseOfTurn limits job marks (causes.Faulted q c) = ⊥
BecauseOfTurn limits job marks (causes.Unexpected q y t) = ⊥

abbrev pub BecauseOf : Limits → Job → Mark → (older marks : List Mark) → Cause → Type 0
BecauseOf limits job (Answered request answer) older marks cause = Because limits job request answer older marks cause
BecauseOf limits job (Turned settled) older marks cause = BecauseOfTurn limits job marks cause
BecauseOf limits job (Begun j) older marks cause = ⊥
BecauseOf limits job (Asked request) older marks cause = ⊥
BecauseOf limits job Again older marks cause = ⊥
BecauseOf limits job Hinted older marks cause = ⊥
BecauseOf limits job (Brought number payload) older marks cause = ⊥
BecauseOf limits job (Ended c) older marks cause = ⊥
