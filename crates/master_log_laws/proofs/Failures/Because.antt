-- Each cause has its reason in what came last.
use Rattle.std.proofs.Common.{◌≡◌, ℕ, Bool, true, false, if◌then◌else◌, Option, Some, None, List, [], ◌∷◌, refl, ap, ◌∙◌, subst}
use Rattle.std.specs.Prelude.{◌&&◌, ◌||◌, not, nat_le, slice_get}
use Rattle.dcp_types.specs.declared.limits.Limits.{Limits}
use Rattle.pdu_layout.specs.declared.messages.Cfg.{Cfg}
use Rattle.master_spec.specs.declared.causes.Cause.{Cause}
use Rattle.master_spec.specs.declared.causes.Cause.TheVariants as causes
use Rattle.master_spec.specs.declared.requests.Request.{Request}
use Rattle.master_spec.specs.declared.requests.Request.TheVariants.{Change, Configure, AskState, AskError}
use Rattle.master_spec.specs.declared.requests.Answer.{Answer}
use Rattle.master_spec.specs.declared.requests.Answer.TheVariants.{Ack, Nack, StateAck, ErrorAck, LogAck}
use Rattle.master_spec.specs.declared.reactions.Reaction.TheVariants.{Wait, Ask, Repeat, GiveUp}
use Rattle.master_spec.specs.declared.reactions.Awaited.{Awaited}
use Rattle.master_spec.specs.declared.reactions.Awaited.TheVariants.{TheAnswer, TheState, TheInputs, TheOutputs, TheOthers}
use Rattle.master_spec.specs.Tasks.{is_by_end, is_at_once, asks_step, target_of, passing_of, task_step}
use Rattle.master_spec.specs.Jobs.{Job, asked_by}
use Rattle.master_spec.specs.News.{type_in_answer, state_in_answer}
use Rattle.master_spec.specs.Marks.{Mark, Begun, Asked, Again, Answered, Hinted, Brought, Turned, Ended, newest_number, open_request, latest, job_of, conversation_ended, turns_since, is_sending, is_answer, sendings, is_hinted, is_missing, refusals, settings_answered, is_reached}
use Rattle.master_spec.specs.Conversation.{is_state, is_error, is_late, first_of, configuration_at, on_nack, on_acknowledged, on_state, on_answer, awaited, on_turn, on_hint, on_mark, reaction_in, reaction, unexpected}
use Rattle.master_log_laws.proofs.Index.Events.{answer_open}
use Rattle.master_log_laws.specs.Failures.Because.{fits_mark, Because, BecauseOfTurn, BecauseOf}

it_is : (P : Cause → Type 0) (c cause : Cause) → P c → GiveUp c ≡ GiveUp cause → P cause
it_is P c cause p h = let z : c ≡ cause = cc in subst P z p

by_nack : (limits : Limits) (job : Job) (request : Request) (code : ℕ) (older marks : List Mark) (cause : Cause) → on_nack limits job request code marks ≡ GiveUp cause → Because limits job request (Nack code) older marks cause
by_nack limits job request code older marks cause h = by (is_missing code && asks_step request) (nat_le limits.step_tries (refusals marks)) refl refl h
  where
    by : (a b : Bool) → (is_missing code && asks_step request) ≡ a → nat_le limits.step_tries (refusals marks) ≡ b
        → (if a then (if b then GiveUp (causes.InputsMissing (newest_number marks) (task_step job.task)) else Wait) else GiveUp (causes.Refused (newest_number marks) code)) ≡ GiveUp cause → Because limits job request (Nack code) older marks cause
    by true true p q z = it_is (λ c. Because limits job request (Nack code) older marks c) (causes.InputsMissing (newest_number marks) (task_step job.task)) cause (record { code = code; nack = refl; step = p; tries = q; step_is = refl; number = refl }) z
    by true false p q z = absurd cc
    by false b p q z = it_is (λ c. Because limits job request (Nack code) older marks c) (causes.Refused (newest_number marks) code) cause (refl, (refl, p)) z

by_state : (limits : Limits) (job : Job) (state : ℕ) (older marks : List Mark) (cause : Cause) → on_state limits job state older marks ≡ GiveUp cause → Because limits job AskState (StateAck state) older marks cause
by_state limits job state older marks cause h =
    by (is_error state) (is_state (target_of job.task) state) (is_state (passing_of job.task) state) (not (is_reached job.task older)) (is_late limits marks) (is_hinted marks) refl refl refl refl refl h
  where
    first : (a b : Bool) → (a && b) ≡ true → a ≡ true
    first true b z = refl
    first false b z = absurd cc

    by : (a b c d e f : Bool) → is_error state ≡ a → is_state (target_of job.task) state ≡ b → is_state (passing_of job.task) state ≡ c → not (is_reached job.task older) ≡ d → is_late limits marks ≡ e
        → (if a then Ask AskError else if b then Wait else if c && d then (if e then GiveUp (causes.Stuck (newest_number marks) state) else if f then Ask AskState else Wait) else unexpected (StateAck state) marks) ≡ GiveUp cause
        → Because limits job AskState (StateAck state) older marks cause
    by true b c d e f p q r s t z = absurd cc
    by false true c d e f p q r s t z = absurd cc
    by false false true true true f p q r s t z = it_is (λ k. Because limits job AskState (StateAck state) older marks k) (causes.Stuck (newest_number marks) state) cause (record { asked = refl; told = refl; passing = r; late = t; number = refl }) z
    by false false true true false true p q r s t z = absurd cc
    by false false true true false false p q r s t z = absurd cc
    by false false true false e f p q r s t z = it_is (λ k. Because limits job AskState (StateAck state) older marks k) (causes.Unexpected (newest_number marks) 178 state) cause (refl, (refl, (refl, unfit p q r s))) z
      where
        unfit : is_error state ≡ false → is_state (target_of job.task) state ≡ false → is_state (passing_of job.task) state ≡ true → not (is_reached job.task older) ≡ false → fits_mark job.task (is_reached job.task older) AskState (StateAck state) ≡ false
        unfit p q r s = ap (λ x. if x then true else if is_state (target_of job.task) state then true else (is_state (passing_of job.task) state && not (is_reached job.task older))) p
            ∙ ap (λ x. if x then true else (is_state (passing_of job.task) state && not (is_reached job.task older))) q ∙ ap (λ x. x && not (is_reached job.task older)) r ∙ s
    by false false false d e f p q r s t z = it_is (λ k. Because limits job AskState (StateAck state) older marks k) (causes.Unexpected (newest_number marks) 178 state) cause (refl, (refl, (refl, unfit p q r))) z
      where
        unfit : is_error state ≡ false → is_state (target_of job.task) state ≡ false → is_state (passing_of job.task) state ≡ false → fits_mark job.task (is_reached job.task older) AskState (StateAck state) ≡ false
        unfit p q r = ap (λ x. if x then true else if is_state (target_of job.task) state then true else (is_state (passing_of job.task) state && not (is_reached job.task older))) p
            ∙ ap (λ x. if x then true else (is_state (passing_of job.task) state && not (is_reached job.task older))) q ∙ ap (λ x. x && not (is_reached job.task older)) r

by_acknowledged : (job : Job) (marks : List Mark) (cause : Cause) → on_acknowledged job marks ≡ GiveUp cause → ⊥
by_acknowledged job marks cause h = by (is_by_end job.task) (is_at_once job.task) (is_hinted marks) h
  where
    by : (a b c : Bool) → (if a then Wait else if b then Ask AskState else if c then Ask AskState else Wait) ≡ GiveUp cause → ⊥
    by true b c z = cc
    by false true c z = cc
    by false false true z = cc
    by false false false z = cc

by_list : (o : Option Cfg) (cause : Cause) → configuration_at o ≡ GiveUp cause → ⊥
by_list None cause h = cc
by_list (Some body) cause h = cc

by_unexpected : (limits : Limits) (job : Job) (request : Request) (answer : Answer) (older marks : List Mark) (cause : Cause) → fits_mark job.task (is_reached job.task older) request answer ≡ false
    → unexpected answer marks ≡ GiveUp cause → Because limits job request answer older marks cause
by_unexpected limits job request answer older marks cause f h = it_is (λ k. Because limits job request answer older marks k) (causes.Unexpected (newest_number marks) (type_in_answer answer) (state_in_answer answer)) cause (refl, (refl, (refl, f))) h

by_answer : (limits : Limits) (job : Job) (request : Request) (answer : Answer) (older marks : List Mark) (cause : Cause) → on_answer limits job request answer older marks ≡ GiveUp cause → Because limits job request answer older marks cause
by_answer limits job request (Nack code) older marks cause h = by_nack limits job request code older marks cause h
by_answer limits job (Configure body) Ack older marks cause h = absurd (by_list (slice_get job.list (settings_answered marks)) cause h)
by_answer limits job (Change s body) Ack older marks cause h = absurd (by_acknowledged job marks cause h)
by_answer limits job AskState (StateAck s) older marks cause h = by_state limits job s older marks cause h
by_answer limits job AskError (ErrorAck code) older marks cause h = it_is (λ k. Because limits job AskError (ErrorAck code) older marks k) (causes.Faulted (newest_number marks) code) cause (refl, (refl, refl)) h
by_answer limits job (Configure body) (StateAck s) older marks cause h = by_unexpected limits job (Configure body) (StateAck s) older marks cause refl h
by_answer limits job (Configure body) (ErrorAck code) older marks cause h = by_unexpected limits job (Configure body) (ErrorAck code) older marks cause refl h
by_answer limits job (Configure body) LogAck older marks cause h = by_unexpected limits job (Configure body) LogAck older marks cause refl h
by_answer limits job (Change t body) (StateAck s) older marks cause h = by_unexpected limits job (Change t body) (StateAck s) older marks cause refl h
by_answer limits job (Change t body) (ErrorAck code) older marks cause h = by_unexpected limits job (Change t body) (ErrorAck code) older marks cause refl h
by_answer limits job (Change t body) LogAck older marks cause h = by_unexpected limits job (Change t body) LogAck older marks cause refl h
by_answer limits job AskState Ack older marks cause h = by_unexpected limits job AskState Ack older marks cause refl h
by_answer limits job AskState (ErrorAck code) older marks cause h = by_unexpected limits job AskState (ErrorAck code) older marks cause refl h
by_answer limits job AskState LogAck older marks cause h = by_unexpected limits job AskState LogAck older marks cause refl h
by_answer limits job AskError Ack older marks cause h = by_unexpected limits job AskError Ack older marks cause refl h
by_answer limits job AskError (StateAck s) older marks cause h = by_unexpected limits job AskError (StateAck s) older marks cause refl h
by_answer limits job AskError LogAck older marks cause h = by_unexpected limits job AskError LogAck older marks cause refl h

by_turn : (limits : Limits) (job : Job) (a : Awaited) (settled : Bool) (marks : List Mark) (cause : Cause) → awaited job marks ≡ a → (a ≡ TheAnswer → (r : Request) × (open_request marks ≡ Some r)) → on_turn limits job a settled marks ≡ GiveUp cause → BecauseOfTurn limits job marks cause
by_turn limits job TheAnswer settled marks cause q o h = by (nat_le limits.turn_limit (turns_since is_sending marks)) (nat_le limits.tries (sendings marks)) refl refl h
  where
    by : (b c : Bool) → nat_le limits.turn_limit (turns_since is_sending marks) ≡ b → nat_le limits.tries (sendings marks) ≡ c → (if b then (if c then GiveUp (causes.NoAnswer (newest_number marks)) else Repeat) else Wait) ≡ GiveUp cause → BecauseOfTurn limits job marks cause
    by true true p y e = it_is (λ k. BecauseOfTurn limits job marks k) (causes.NoAnswer (newest_number marks)) cause (refl, (p, (y, o refl))) e
    by true false p q e = absurd cc
    by false c p q e = absurd cc
by_turn limits job TheState settled marks cause q o h = by (nat_le limits.watch_turns (turns_since is_answer marks)) h
  where
    by : (b : Bool) → (if b then Ask AskState else Wait) ≡ GiveUp cause → BecauseOfTurn limits job marks cause
    by true z = absurd cc
    by false z = absurd cc
by_turn limits job (TheInputs request) settled marks cause q o h = by (nat_le limits.retry_turns (turns_since is_answer marks)) h
  where
    by : (b : Bool) → (if b then Ask request else Wait) ≡ GiveUp cause → BecauseOfTurn limits job marks cause
    by true z = absurd cc
    by false z = absurd cc
by_turn limits job TheOutputs settled marks cause q o h = by (nat_le limits.data_turns (turns_since is_answer marks)) refl h
  where
    by : (b : Bool) → nat_le limits.data_turns (turns_since is_answer marks) ≡ b → (if b then GiveUp (causes.DataMissing (task_step job.task)) else Wait) ≡ GiveUp cause → BecauseOfTurn limits job marks cause
    by true p z = it_is (λ k. BecauseOfTurn limits job marks k) (causes.DataMissing (task_step job.task)) cause (refl, (p, q)) z
    by false p z = absurd cc
by_turn limits job TheOthers settled marks cause q o h = by (is_by_end job.task || settled) (nat_le limits.watch_turns (turns_since is_answer marks)) h
  where
    by : (a b : Bool) → (if a then Wait else if b then Ask AskState else Wait) ≡ GiveUp cause → BecauseOfTurn limits job marks cause
    by true b z = absurd cc
    by false true z = absurd cc
    by false false z = absurd cc

by_first : (rs : List Request) (cause : Cause) → first_of rs ≡ GiveUp cause → ⊥
by_first [] cause h = cc
by_first (r ∷ rs) cause h = cc

by_hint : (a : Awaited) (cause : Cause) → on_hint a ≡ GiveUp cause → ⊥
by_hint TheAnswer cause h = cc
by_hint TheState cause h = cc
by_hint (TheInputs r) cause h = cc
by_hint TheOutputs cause h = cc
by_hint TheOthers cause h = cc

by_mark : (limits : Limits) (job : Job) (m : Mark) (older : List Mark) (cause : Cause) → on_mark limits job m older (m ∷ older) ≡ GiveUp cause → BecauseOf limits job m older (m ∷ older) cause
by_mark limits job (Begun j) older cause h = by_first (asked_by j) cause h
by_mark limits job (Answered r a) older cause h = by_answer limits job r a older (Answered r a ∷ older) cause h
by_mark limits job Hinted older cause h = by_hint (awaited job (Hinted ∷ older)) cause h
by_mark limits job (Turned settled) older cause h = by_turn limits job (awaited job (Turned settled ∷ older)) settled (Turned settled ∷ older) cause refl (λ z. answer_open job (latest older) (Turned settled ∷ older) z) h
by_mark limits job (Asked r) older cause h = cc
by_mark limits job Again older cause h = cc
by_mark limits job (Brought n p) older cause h = cc
by_mark limits job (Ended c) older cause h = cc

by_job : (limits : Limits) (o : Option Job) (m : Mark) (older : List Mark) (cause : Cause) → job_of (m ∷ older) ≡ o → reaction_in limits o m older (m ∷ older) ≡ GiveUp cause
    → (job : Job) × ((job_of (m ∷ older) ≡ Some job) × BecauseOf limits job m older (m ∷ older) cause)
by_job limits None m older cause e h = absurd cc
by_job limits (Some job) m older cause e h = by (conversation_ended older) h
  where
    by : (b : Bool) → (if b then Wait else on_mark limits job m older (m ∷ older)) ≡ GiveUp cause → (job : Job) × ((job_of (m ∷ older) ≡ Some job) × BecauseOf limits job m older (m ∷ older) cause)
    by true z = absurd cc
    by false z = (job, (e, by_mark limits job m older cause z))

-- whatever the cause, its reason came last
pub because : (limits : Limits) (m : Mark) (older : List Mark) (cause : Cause) → reaction limits m older ≡ GiveUp cause
    → (job : Job) × ((job_of (m ∷ older) ≡ Some job) × BecauseOf limits job m older (m ∷ older) cause)
unfolding reaction
because limits m older cause h = by_job limits (job_of (m ∷ older)) m older cause refl h
