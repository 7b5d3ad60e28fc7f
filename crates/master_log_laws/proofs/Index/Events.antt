-- What an event leaves to be sent, and what a send leaves.
use Rattle.std.proofs.Common.{◌≡◌, ℕ, Bool, true, false, if◌then◌else◌, Option, Some, None, List, [], ◌∷◌, refl, sym, ap, subst}
use Rattle.std.specs.Prelude.{◌&&◌, ◌||◌, not, is_some, nat_le, slice_get}
use Rattle.dcp_types.specs.declared.limits.Limits.{Limits}
use Rattle.dcp_types.specs.declared.states.State.{State}
use Rattle.pdu_layout.specs.declared.messages.Cfg.{Cfg}
use Rattle.master_spec.specs.declared.requests.Request.{Request}
use Rattle.master_spec.specs.declared.requests.Request.TheVariants.{Change, Configure, AskState, AskError}
use Rattle.master_spec.specs.declared.requests.Answer.{Answer}
use Rattle.master_spec.specs.declared.requests.Answer.TheVariants.{Ack, Nack, StateAck, ErrorAck, LogAck}
use Rattle.master_spec.specs.declared.requests.Latest.{Latest}
use Rattle.master_spec.specs.declared.requests.Latest.TheVariants as latests
use Rattle.master_spec.specs.declared.reactions.Reaction.TheVariants.{Wait, Ask, Repeat, GiveUp}
use Rattle.master_spec.specs.declared.reactions.Awaited.{Awaited}
use Rattle.master_spec.specs.declared.reactions.Awaited.TheVariants.{TheAnswer, TheState, TheInputs, TheOutputs, TheOthers}
use Rattle.master_spec.specs.declared.causes.Cause.{Cause}
use Rattle.master_spec.specs.declared.causes.Cause.TheVariants as causes
use Rattle.master_spec.specs.Tasks.{is_by_end, is_at_once, asks_step, target_of, passing_of, task_step}
use Rattle.master_spec.specs.Jobs.{Job, asked_by}
use Rattle.master_spec.specs.Marks.{Mark, Begun, Asked, Again, Answered, Hinted, Brought, Turned, Ended, asked, newest_number, open_in, open_request, latest, job_of, conversation_ended, cause_of, turns_since, is_answer, is_hinted, is_missing, refusals, settings_answered, is_passed, is_reached}
use Rattle.master_spec.specs.Conversation.{is_state, is_error, is_late, first_of, configuration_at, on_nack, on_acknowledged, on_state, on_answer, awaited_after_state, awaited_after, awaited_by, awaited, on_turn, on_hint, on_mark, reaction_in, reaction, unexpected}
use Rattle.master_spec.specs.Requests.{Asking, decided_by}
use Rattle.master_log_laws.specs.Asking.Closed.{MayCome}
use Rattle.master_log_laws.specs.Index.Index.{Placed, at, marks_of, again_at, decided_at, askings_told_by, IsHeadRequest, IsHeadOf, Shut}
use Rattle.master_log_laws.proofs.Index.Index.{number_next}

-- ---- the newest request stays told
pub head_came : (n : ℕ) (m : Mark) (marks : List Mark) (bs : List Asking) → MayCome m marks → IsHeadOf marks bs → IsHeadOf (m ∷ marks) (askings_told_by n m marks bs)
head_came n (Begun job) marks bs c h = let P : Option Request → Type 0 = λ z. IsHeadRequest z (newest_number marks) bs in subst P c h
head_came n (Answered r a) marks bs c h = by bs (let P : Option Request → Type 0 = λ z. IsHeadRequest z (newest_number marks) bs in subst P c h)
  where
    by : (bs : List Asking) → IsHeadRequest (Some r) (newest_number marks) bs → IsHeadRequest None (newest_number marks) (decided_at n a bs)
    by [] z = absurd z
    by (b ∷ bs) z = (z.0, ap (λ o. is_some (decided_by o (record { place = n; answer = a }))) (z.1).0)
head_came n Hinted marks bs c h = h
head_came n (Brought number payload) marks bs c h = h
head_came n (Turned settled) marks bs c h = h
head_came n (Asked r) marks bs c h = absurd c
head_came n Again marks bs c h = absurd c
head_came n (Ended cause) marks bs c h = absurd c

pub head_asked : (n : ℕ) (r : Request) (marks : List Mark) (bs : List Asking) → IsHeadOf (Asked r ∷ marks) (askings_told_by n (Asked r) marks bs)
head_asked n r marks bs = (number_next (asked marks), (refl, refl))

pub head_again : (n : ℕ) (r : Request) (marks : List Mark) (bs : List Asking) → open_request marks ≡ Some r → IsHeadOf marks bs → IsHeadOf (Again ∷ marks) (askings_told_by n Again marks bs)
head_again n r marks bs o h = back (by bs (let P : Option Request → Type 0 = λ z. IsHeadRequest z (newest_number marks) bs in subst P o h))
  where
    by : (bs : List Asking) → IsHeadRequest (Some r) (newest_number marks) bs → IsHeadRequest (Some r) (newest_number marks) (again_at n bs)
    by [] z = absurd z
    by (b ∷ bs) z = z

    back : IsHeadRequest (Some r) (newest_number marks) (again_at n bs) → IsHeadRequest (open_request marks) (newest_number marks) (again_at n bs)
    back z = let P : Option Request → Type 0 = λ y. IsHeadRequest y (newest_number marks) (again_at n bs) in subst P (sym o) z

-- ---- only an open request is sent again
abbrev pub IsOpen : List Mark → Type 0
IsOpen marks = (r : Request) × (open_request marks ≡ Some r)

not_again_state : (limits : Limits) (job : Job) (state : ℕ) (older marks : List Mark) → on_state limits job state older marks ≡ Repeat → ⊥
not_again_state limits job state older marks h = by (is_error state) (is_state (target_of job.task) state) (is_state (passing_of job.task) state && not (is_reached job.task older)) (is_late limits marks) (is_hinted marks) h
  where
    by : (a b c d e : Bool) → (if a then Ask AskError else if b then Wait else if c then (if d then GiveUp (causes.Stuck (newest_number marks) state) else if e then Ask AskState else Wait) else unexpected (StateAck state) marks) ≡ Repeat → ⊥
    by true b c d e z = cc
    by false true c d e z = cc
    by false false true true e z = cc
    by false false true false true z = cc
    by false false true false false z = cc
    by false false false d e z = cc

not_again_nack : (limits : Limits) (job : Job) (request : Request) (code : ℕ) (marks : List Mark) → on_nack limits job request code marks ≡ Repeat → ⊥
not_again_nack limits job request code marks h = by (is_missing code && asks_step request) (nat_le limits.step_tries (refusals marks)) h
  where
    by : (a b : Bool) → (if a then (if b then GiveUp (causes.InputsMissing (newest_number marks) (task_step job.task)) else Wait) else GiveUp (causes.Refused (newest_number marks) code)) ≡ Repeat → ⊥
    by true true z = cc
    by true false z = cc
    by false b z = cc

not_again_list : (o : Option Cfg) → configuration_at o ≡ Repeat → ⊥
not_again_list None h = cc
not_again_list (Some body) h = cc

not_again_first : (rs : List Request) → first_of rs ≡ Repeat → ⊥
not_again_first [] h = cc
not_again_first (r ∷ rs) h = cc

not_again_ack : (job : Job) (marks : List Mark) → on_acknowledged job marks ≡ Repeat → ⊥
not_again_ack job marks h = by (is_by_end job.task) (is_at_once job.task) (is_hinted marks) h
  where
    by : (a b c : Bool) → (if a then Wait else if b then Ask AskState else if c then Ask AskState else Wait) ≡ Repeat → ⊥
    by true b c z = cc
    by false true c z = cc
    by false false true z = cc
    by false false false z = cc

not_again_answer : (limits : Limits) (job : Job) (request : Request) (answer : Answer) (older marks : List Mark) → on_answer limits job request answer older marks ≡ Repeat → ⊥
not_again_answer limits job request (Nack code) older marks h = not_again_nack limits job request code marks h
not_again_answer limits job (Configure body) Ack older marks h = not_again_list (slice_get job.list (settings_answered marks)) h
not_again_answer limits job (Change state body) Ack older marks h = not_again_ack job marks h
not_again_answer limits job AskState (StateAck state) older marks h = not_again_state limits job state older marks h
not_again_answer limits job AskError (ErrorAck code) older marks h = cc
not_again_answer limits job (Configure body) (StateAck state) older marks h = cc
not_again_answer limits job (Configure body) (ErrorAck code) older marks h = cc
not_again_answer limits job (Configure body) LogAck older marks h = cc
not_again_answer limits job (Change state body) (StateAck s) older marks h = cc
not_again_answer limits job (Change state body) (ErrorAck code) older marks h = cc
not_again_answer limits job (Change state body) LogAck older marks h = cc
not_again_answer limits job AskState Ack older marks h = cc
not_again_answer limits job AskState (ErrorAck code) older marks h = cc
not_again_answer limits job AskState LogAck older marks h = cc
not_again_answer limits job AskError Ack older marks h = cc
not_again_answer limits job AskError (StateAck s) older marks h = cc
not_again_answer limits job AskError LogAck older marks h = cc

pub again_turn : (limits : Limits) (job : Job) (a : Awaited) (l : Latest) (settled : Bool) (marks : List Mark) → on_turn limits job a settled marks ≡ Repeat → a ≡ TheAnswer
again_turn limits job TheAnswer l settled marks h = refl
again_turn limits job TheState l settled marks h = by (nat_le limits.watch_turns (turns_since is_answer marks)) h
  where
    by : (b : Bool) → (if b then Ask AskState else Wait) ≡ Repeat → TheState ≡ TheAnswer
    by true z = absurd cc
    by false z = absurd cc
again_turn limits job (TheInputs request) l settled marks h = by (nat_le limits.retry_turns (turns_since is_answer marks)) h
  where
    by : (b : Bool) → (if b then Ask request else Wait) ≡ Repeat → TheInputs request ≡ TheAnswer
    by true z = absurd cc
    by false z = absurd cc
again_turn limits job TheOutputs l settled marks h = by (nat_le limits.data_turns (turns_since is_answer marks)) h
  where
    by : (b : Bool) → (if b then GiveUp (causes.DataMissing (task_step job.task)) else Wait) ≡ Repeat → TheOutputs ≡ TheAnswer
    by true z = absurd cc
    by false z = absurd cc
again_turn limits job TheOthers l settled marks h = by (is_by_end job.task || settled) (nat_le limits.watch_turns (turns_since is_answer marks)) h
  where
    by : (a b : Bool) → (if a then Wait else if b then Ask AskState else Wait) ≡ Repeat → TheOthers ≡ TheAnswer
    by true b z = absurd cc
    by false true z = absurd cc
    by false false z = absurd cc

not_answer_state : (target : Option State) (state : ℕ) (passed : Bool) → awaited_after_state target state passed ≡ TheAnswer → ⊥
not_answer_state target state passed h = by passed (is_state target state) h
  where
    by : (a b : Bool) → (if a then TheOthers else if b then TheOutputs else TheState) ≡ TheAnswer → ⊥
    by true b z = cc
    by false true z = cc
    by false false z = cc

not_answer : (target : Option State) (request : Request) (answer : Answer) (passed : Bool) → awaited_after target request answer passed ≡ TheAnswer → ⊥
not_answer target (Change state body) Ack true h = cc
not_answer target (Change state body) Ack false h = cc
not_answer target (Change state body) (Nack code) passed h = cc
not_answer target AskState (StateAck state) passed h = not_answer_state target state passed h
not_answer target (Change state body) (StateAck s) passed h = cc
not_answer target (Change state body) (ErrorAck s) passed h = cc
not_answer target (Change state body) LogAck passed h = cc
not_answer target (Configure body) answer passed h = cc
not_answer target AskState Ack passed h = cc
not_answer target AskState (Nack code) passed h = cc
not_answer target AskState (ErrorAck code) passed h = cc
not_answer target AskState LogAck passed h = cc
not_answer target AskError answer passed h = cc

pub answer_open : (job : Job) (l : Latest) (marks : List Mark) → awaited_by job l marks ≡ TheAnswer → (r : Request) × (open_in l ≡ Some r)
answer_open job latests.Nothing marks h = absurd cc
answer_open job (latests.Asked r) marks h = (r, refl)
answer_open job (latests.Answered r a) marks h = absurd (not_answer (target_of job.task) r a (is_passed job marks) h)

pub hint_again : (a : Awaited) → on_hint a ≡ Repeat → ⊥
hint_again TheAnswer h = cc
hint_again TheState h = cc
hint_again (TheInputs r) h = cc
hint_again TheOutputs h = cc
hint_again TheOthers h = cc

mark_again : (limits : Limits) (job : Job) (m : Mark) (marks : List Mark) → on_mark limits job m marks (m ∷ marks) ≡ Repeat → IsOpen (m ∷ marks)
mark_again limits job (Begun j) marks h = absurd (not_again_first (asked_by j) h)
mark_again limits job (Answered r a) marks h = absurd (not_again_answer limits job r a marks (Answered r a ∷ marks) h)
mark_again limits job Hinted marks h = absurd (hint_again (awaited job (Hinted ∷ marks)) h)
mark_again limits job (Turned settled) marks h =
    answer_open job (latest marks) (Turned settled ∷ marks) (again_turn limits job (awaited job (Turned settled ∷ marks)) (latest marks) settled (Turned settled ∷ marks) h)
mark_again limits job (Asked r) marks h = absurd cc
mark_again limits job Again marks h = absurd cc
mark_again limits job (Brought n p) marks h = absurd cc
mark_again limits job (Ended c) marks h = absurd cc

in_again : (limits : Limits) (o : Option Job) (m : Mark) (marks : List Mark) → reaction_in limits o m marks (m ∷ marks) ≡ Repeat → IsOpen (m ∷ marks)
in_again limits None m marks h = absurd cc
in_again limits (Some job) m marks h = by (conversation_ended marks) h
  where
    by : (b : Bool) → (if b then Wait else on_mark limits job m marks (m ∷ marks)) ≡ Repeat → IsOpen (m ∷ marks)
    by true e = absurd cc
    by false e = mark_again limits job m marks e

pub repeats_open : (limits : Limits) (m : Mark) (marks : List Mark) → reaction limits m marks ≡ Repeat → IsOpen (m ∷ marks)
unfolding reaction
repeats_open limits m marks h = in_again limits (job_of (m ∷ marks)) m marks h

-- ---- who has ended does nothing more
in_going : (limits : Limits) (o : Option Job) (m : Mark) (marks : List Mark) → (reaction_in limits o m marks (m ∷ marks) ≡ Wait → ⊥) → conversation_ended marks ≡ false
in_going limits None m marks h = absurd (h refl)
in_going limits (Some job) m marks h = by (conversation_ended marks) h
  where
    by : (b : Bool) → ((if b then Wait else on_mark limits job m marks (m ∷ marks)) ≡ Wait → ⊥) → b ≡ false
    by true e = absurd (e refl)
    by false e = refl

going : (limits : Limits) (m : Mark) (marks : List Mark) → (reaction limits m marks ≡ Wait → ⊥) → conversation_ended marks ≡ false
unfolding reaction
going limits m marks h = in_going limits (job_of (m ∷ marks)) m marks h

no_cause : (o : Option Cause) → is_some o ≡ false → o ≡ None
no_cause None h = refl
no_cause (Some c) h = absurd cc

pub acts : (limits : Limits) (m : Mark) (marks : List Mark) → (reaction limits m marks ≡ Wait → ⊥) → cause_of marks ≡ None
acts limits m marks h = no_cause (cause_of marks) (going limits m marks h)

pub cause_stays : (m : Mark) (marks : List Mark) → MayCome m marks → cause_of (m ∷ marks) ≡ cause_of marks
cause_stays (Begun job) marks c = refl
cause_stays (Answered r a) marks c = refl
cause_stays Hinted marks c = refl
cause_stays (Brought number payload) marks c = refl
cause_stays (Turned settled) marks c = refl
cause_stays (Asked r) marks c = absurd c
cause_stays Again marks c = absurd c
cause_stays (Ended cause) marks c = absurd c

pub shut_stays : (limits : Limits) (n : ℕ) (m : Mark) (cause : Cause) (xs : List Placed) → MayCome m (marks_of xs) → Shut limits cause xs → Shut limits cause (at n m ∷ xs)
shut_stays limits n (Begun job) cause xs c s = s
shut_stays limits n (Answered r a) cause xs c s = s
shut_stays limits n Hinted cause xs c s = s
shut_stays limits n (Brought number payload) cause xs c s = s
shut_stays limits n (Turned settled) cause xs c s = s
shut_stays limits n (Asked r) cause xs c s = absurd c
shut_stays limits n Again cause xs c s = absurd c
shut_stays limits n (Ended k) cause xs c s = absurd c
