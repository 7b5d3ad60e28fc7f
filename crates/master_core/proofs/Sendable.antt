-- What follows from a mark can be sent.
use Rattle.std.proofs.Common.{◌≡◌, ℕ, zero, suc, ◌+◌, ◌%◌, ◌<◌, Bool, true, false, Option, Some, None, List, [], ◌∷◌, ◌++◌, map, refl, sym, ap, subst, ◌∙◌, arith, ◌==◌, ◌&&◌, ◌||◌, length}
use Rattle.std.specs.Prelude.{if◌then◌else◌, slice_get, nat_le, not}
use Rattle.std.specs.List.{flat_map, AllByRecursion}
use Rattle.dcp_types.specs.declared.addresses.Address.{Address}
use Rattle.dcp_types.specs.declared.limits.Limits.{Limits}
use Rattle.dcp_types.specs.declared.states.State.{State}
use Rattle.dcp_types.specs.Values.{digits}
use Rattle.pdu_layout.specs.declared.fields.FieldKind.TheVariants.{U8, U16}
use Rattle.pdu_layout.specs.declared.messages.Cfg.{Cfg}
use Rattle.master_spec.specs.declared.causes.Cause.TheVariants as causes
use Rattle.master_spec.specs.declared.requests.Request.{Request}
use Rattle.master_spec.specs.declared.requests.Request.TheVariants.{Change, Configure, AskState, AskError}
use Rattle.master_spec.specs.declared.requests.Answer.{Answer}
use Rattle.master_spec.specs.declared.requests.Answer.TheVariants.{Ack, Nack, StateAck, ErrorAck, LogAck}
use Rattle.master_spec.specs.declared.requests.Latest.{Latest}
use Rattle.master_spec.specs.declared.requests.Latest.TheVariants as latests
use Rattle.master_spec.specs.declared.reactions.Reaction.{Reaction}
use Rattle.master_spec.specs.declared.reactions.Reaction.TheVariants.{Wait, Ask, Repeat, GiveUp}
use Rattle.master_spec.specs.declared.reactions.Awaited.{Awaited}
use Rattle.master_spec.specs.declared.reactions.Awaited.TheVariants.{TheAnswer, TheState, TheInputs, TheOutputs, TheOthers}
use Rattle.master_spec.specs.Jobs.{Job, asked_by}
use Rattle.master_spec.specs.News.{News, Answers, Hints, Brings, Nothing, request_bytes}
use Rattle.master_spec.specs.Marks.{Mark, Begun, Asked, Again, Answered, Hinted, Brought, Turned, Ended, job_of, latest, open_in, open_request, asked, newest_number, settings_answered, is_passed, conversation_ended, is_missing, refusals, is_hinted, is_reached, is_sending, is_answer, turns_since, sendings}
use Rattle.master_spec.specs.Conversation.{reaction, reaction_in, on_mark, on_answer, on_nack, on_missing, on_acknowledged, await_state, on_state, on_other_state, on_passing, on_turn, on_hint, first_of, configuration_at, awaited, awaited_by, awaited_after, messages_of, again_bytes, if_open, unexpected, is_error, is_state, is_late}
use Rattle.master_spec.specs.Tasks.{target_of, passing_of, asks_step, task_step, is_by_end, is_at_once}
use Rattle.master_spec.specs.Course.{mark_for, send_to, payload_size}
use Rattle.master_spec.specs.declared.setups.Slave.{Slave}
use Rattle.master_spec.specs.Askable.{IsSpelled}
use Rattle.conversation.specs.Standing.{CanSend}
use Rattle.conversation.proofs.Spelling.{spelled_is}
use Rattle.master_spec.specs.Askable.{IsAskable, AreAskable, IsLatestAskable, IsJobAskable, IsPresentAskable}
use Rattle.master_core.specs.Sends.{sends_to}

-- what a reaction sends has a spelling under every number
abbrev pub Sendable : List Mark → Reaction → Type 0
Sendable marks Wait = Unit {0}
Sendable marks (Ask request) = IsAskable request
Sendable marks Repeat = (request : Request) × (open_request marks ≡ Some request) × IsAskable request
Sendable marks (GiveUp cause) = Unit {0}

either : (marks : List Mark) (b : Bool) (x y : Reaction) → Sendable marks x → Sendable marks y → Sendable marks (if b then x else y)
either marks true x y p q = p
either marks false x y p q = q

ask_state : IsAskable AskState
unfolding digits
ask_state number id hn hi = (_, record { kinds = U16 ∷ U8 ∷ []; listed = refl; fits = (hn, (hi, tt)); bytes = refl; at_most = omega arith })

ask_error : IsAskable AskError
unfolding digits
ask_error number id hn hi = (_, record { kinds = U16 ∷ U8 ∷ []; listed = refl; fits = (hn, (hi, tt)); bytes = refl; at_most = omega arith })

-- ---- answers

nack_sends : (limits : Limits) (job : Job) (request : Request) (code : ℕ) (marks : List Mark) → Sendable marks (on_nack limits job request code marks)
nack_sends limits job request code marks =
    either marks (is_missing code && asks_step request) (on_missing limits job marks) (GiveUp (causes.Refused (newest_number marks) code))
    (either marks (nat_le limits.step_tries (refusals marks)) (GiveUp (causes.InputsMissing (newest_number marks) (task_step job.task))) Wait tt tt) tt

await_sends : (marks : List Mark) → Sendable marks (await_state marks)
await_sends marks = either marks (is_hinted marks) (Ask AskState) Wait ask_state tt

listed : (marks : List Mark) (list : List Cfg) (i : ℕ) → AreAskable list → Sendable marks (configuration_at (slice_get list i))
listed marks [] zero a = tt
listed marks [] (suc i) a = tt
listed marks (body ∷ list) zero a = a.0
listed marks (body ∷ list) (suc i) a = listed marks list i a.1

acknowledged_sends : (job : Job) (marks : List Mark) → Sendable marks (on_acknowledged job marks)
acknowledged_sends job marks =
    either marks (is_by_end job.task) Wait (if is_at_once job.task then Ask AskState else await_state marks) tt
    (either marks (is_at_once job.task) (Ask AskState) (await_state marks) ask_state (await_sends marks))

state_sends : (limits : Limits) (job : Job) (state : ℕ) (older marks : List Mark) → Sendable marks (on_state limits job state older marks)
state_sends limits job state older marks =
    either marks (is_error state) (Ask AskError) (if is_state (target_of job.task) state then Wait else on_other_state limits job state older marks) ask_error
    (either marks (is_state (target_of job.task) state) Wait (on_other_state limits job state older marks) tt
    (either marks (is_state (passing_of job.task) state && not (is_reached job.task older)) (on_passing limits state marks) (unexpected (StateAck state) marks)
    (either marks (is_late limits marks) (GiveUp (causes.Stuck (newest_number marks) state)) (await_state marks) tt (await_sends marks)) tt))

answer_sends : (limits : Limits) (job : Job) (request : Request) (answer : Answer) (older marks : List Mark) → IsJobAskable job → Sendable marks (on_answer limits job request answer older marks)
answer_sends limits job (Change state body) (Nack code) older marks j = nack_sends limits job (Change state body) code marks
answer_sends limits job (Configure body) (Nack code) older marks j = nack_sends limits job (Configure body) code marks
answer_sends limits job AskState (Nack code) older marks j = nack_sends limits job AskState code marks
answer_sends limits job AskError (Nack code) older marks j = nack_sends limits job AskError code marks
answer_sends limits job (Configure body) Ack older marks j = listed marks job.list (settings_answered marks) j.list
answer_sends limits job (Change state body) Ack older marks j = acknowledged_sends job marks
answer_sends limits job AskState Ack older marks j = tt
answer_sends limits job AskError Ack older marks j = tt
answer_sends limits job AskState (StateAck state) older marks j = state_sends limits job state older marks
answer_sends limits job (Change named body) (StateAck state) older marks j = tt
answer_sends limits job (Configure body) (StateAck state) older marks j = tt
answer_sends limits job AskError (StateAck state) older marks j = tt
answer_sends limits job AskError (ErrorAck code) older marks j = tt
answer_sends limits job (Change state body) (ErrorAck code) older marks j = tt
answer_sends limits job (Configure body) (ErrorAck code) older marks j = tt
answer_sends limits job AskState (ErrorAck code) older marks j = tt
answer_sends limits job (Change state body) LogAck older marks j = tt
answer_sends limits job (Configure body) LogAck older marks j = tt
answer_sends limits job AskState LogAck older marks j = tt
answer_sends limits job AskError LogAck older marks j = tt

-- ---- turns and hints

abbrev Awaits : List Mark → Awaited → Type 0
Awaits marks TheAnswer = (request : Request) × (open_request marks ≡ Some request) × IsAskable request
Awaits marks TheState = Unit {0}
Awaits marks (TheInputs request) = IsAskable request
Awaits marks TheOutputs = Unit {0}
Awaits marks TheOthers = Unit {0}

one_of : (marks : List Mark) (b : Bool) (x y : Awaited) → Awaits marks x → Awaits marks y → Awaits marks (if b then x else y)
one_of marks true x y p q = p
one_of marks false x y p q = q

awaits_after : (marks : List Mark) (target : Option State) (request : Request) (answer : Answer) (passed : Bool) → IsAskable request → Awaits marks (awaited_after target request answer passed)
awaits_after marks target (Change state body) Ack passed h = one_of marks passed TheOthers TheState tt tt
awaits_after marks target (Change state body) (Nack code) passed h = h
awaits_after marks target (Change state body) (StateAck s) passed h = tt
awaits_after marks target (Change state body) (ErrorAck code) passed h = tt
awaits_after marks target (Change state body) LogAck passed h = tt
awaits_after marks target AskState (StateAck state) passed h =
    one_of marks passed TheOthers (if is_state target state then TheOutputs else TheState) tt (one_of marks (is_state target state) TheOutputs TheState tt tt)
awaits_after marks target AskState Ack passed h = tt
awaits_after marks target AskState (Nack code) passed h = tt
awaits_after marks target AskState (ErrorAck code) passed h = tt
awaits_after marks target AskState LogAck passed h = tt
awaits_after marks target (Configure body) Ack passed h = tt
awaits_after marks target (Configure body) (Nack code) passed h = tt
awaits_after marks target (Configure body) (StateAck state) passed h = tt
awaits_after marks target (Configure body) (ErrorAck code) passed h = tt
awaits_after marks target (Configure body) LogAck passed h = tt
awaits_after marks target AskError Ack passed h = tt
awaits_after marks target AskError (Nack code) passed h = tt
awaits_after marks target AskError (StateAck state) passed h = tt
awaits_after marks target AskError (ErrorAck code) passed h = tt
awaits_after marks target AskError LogAck passed h = tt

awaits_by : (job : Job) (marks : List Mark) (l : Latest) → latest marks ≡ l → IsLatestAskable l → Awaits marks (awaited_by job l marks)
awaits_by job marks latests.Nothing e h = tt
awaits_by job marks (latests.Asked request) e h = (request, ap open_in e, h)
awaits_by job marks (latests.Answered request answer) e h = awaits_after marks (target_of job.task) request answer (is_passed job marks) h

turn_by : (limits : Limits) (job : Job) (a : Awaited) (settled : Bool) (marks : List Mark) → Awaits marks a → Sendable marks (on_turn limits job a settled marks)
turn_by limits job TheAnswer settled marks w =
    either marks (nat_le limits.turn_limit (turns_since is_sending marks)) (if nat_le limits.tries (sendings marks) then GiveUp (causes.NoAnswer (newest_number marks)) else Repeat) Wait
    (either marks (nat_le limits.tries (sendings marks)) (GiveUp (causes.NoAnswer (newest_number marks))) Repeat tt w) tt
turn_by limits job TheState settled marks w = either marks (nat_le limits.watch_turns (turns_since is_answer marks)) (Ask AskState) Wait ask_state tt
turn_by limits job (TheInputs request) settled marks w = either marks (nat_le limits.retry_turns (turns_since is_answer marks)) (Ask request) Wait w tt
turn_by limits job TheOutputs settled marks w = either marks (nat_le limits.data_turns (turns_since is_answer marks)) (GiveUp (causes.DataMissing (task_step job.task))) Wait tt tt
turn_by limits job TheOthers settled marks w =
    either marks (is_by_end job.task || settled) Wait (if nat_le limits.watch_turns (turns_since is_answer marks) then Ask AskState else Wait) tt
    (either marks (nat_le limits.watch_turns (turns_since is_answer marks)) (Ask AskState) Wait ask_state tt)

hint_by : (marks : List Mark) (a : Awaited) → Sendable marks (on_hint a)
hint_by marks TheAnswer = tt
hint_by marks TheState = ask_state
hint_by marks (TheInputs request) = tt
hint_by marks TheOutputs = tt
hint_by marks TheOthers = tt

-- ---- every mark

-- what a mark brings can be asked
abbrev pub IsFine : Mark → Type 0
IsFine (Begun job) = IsJobAskable job
IsFine (Asked request) = Unit {0}
IsFine Again = Unit {0}
IsFine (Answered request answer) = IsAskable request
IsFine Hinted = Unit {0}
IsFine (Brought number payload) = Unit {0}
IsFine (Turned settled) = Unit {0}
IsFine (Ended cause) = Unit {0}

first_sends : (marks : List Mark) (requests : List Request) → AllByRecursion (λ request. IsAskable request) requests → Sendable marks (first_of requests)
first_sends marks [] a = tt
first_sends marks (request ∷ requests) a = a.0

mark_sends : (limits : Limits) (job : Job) (m : Mark) (older : List Mark) → IsJobAskable job → IsFine m → IsLatestAskable (latest older) → Sendable (m ∷ older) (on_mark limits job m older (m ∷ older))
mark_sends limits job (Begun j) older h fine l = first_sends (Begun j ∷ older) (asked_by j) fine.requests
mark_sends limits job (Asked request) older h fine l = tt
mark_sends limits job Again older h fine l = tt
mark_sends limits job (Answered request answer) older h fine l = answer_sends limits job request answer older (Answered request answer ∷ older) h
mark_sends limits job Hinted older h fine l = hint_by (Hinted ∷ older) (awaited job (Hinted ∷ older))
mark_sends limits job (Brought number payload) older h fine l = tt
mark_sends limits job (Turned settled) older h fine l =
    turn_by limits job (awaited job (Turned settled ∷ older)) settled (Turned settled ∷ older) (awaits_by job (Turned settled ∷ older) (latest older) refl l)
mark_sends limits job (Ended cause) older h fine l = tt

in_sends : (limits : Limits) (o : Option Job) (m : Mark) (older : List Mark) → IsPresentAskable o → IsFine m → IsLatestAskable (latest older) → Sendable (m ∷ older) (reaction_in limits o m older (m ∷ older))
in_sends limits None m older p fine l = tt
in_sends limits (Some job) m older p fine l = either (m ∷ older) (conversation_ended older) Wait (on_mark limits job m older (m ∷ older)) tt (mark_sends limits job m older p fine l)

pub sendable : (limits : Limits) (m : Mark) (older : List Mark) → IsPresentAskable (job_of (m ∷ older)) → IsFine m → IsLatestAskable (latest older) → Sendable (m ∷ older) (reaction limits m older)
unfolding reaction
sendable limits m older p fine l = in_sends limits (job_of (m ∷ older)) m older p fine l

below : (n : ℕ) → n % 65536 < 65536
below n = omega arith

pub can_send : (id : ℕ) (marks : List Mark) (r : Reaction) → id < 256 → Sendable marks r → CanSend id marks r
can_send id marks Wait h s = tt
can_send id marks (Ask request) h s = s (asked marks % 65536) id (below (asked marks)) h
can_send id marks Repeat h s = (s.0, s.1, s.2 (newest_number marks) id (below (asked marks + 65535)) h)
can_send id marks (GiveUp cause) h s = tt

-- ---- what is sent has bytes

sent_whole : (to : Address) (number id : ℕ) (request : Request) → IsSpelled number id request → sends_to to (request_bytes number id request) ++ [] ≡ send_to to (request_bytes number id request) ∷ []
unfolding request_bytes
sent_whole to number id request s =
    let e = sym s.1.bytes ∙ spelled_is _ _ s.1 in
    subst (λ (b : List ℕ). sends_to to b ++ [] ≡ send_to to b ∷ []) e refl

again_whole : (to : Address) (number id : ℕ) (o : Option Request) (request : Request) → o ≡ Some request → IsSpelled number id request → flat_map (sends_to to) (again_bytes number id o) ≡ map (send_to to) (again_bytes number id o)
again_whole to number id o request e s =
    subst (λ (o : Option Request). flat_map (sends_to to) (again_bytes number id o) ≡ map (send_to to) (again_bytes number id o)) (sym e) (sent_whole to number id request s)

pub all_sent : (to : Address) (id : ℕ) (marks : List Mark) (r : Reaction) → CanSend id marks r → flat_map (sends_to to) (messages_of id marks r) ≡ map (send_to to) (messages_of id marks r)
all_sent to id marks Wait c = refl
all_sent to id marks (Ask request) c = sent_whole to (asked marks % 65536) id request c
all_sent to id marks Repeat c = again_whole to (newest_number marks) id (open_request marks) c.0 c.1 c.2
all_sent to id marks (GiveUp cause) c = refl

-- ---- the mark of a datagram

-- no phase begins with it, and what it brings can be asked
abbrev pub IsHeard : Mark → Type 0
IsHeard (Begun job) = ⊥
IsHeard (Asked request) = IsAskable request
IsHeard Again = Unit {0}
IsHeard (Answered request answer) = IsAskable request
IsHeard Hinted = Unit {0}
IsHeard (Brought number payload) = Unit {0}
IsHeard (Turned settled) = Unit {0}
IsHeard (Ended cause) = Unit {0}

pub heard_fine : (m : Mark) → IsHeard m → IsFine m
heard_fine (Begun job) h = absurd h
heard_fine (Asked request) h = tt
heard_fine Again h = tt
heard_fine (Answered request answer) h = h
heard_fine Hinted h = tt
heard_fine (Brought number payload) h = tt
heard_fine (Turned settled) h = tt
heard_fine (Ended cause) h = tt

pub heard_job : (m : Mark) (marks : List Mark) → IsHeard m → job_of (m ∷ marks) ≡ job_of marks
heard_job (Begun job) marks h = absurd h
heard_job (Asked request) marks h = refl
heard_job Again marks h = refl
heard_job (Answered request answer) marks h = refl
heard_job Hinted marks h = refl
heard_job (Brought number payload) marks h = refl
heard_job (Turned settled) marks h = refl
heard_job (Ended cause) marks h = refl

abbrev pub OnMark : (Mark → Type 0) → Option Mark → Type 0
OnMark P None = Unit {0}
OnMark P (Some m) = P m

on_if : (P : Mark → Type 0) (b : Bool) (m : Mark) → P m → OnMark P (if b then Some m else None)
on_if P true m p = p
on_if P false m p = tt

open_heard : (b : Bool) (l : Latest) (number wanted : ℕ) (answer : Answer) → IsLatestAskable l → OnMark IsHeard (if b then if_open (open_in l) number wanted answer else None)
open_heard false l number wanted answer h = tt
open_heard true latests.Nothing number wanted answer h = tt
open_heard true (latests.Asked request) number wanted answer h = on_if IsHeard (number == wanted) (Answered request answer) h
open_heard true (latests.Answered request old) number wanted answer h = tt

pub mark_heard : (slave : Slave) (marks : List Mark) (news : News) → IsLatestAskable (latest marks) → OnMark IsHeard (mark_for slave marks news)
mark_heard slave marks (Answers number sender answer) h = open_heard (sender == slave.id) (latest marks) number (newest_number marks) answer h
mark_heard slave marks (Hints sender) h = on_if IsHeard (sender == slave.id) Hinted tt
mark_heard slave marks (Brings number id payload) h = on_if IsHeard ((id == slave.id) && (length payload == payload_size slave.types)) (Brought number payload) tt
mark_heard slave marks Nothing h = tt
