-- What the master was told where it asks, or where it does nothing.
use Rattle.std.proofs.Common.{◌≡◌, ℕ, Bool, true, false, if◌then◌else◌, ◌⊎◌, inl, inr, Option, Some, None, List, [], ◌∷◌, refl, sym, ap, ◌∙◌}
use Rattle.std.specs.Prelude.{◌&&◌, ◌||◌, not, is_some, nat_le}
use Rattle.dcp_types.specs.declared.limits.Limits.{Limits}
use Rattle.pdu_layout.specs.declared.messages.Cfg.{Cfg}
use Rattle.master_spec.specs.declared.causes.Cause.{Cause}
use Rattle.master_spec.specs.declared.causes.Cause.TheVariants as causes
use Rattle.master_spec.specs.declared.requests.Request.{Request}
use Rattle.master_spec.specs.declared.requests.Request.TheVariants.{Configure, AskState, AskError}
use Rattle.master_spec.specs.declared.requests.Answer.TheVariants.{StateAck}
use Rattle.master_spec.specs.declared.reactions.Reaction.TheVariants.{Wait, Ask, Repeat, GiveUp}
use Rattle.master_spec.specs.declared.reactions.Awaited.{Awaited}
use Rattle.master_spec.specs.declared.reactions.Awaited.TheVariants.{TheAnswer, TheState, TheInputs, TheOutputs, TheOthers}
use Rattle.master_spec.specs.Tasks.{is_by_end, is_at_once, asks_step, target_of, passing_of, task_step}
use Rattle.master_spec.specs.Jobs.{Job}
use Rattle.master_spec.specs.Marks.{Mark, newest_number, job_of, cause_of, turns_since, is_sending, is_answer, sendings, is_hinted, is_missing, refusals, is_reached}
use Rattle.master_spec.specs.Conversation.{is_state, is_error, is_late, first_of, configuration_at, on_nack, on_acknowledged, on_state, on_silence, on_turn, on_hint, on_mark, reaction_in, reaction, unexpected}

-- a conversation that has not ended goes by its newest mark
pub reacts : (limits : Limits) (m : Mark) (older : List Mark) (job : Job) → cause_of older ≡ None → job_of (m ∷ older) ≡ Some job → reaction limits m older ≡ on_mark limits job m older (m ∷ older)
unfolding reaction
reacts limits m older job e j =
    ap (λ (o : Option Job). reaction_in limits o m older (m ∷ older)) j
    ∙ ap (λ (x : Option Cause). if is_some x then Wait else on_mark limits job m older (m ∷ older)) e

same_ask : (q r : Request) → Ask q ≡ Ask r → q ≡ r
same_ask q r h = cc

-- ---- the first request
pub first_asks : (rs : List Request) (r : Request) → first_of rs ≡ Ask r → (rest : List Request) × (rs ≡ r ∷ rest)
first_asks [] r h = absurd cc
first_asks (q ∷ rs) r h = (rs, ap (λ (x : Request). x ∷ rs) (same_ask q r h))

pub first_waits : (rs : List Request) → first_of rs ≡ Wait → rs ≡ []
first_waits [] h = refl
first_waits (q ∷ rs) h = absurd cc

-- ---- the next of a list
pub list_asks : (o : Option Cfg) (r : Request) → configuration_at o ≡ Ask r → (body : Cfg) × ((o ≡ Some body) × (r ≡ Configure body))
list_asks None r h = absurd cc
list_asks (Some body) r h = (body, (refl, sym (same_ask (Configure body) r h)))

pub list_waits : (o : Option Cfg) → configuration_at o ≡ Wait → o ≡ None
list_waits None h = refl
list_waits (Some body) h = absurd cc

-- ---- an acknowledgement
pub ack_asks : (job : Job) (marks : List Mark) (r : Request) → on_acknowledged job marks ≡ Ask r → r ≡ AskState
ack_asks job marks r h = by (is_by_end job.task) (is_at_once job.task) (is_hinted marks) h
  where
    by : (a b c : Bool) → (if a then Wait else if b then Ask AskState else if c then Ask AskState else Wait) ≡ Ask r → r ≡ AskState
    by true b c z = absurd cc
    by false true c z = sym (same_ask AskState r z)
    by false false true z = sym (same_ask AskState r z)
    by false false false z = absurd cc

-- ---- a refusal
pub nack_asks : (limits : Limits) (job : Job) (request : Request) (code : ℕ) (marks : List Mark) (r : Request) → on_nack limits job request code marks ≡ Ask r → ⊥
nack_asks limits job request code marks r h = by (is_missing code && asks_step request) (nat_le limits.step_tries (refusals marks)) h
  where
    by : (a b : Bool) → (if a then (if b then GiveUp (causes.InputsMissing (newest_number marks) (task_step job.task)) else Wait) else GiveUp (causes.Refused (newest_number marks) code)) ≡ Ask r → ⊥
    by true true z = cc
    by true false z = cc
    by false b z = cc

pub nack_waits : (limits : Limits) (job : Job) (request : Request) (code : ℕ) (marks : List Mark) → on_nack limits job request code marks ≡ Wait → ((is_missing code && asks_step request) ≡ true) × (nat_le limits.step_tries (refusals marks) ≡ false)
nack_waits limits job request code marks h = by (is_missing code && asks_step request) (nat_le limits.step_tries (refusals marks)) h
  where
    by : (a b : Bool) → (if a then (if b then GiveUp (causes.InputsMissing (newest_number marks) (task_step job.task)) else Wait) else GiveUp (causes.Refused (newest_number marks) code)) ≡ Wait → (a ≡ true) × (b ≡ false)
    by true true z = absurd cc
    by true false z = (refl, refl)
    by false b z = absurd cc

-- ---- a state
pub state_asks : (limits : Limits) (job : Job) (s : ℕ) (older marks : List Mark) (r : Request) → on_state limits job s older marks ≡ Ask r → ((r ≡ AskError) × (is_error s ≡ true)) ⊎ (r ≡ AskState)
state_asks limits job s older marks r h = by (is_error s) (is_state (target_of job.task) s) (is_state (passing_of job.task) s && not (is_reached job.task older)) (is_late limits marks) (is_hinted marks) h
  where
    by : (a b c d e : Bool) → (if a then Ask AskError else if b then Wait else if c then (if d then GiveUp (causes.Stuck (newest_number marks) s) else if e then Ask AskState else Wait) else unexpected (StateAck s) marks) ≡ Ask r → ((r ≡ AskError) × (a ≡ true)) ⊎ (r ≡ AskState)
    by true b c d e z = inl (sym (same_ask AskError r z), refl)
    by false true c d e z = absurd cc
    by false false true true e z = absurd cc
    by false false true false true z = inr (sym (same_ask AskState r z))
    by false false true false false z = absurd cc
    by false false false d e z = absurd cc

abbrev pub IsHomeward : Job → ℕ → List Mark → Type 0
IsHomeward job s older = (is_state (target_of job.task) s ≡ true) ⊎ ((is_state (passing_of job.task) s ≡ true) × ((is_reached job.task older ≡ false) × (is_state (target_of job.task) s ≡ false)))

pub state_waits : (limits : Limits) (job : Job) (s : ℕ) (older marks : List Mark) → on_state limits job s older marks ≡ Wait → IsHomeward job s older
state_waits limits job s older marks h =
    by (is_error s) (is_state (target_of job.task) s) (is_state (passing_of job.task) s) (is_reached job.task older) (is_late limits marks) (is_hinted marks) h
  where
    by : (a b c r d e : Bool) → (if a then Ask AskError else if b then Wait else if c && not r then (if d then GiveUp (causes.Stuck (newest_number marks) s) else if e then Ask AskState else Wait) else unexpected (StateAck s) marks) ≡ Wait
        → (b ≡ true) ⊎ ((c ≡ true) × ((r ≡ false) × (b ≡ false)))
    by true b c r d e z = absurd cc
    by false true c r d e z = inl refl
    by false false true false d e z = inr (refl, (refl, refl))
    by false false true true d e z = absurd cc
    by false false false r d e z = absurd cc

-- ---- a notice, and a turn
pub hint_asks : (a : Awaited) (r : Request) → on_hint a ≡ Ask r → (r ≡ AskState) × (a ≡ TheState)
hint_asks TheState r h = (sym (same_ask AskState r h), refl)
hint_asks TheAnswer r h = absurd cc
hint_asks (TheInputs q) r h = absurd cc
hint_asks TheOutputs r h = absurd cc
hint_asks TheOthers r h = absurd cc

silence_asks : (limits : Limits) (marks : List Mark) (r : Request) → on_silence limits marks ≡ Ask r → ⊥
silence_asks limits marks r h = by (nat_le limits.turn_limit (turns_since is_sending marks)) (nat_le limits.tries (sendings marks)) h
  where
    by : (b c : Bool) → (if b then (if c then GiveUp (causes.NoAnswer (newest_number marks)) else Repeat) else Wait) ≡ Ask r → ⊥
    by true true e = cc
    by true false e = cc
    by false c e = cc

pub turn_asks : (limits : Limits) (job : Job) (a : Awaited) (settled : Bool) (marks : List Mark) (r : Request) → on_turn limits job a settled marks ≡ Ask r → (a ≡ TheInputs r) ⊎ ((r ≡ AskState) × ((a ≡ TheState) ⊎ (a ≡ TheOthers)))
turn_asks limits job TheAnswer settled marks r h = absurd (silence_asks limits marks r h)
turn_asks limits job TheState settled marks r h = by (nat_le limits.watch_turns (turns_since is_answer marks)) h
  where
    by : (b : Bool) → (if b then Ask AskState else Wait) ≡ Ask r → (TheState ≡ TheInputs r) ⊎ ((r ≡ AskState) × ((TheState ≡ TheState) ⊎ (TheState ≡ TheOthers)))
    by true z = inr (sym (same_ask AskState r z), inl refl)
    by false z = absurd cc
turn_asks limits job (TheInputs q) settled marks r h = by (nat_le limits.retry_turns (turns_since is_answer marks)) h
  where
    by : (b : Bool) → (if b then Ask q else Wait) ≡ Ask r → (TheInputs q ≡ TheInputs r) ⊎ ((r ≡ AskState) × ((TheInputs q ≡ TheState) ⊎ (TheInputs q ≡ TheOthers)))
    by true z = inl (ap (λ (x : Request). TheInputs x) (same_ask q r z))
    by false z = absurd cc
turn_asks limits job TheOutputs settled marks r h = by (nat_le limits.data_turns (turns_since is_answer marks)) h
  where
    by : (b : Bool) → (if b then GiveUp (causes.DataMissing (task_step job.task)) else Wait) ≡ Ask r → (TheOutputs ≡ TheInputs r) ⊎ ((r ≡ AskState) × ((TheOutputs ≡ TheState) ⊎ (TheOutputs ≡ TheOthers)))
    by true z = absurd cc
    by false z = absurd cc
turn_asks limits job TheOthers settled marks r h = by (is_by_end job.task || settled) (nat_le limits.watch_turns (turns_since is_answer marks)) h
  where
    by : (b c : Bool) → (if b then Wait else if c then Ask AskState else Wait) ≡ Ask r → (TheOthers ≡ TheInputs r) ⊎ ((r ≡ AskState) × ((TheOthers ≡ TheState) ⊎ (TheOthers ≡ TheOthers)))
    by true c z = absurd cc
    by false true z = inr (sym (same_ask AskState r z), inr refl)
    by false false z = absurd cc
