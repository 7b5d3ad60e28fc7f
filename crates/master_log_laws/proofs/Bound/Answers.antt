-- An answer takes none of the turns that a conversation has left.
use Rattle.std.proofs.Common.{◌≡◌, ℕ, ◌+◌, ◌*◌, ◌<◌, ◌≤◌, ◌&&◌, not, Bool, true, false, Option, Some, None, List, ◌∷◌, length, refl, ap, subst, arith}
use Rattle.std.specs.Prelude.{if◌then◌else◌, nat_le, slice_get}
use Rattle.std.proofs.lemmas.Bool.{leb-false, cases_lt}
use Rattle.std.proofs.lemmas.Option.{slice_get_within, slice_get-get_or}
use Rattle.std.proofs.Math.ListN.{get_or}
use mathlib.Core.Logic.{◌⊎◌, inl, inr}
use Rattle.scenario.specs.Sound.{IsLimits}
use Rattle.dcp_types.specs.declared.limits.Limits.{Limits}
use Rattle.pdu_layout.specs.declared.messages.Cfg.{Cfg}
use Rattle.master_spec.specs.declared.causes.Cause.TheVariants as causes
use Rattle.master_spec.specs.declared.requests.Request.{Request}
use Rattle.master_spec.specs.declared.requests.Request.TheVariants.{Change, Configure, AskState, AskError}
use Rattle.master_spec.specs.declared.requests.Answer.{Answer}
use Rattle.master_spec.specs.declared.requests.Answer.TheVariants.{Ack, Nack, StateAck, ErrorAck, LogAck}
use Rattle.master_spec.specs.declared.requests.Latest.{Latest}
use Rattle.master_spec.specs.declared.requests.Latest.TheVariants as latests
use Rattle.master_spec.specs.declared.reactions.Awaited.TheVariants.{TheState, TheOutputs, TheOthers}
use Rattle.master_spec.specs.declared.reactions.Reaction.TheVariants.{Wait, Ask, GiveUp}
use Rattle.master_spec.specs.Tasks.{is_by_end, is_at_once, asks_step, task_step, target_of, passing_of}
use Rattle.master_spec.specs.Jobs.{Job}
use Rattle.master_spec.specs.Marks.{Mark, Asked, Answered, turns_since, is_asked, acks_change, is_missing, before, latest, open_in, open_request, settings_answered, refusals, is_hinted, is_reached, is_passed, newest_number}
use Rattle.master_spec.specs.Conversation.{done, on_answer, on_missing, await_state, on_other_state, on_passing, is_late, is_error, is_state, unexpected, configuration_at, awaited_after_state}
use Rattle.master_log_laws.proofs.Bound.Budgets.{patience, attempt, settling, closing, one_more, one_of}
use Rattle.master_log_laws.proofs.Bound.Places.{Listing, Changing, Asking, Beating, Place, listing, changing, refused, waiting, asking, erring, bringing, resting, beating, failing, Stay, over, going, Live}
use Rattle.master_log_laws.proofs.Bound.Reactions.{others_closed, state_closed, outputs_closed, passed_list, passed_end, passed_more, no_passing}
use Rattle.master_log_laws.proofs.Bound.Opens.{just_open, open_below}

-- what an answer makes of a conversation
abbrev Answers : Limits → Job → ℕ → List Mark → Request → Answer → Type 0
Answers l job n marks r a = Stay l n (done (on_answer l job r a marks (Answered r a ∷ marks)) (Answered r a ∷ marks))

-- a refusal, but of a step, ends the conversation
nacked : (l : Limits) (job : Job) (n code : ℕ) (marks : List Mark) (r : Request) (step : Bool) → step ≡ false
    → Stay l n (done (if is_missing code && step then on_missing l job marks else GiveUp (causes.Refused (newest_number marks) code)) marks)
nacked l job n code marks r true e = absurd (cc)
nacked l job n code marks r false e = by (is_missing code)
  where
    by : (b : Bool) → Stay l n (done (if b && false then on_missing l job marks else GiveUp (causes.Refused (newest_number marks) code)) marks)
    by true = over (causes.Refused (newest_number marks) code) refl
    by false = over (causes.Refused (newest_number marks) code) refl

surprised : (l : Limits) (n : ℕ) (a : Answer) (marks : List Mark) → Stay l n (done (unexpected a marks) marks)
surprised l n a marks = over _ refl

-- ---- the list

past : (xs : List Cfg) (i : ℕ) (d : Cfg) → slice_get xs i ≡ None → length xs ≤ i
past xs i d e = by (cases_lt i (length xs))
  where
    by : (i < length xs) ⊎ (length xs ≤ i) → length xs ≤ i
    by (inl h) = let s : slice_get xs i ≡ Some (get_or xs i d) = slice_get-get_or xs i d h in absurd (cc)
    by (inr h) = h

listing_next : (l : Limits) (job : Job) (n : ℕ) (marks : List Mark) → IsLimits l → Live job marks → (p : Listing l job n marks) → (o : Option Cfg) → slice_get job.list (settings_answered marks + 1) ≡ o
    → Stay l n (done (configuration_at o) (Answered (Configure p.body) Ack ∷ marks))
listing_next l job n marks lim live p None e =
    going job live.job_is live.no_cause (resting (record {
      passed = passed_list job (Answered (Configure p.body) Ack ∷ marks) p.by_list (past job.list (settings_answered marks + 1) p.body e);
      awaits = refl;
    }))
listing_next l job n marks lim live p (Some next) e =
    let room = p.room in
    let below = open_below l marks p.opened in
    let more = one_more (settings_answered marks) (patience l) in
    going job live.job_is live.no_cause (listing (record {
      body = next;
      latest_is = refl;
      opened = just_open l (Configure next) (Answered (Configure p.body) Ack ∷ marks) lim;
      by_list = p.by_list;
      short = slice_get_within job.list (settings_answered marks + 1) next e;
      room = omega (arith, room, below, more);
    }))

answer_listing : (l : Limits) (job : Job) (n : ℕ) (marks : List Mark) → IsLimits l → Live job marks → (p : Listing l job n marks) → (a : Answer) → Answers l job n marks (Configure p.body) a
answer_listing l job n marks lim live p Ack = listing_next l job n marks lim live p (slice_get job.list (settings_answered marks + 1)) refl
answer_listing l job n marks lim live p (Nack code) = nacked l job n code (Answered (Configure p.body) (Nack code) ∷ marks) (Configure p.body) false refl
answer_listing l job n marks lim live p (StateAck state) = over _ refl
answer_listing l job n marks lim live p (ErrorAck code) = over _ refl
answer_listing l job n marks lim live p LogAck = over _ refl

-- ---- the one request of a task

pub changing_room : (l : Limits) (job : Job) (n : ℕ) (marks : List Mark) → Changing l job n marks → settling l + closing l ≤ n
changing_room l job n marks p =
    let room = p.room in
    let below = open_below l marks p.opened in
    let one = one_of (refusals marks) l.step_tries (attempt l) p.short in
    omega (arith, room, below, one)

acknowledged : (l : Limits) (job : Job) (n : ℕ) (marks : List Mark) → IsLimits l → Live job marks → (p : Changing l job n marks) → Answers l job n marks (Change p.state p.body) Ack
acknowledged l job n marks lim live p = by_end (is_by_end job.task) refl
  where
    question : Stay l n (Asked AskState ∷ Answered (Change p.state p.body) Ack ∷ marks)
    question =
        let room = changing_room l job n marks p in
        going job live.job_is live.no_cause (asking (record {
          latest_is = refl;
          opened = just_open l AskState (Answered (Change p.state p.body) Ack ∷ marks) lim;
          since_ack = omega arith;
          begun = omega arith;
          room = omega (arith, room);
        }))

    by_hint : (b : Bool) → Stay l n (done (if b then Ask AskState else Wait) (Answered (Change p.state p.body) Ack ∷ marks))
    by_hint true = question
    by_hint false =
        let room = changing_room l job n marks p in
        going job live.job_is live.no_cause (waiting (record {
          awaits = λ passed. refl;
          soon = lim.watch_turns.0;
          since_ack = omega arith;
          room = omega (arith, room);
        }))

    at_once : (b : Bool) → Stay l n (done (if b then Ask AskState else await_state (Answered (Change p.state p.body) Ack ∷ marks)) (Answered (Change p.state p.body) Ack ∷ marks))
    at_once true = question
    at_once false = by_hint (is_hinted (Answered (Change p.state p.body) Ack ∷ marks))

    by_end : (b : Bool) → is_by_end job.task ≡ b → Stay l n (done (if b then Wait else if is_at_once job.task then Ask AskState else await_state (Answered (Change p.state p.body) Ack ∷ marks)) (Answered (Change p.state p.body) Ack ∷ marks))
    by_end true e =
        going job live.job_is live.no_cause (resting (record {
          passed = passed_end job (Answered (Change p.state p.body) Ack ∷ marks) p.by_one e refl;
          awaits = refl;
        }))
    by_end false e = at_once (is_at_once job.task)

refused_step : (l : Limits) (job : Job) (n code : ℕ) (marks : List Mark) → IsLimits l → Live job marks → (p : Changing l job n marks) → Answers l job n marks (Change p.state p.body) (Nack code)
refused_step l job n code marks lim live p = by (is_missing code && asks_step (Change p.state p.body)) refl
  where
    missing : (b : Bool) → nat_le l.step_tries (refusals (Answered (Change p.state p.body) (Nack code) ∷ marks)) ≡ b → refusals (Answered (Change p.state p.body) (Nack code) ∷ marks) ≡ refusals marks + 1
        → Stay l n (done (if b then GiveUp (causes.InputsMissing (newest_number (Answered (Change p.state p.body) (Nack code) ∷ marks)) (task_step job.task)) else Wait) (Answered (Change p.state p.body) (Nack code) ∷ marks))
    missing true e f = over _ refl
    missing false e f =
        let room = p.room in
        let below = open_below l marks p.opened in
        let more = one_more (refusals marks) (attempt l) in
        let same : refusals (Answered (Change p.state p.body) (Nack code) ∷ marks) * attempt l ≡ (refusals marks + 1) * attempt l = ap (λ (x : ℕ). x * attempt l) f in
        going job live.job_is live.no_cause (refused (record {
          state = p.state;
          body = p.body;
          code = code;
          latest_is = refl;
          soon = lim.retry_turns.0;
          by_one = p.by_one;
          short = leb-false l.step_tries (refusals (Answered (Change p.state p.body) (Nack code) ∷ marks)) e;
          room = omega (arith, room, below, more, same);
        }))

    by : (b : Bool) → (is_missing code && asks_step (Change p.state p.body)) ≡ b
        → Stay l n (done (if b then on_missing l job (Answered (Change p.state p.body) (Nack code) ∷ marks) else GiveUp (causes.Refused (newest_number (Answered (Change p.state p.body) (Nack code) ∷ marks)) code)) (Answered (Change p.state p.body) (Nack code) ∷ marks))
    by true e =
        missing (nat_le l.step_tries (refusals (Answered (Change p.state p.body) (Nack code) ∷ marks))) refl
        (ap (λ (b : Bool). if b then refusals marks + 1 else refusals marks) e)
    by false e = over _ refl

answer_changing : (l : Limits) (job : Job) (n : ℕ) (marks : List Mark) → IsLimits l → Live job marks → (p : Changing l job n marks) → (a : Answer) → Answers l job n marks (Change p.state p.body) a
answer_changing l job n marks lim live p Ack = acknowledged l job n marks lim live p
answer_changing l job n marks lim live p (Nack code) = refused_step l job n code marks lim live p
answer_changing l job n marks lim live p (StateAck state) = over _ refl
answer_changing l job n marks lim live p (ErrorAck code) = over _ refl
answer_changing l job n marks lim live p LogAck = over _ refl

-- ---- the question for the state

-- how it goes on, by whether the task is done now
reached : (l : Limits) (job : Job) (n state : ℕ) (marks : List Mark) → IsLimits l → Live job marks → Asking l job n marks → is_state (target_of job.task) state ≡ true → Stay l n (Answered AskState (StateAck state) ∷ marks)
reached l job n state marks lim live p e = by (is_passed job (Answered AskState (StateAck state) ∷ marks)) refl
  where
    awaits : (passed : Bool) → awaited_after_state (target_of job.task) state passed ≡ (if passed then TheOthers else TheOutputs)
    awaits true = refl
    awaits false = ap (λ (b : Bool). if b then TheOutputs else TheState) e

    by : (b : Bool) → is_passed job (Answered AskState (StateAck state) ∷ marks) ≡ b → Stay l n (Answered AskState (StateAck state) ∷ marks)
    by true h = going job live.job_is live.no_cause (resting (record { passed = h; awaits = refl }))
    by false h =
        let room = p.room in
        let below = open_below l marks p.opened in
        let since = p.since_ack in
        let begun = p.begun in
        going job live.job_is live.no_cause (bringing (record {
          awaits = awaits;
          soon = lim.data_turns.0;
          room = omega (arith, room, below, since, begun);
        }))

-- the passing state: the waiting begins again, unless it was asked for too late
passing : (l : Limits) (job : Job) (n state : ℕ) (marks : List Mark) → IsLimits l → Live job marks → Asking l job n marks → is_state (target_of job.task) state ≡ false
    → Stay l n (done (on_passing l state (Answered AskState (StateAck state) ∷ marks)) (Answered AskState (StateAck state) ∷ marks))
passing l job n state marks lim live p e = by (is_late l (Answered AskState (StateAck state) ∷ marks)) refl
  where
    awaits : (passed : Bool) → awaited_after_state (target_of job.task) state passed ≡ (if passed then TheOthers else TheState)
    awaits true = refl
    awaits false = ap (λ (b : Bool). if b then TheOutputs else TheState) e

    again : (b : Bool) → turns_since acks_change (before is_asked marks) < l.state_limit → Stay l n (done (if b then Ask AskState else Wait) (Answered AskState (StateAck state) ∷ marks))
    again true h =
        let room = p.room in
        let below = open_below l marks p.opened in
        let since = p.since_ack in
        going job live.job_is live.no_cause (asking (record {
          latest_is = refl;
          opened = just_open l AskState (Answered AskState (StateAck state) ∷ marks) lim;
          since_ack = omega arith;
          begun = omega (arith, below, since, h);
          room = omega (arith, room);
        }))
    again false h =
        let room = p.room in
        let below = open_below l marks p.opened in
        let since = p.since_ack in
        going job live.job_is live.no_cause (waiting (record {
          awaits = awaits;
          soon = lim.watch_turns.0;
          since_ack = omega (arith, below, since, h);
          room = omega (arith, room);
        }))

    by : (b : Bool) → is_late l (Answered AskState (StateAck state) ∷ marks) ≡ b
        → Stay l n (done (if b then GiveUp (causes.Stuck (newest_number (Answered AskState (StateAck state) ∷ marks)) state) else await_state (Answered AskState (StateAck state) ∷ marks)) (Answered AskState (StateAck state) ∷ marks))
    by true h = over _ refl
    by false h =
        again (is_hinted (Answered AskState (StateAck state) ∷ marks))
        (leb-false l.state_limit (turns_since acks_change (before is_asked marks)) h)

answer_state : (l : Limits) (job : Job) (n state : ℕ) (marks : List Mark) → IsLimits l → Live job marks → Asking l job n marks → Answers l job n marks AskState (StateAck state)
answer_state l job n state marks lim live p = by_error (is_error state)
  where
    by_passing : (b : Bool) → is_state (target_of job.task) state ≡ false
        → Stay l n (done (if b then on_passing l state (Answered AskState (StateAck state) ∷ marks) else unexpected (StateAck state) (Answered AskState (StateAck state) ∷ marks)) (Answered AskState (StateAck state) ∷ marks))
    by_passing true e = passing l job n state marks lim live p e
    by_passing false e = over _ refl

    by_target : (b : Bool) → is_state (target_of job.task) state ≡ b
        → Stay l n (done (if b then Wait else on_other_state l job state marks (Answered AskState (StateAck state) ∷ marks)) (Answered AskState (StateAck state) ∷ marks))
    by_target true e = reached l job n state marks lim live p e
    by_target false e = by_passing (is_state (passing_of job.task) state && not (is_reached job.task marks)) e

    by_error : (b : Bool) → Stay l n (done (if b then Ask AskError else if is_state (target_of job.task) state then Wait else on_other_state l job state marks (Answered AskState (StateAck state) ∷ marks)) (Answered AskState (StateAck state) ∷ marks))
    by_error true =
        let room = p.room in
        let below = open_below l marks p.opened in
        let since = p.since_ack in
        let begun = p.begun in
        going job live.job_is live.no_cause (erring (record {
          latest_is = refl;
          opened = just_open l AskError (Answered AskState (StateAck state) ∷ marks) lim;
          room = omega (arith, room, below, since, begun);
        }))
    by_error false = by_target (is_state (target_of job.task) state) refl

answer_asking : (l : Limits) (job : Job) (n : ℕ) (marks : List Mark) → IsLimits l → Live job marks → Asking l job n marks → (a : Answer) → Answers l job n marks AskState a
answer_asking l job n marks lim live p Ack = over _ refl
answer_asking l job n marks lim live p (Nack code) = nacked l job n code (Answered AskState (Nack code) ∷ marks) AskState false refl
answer_asking l job n marks lim live p (StateAck state) = answer_state l job n state marks lim live p
answer_asking l job n marks lim live p (ErrorAck code) = over _ refl
answer_asking l job n marks lim live p LogAck = over _ refl

-- ---- the question for the fault ends the conversation, whatever comes

answer_fault : (l : Limits) (job : Job) (n : ℕ) (marks : List Mark) (a : Answer) → Answers l job n marks AskError a
answer_fault l job n marks Ack = over _ refl
answer_fault l job n marks (Nack code) = nacked l job n code (Answered AskError (Nack code) ∷ marks) AskError false refl
answer_fault l job n marks (StateAck state) = over _ refl
answer_fault l job n marks (ErrorAck code) = over _ refl
answer_fault l job n marks LogAck = over _ refl

-- ---- a sign of life

beat_state : (l : Limits) (job : Job) (n state : ℕ) (marks : List Mark) → IsLimits l → Live job marks → Beating l job n marks → Answers l job n marks AskState (StateAck state)
beat_state l job n state marks lim live p = by_error (is_error state)
  where
    now : is_passed job (Answered AskState (StateAck state) ∷ marks) ≡ true
    now = passed_more job (Answered AskState (StateAck state)) marks refl p.passed

    by_passing : (b : Bool) → b ≡ false
        → Stay l n (done (if b then on_passing l state (Answered AskState (StateAck state) ∷ marks) else unexpected (StateAck state) (Answered AskState (StateAck state) ∷ marks)) (Answered AskState (StateAck state) ∷ marks))
    by_passing true e = absurd (cc)
    by_passing false e = over _ refl

    by_target : (b : Bool) → Stay l n (done (if b then Wait else on_other_state l job state marks (Answered AskState (StateAck state) ∷ marks)) (Answered AskState (StateAck state) ∷ marks))
    by_target true = going job live.job_is live.no_cause (resting (record { passed = now; awaits = refl }))
    by_target false = by_passing (is_state (passing_of job.task) state && not (is_reached job.task marks)) (no_passing job.task job.list state marks p.passed)

    by_error : (b : Bool) → Stay l n (done (if b then Ask AskError else if is_state (target_of job.task) state then Wait else on_other_state l job state marks (Answered AskState (StateAck state) ∷ marks)) (Answered AskState (StateAck state) ∷ marks))
    by_error true =
        let room = p.room in
        let below = open_below l marks p.opened in
        going job live.job_is live.no_cause (failing (record {
          passed = passed_more job (Asked AskError) (Answered AskState (StateAck state) ∷ marks) refl now;
          latest_is = refl;
          opened = just_open l AskError (Answered AskState (StateAck state) ∷ marks) lim;
          room = omega (arith, room, below);
        }))
    by_error false = by_target (is_state (target_of job.task) state)

answer_beating : (l : Limits) (job : Job) (n : ℕ) (marks : List Mark) → IsLimits l → Live job marks → Beating l job n marks → (a : Answer) → Answers l job n marks AskState a
answer_beating l job n marks lim live p Ack = over _ refl
answer_beating l job n marks lim live p (Nack code) = nacked l job n code (Answered AskState (Nack code) ∷ marks) AskState false refl
answer_beating l job n marks lim live p (StateAck state) = beat_state l job n state marks lim live p
answer_beating l job n marks lim live p (ErrorAck code) = over _ refl
answer_beating l job n marks lim live p LogAck = over _ refl

-- ---- all places

-- what is open is what was asked
same_request : (x : Latest) (asked r : Request) → x ≡ latests.Asked asked → open_in x ≡ Some r → asked ≡ r
same_request x asked r e o = let f : open_in x ≡ Some asked = ap open_in e in cc

pub answered : (l : Limits) (job : Job) (n : ℕ) (marks : List Mark) (r : Request) (a : Answer) → IsLimits l → Live job marks → open_request marks ≡ Some r → Place l job n marks → Answers l job n marks r a
answered l job n marks r a lim live o (listing p) = subst (λ (x : Request). Answers l job n marks x a) (same_request (latest marks) (Configure p.body) r p.latest_is o) (answer_listing l job n marks lim live p a)
answered l job n marks r a lim live o (changing p) = subst (λ (x : Request). Answers l job n marks x a) (same_request (latest marks) (Change p.state p.body) r p.latest_is o) (answer_changing l job n marks lim live p a)
answered l job n marks r a lim live o (refused p) = let f : open_in (latest marks) ≡ None = ap open_in p.latest_is in absurd (cc)
answered l job n marks r a lim live o (waiting p) = let f : open_in (latest marks) ≡ None = state_closed job (latest marks) (p.awaits false) in absurd (cc)
answered l job n marks r a lim live o (asking p) = subst (λ (x : Request). Answers l job n marks x a) (same_request (latest marks) AskState r p.latest_is o) (answer_asking l job n marks lim live p a)
answered l job n marks r a lim live o (erring p) = subst (λ (x : Request). Answers l job n marks x a) (same_request (latest marks) AskError r p.latest_is o) (answer_fault l job n marks a)
answered l job n marks r a lim live o (bringing p) = let f : open_in (latest marks) ≡ None = outputs_closed job (latest marks) (p.awaits false) in absurd (cc)
answered l job n marks r a lim live o (resting p) = let f : open_in (latest marks) ≡ None = others_closed job (latest marks) true p.awaits in absurd (cc)
answered l job n marks r a lim live o (beating p) = subst (λ (x : Request). Answers l job n marks x a) (same_request (latest marks) AskState r p.latest_is o) (answer_beating l job n marks lim live p a)
answered l job n marks r a lim live o (failing p) = subst (λ (x : Request). Answers l job n marks x a) (same_request (latest marks) AskError r p.latest_is o) (answer_fault l job n marks a)
