-- How long a conversation has had no request, mark by mark.
use Rattle.std.proofs.Common.{◌≡◌, ℕ, ◌+◌, ◌<◌, ◌≤◌, ◌⊎◌, inl, inr, Bool, true, false, if◌then◌else◌, Option, Some, None, List, [], ◌∷◌, length, refl, sym, ap, ◌∙◌, subst, arith}
use Rattle.std.specs.Prelude.{not, ◌&&◌, ◌||◌, nat_le, max}
use Rattle.std.specs.List.{list_any}
use Rattle.std.proofs.lemmas.Bool.{leb-false, and_parts}
use Rattle.std.proofs.Math.Nat.{le-max_left, le-max_right}
use Rattle.dcp_types.specs.declared.limits.Limits.{Limits}
use Rattle.dcp_types.specs.declared.states.State.{State}
use Rattle.pdu_layout.specs.declared.messages.Stc.{Stc}
use Rattle.master_spec.specs.declared.causes.Cause.{Cause}
use Rattle.master_spec.specs.declared.causes.Cause.TheVariants as causes
use Rattle.master_spec.specs.declared.requests.Request.{Request}
use Rattle.master_spec.specs.declared.requests.Request.TheVariants.{Change, Configure, AskState, AskError}
use Rattle.master_spec.specs.declared.requests.Answer.{Answer}
use Rattle.master_spec.specs.declared.requests.Answer.TheVariants.{Ack, Nack, StateAck, ErrorAck, LogAck}
use Rattle.master_spec.specs.declared.requests.Latest.{Latest}
use Rattle.master_spec.specs.declared.requests.Latest.TheVariants as latests
use Rattle.master_spec.specs.declared.reactions.Reaction.{Reaction}
use Rattle.master_spec.specs.declared.reactions.Reaction.TheVariants.{Wait, Ask, Repeat, GiveUp}
use Rattle.master_spec.specs.declared.reactions.Awaited.{Awaited}
use Rattle.master_spec.specs.declared.reactions.Awaited.TheVariants.{TheAnswer, TheState, TheInputs, TheOutputs, TheOthers}
use Rattle.master_spec.specs.Jobs.{Job}
use Rattle.master_spec.specs.Tasks.{asks_step, task_row, task_step, is_by_list, is_by_end, passing_of, target_of}
use Rattle.master_spec.specs.Marks.{Mark, Begun, Asked, Again, Answered, Hinted, Brought, Turned, Ended, acks_change, settings_answered, has_row_outputs, is_missing, cause_of, is_answer, is_asked, is_passed, is_reached, job_of, latest, open_in, open_request, this_phase, turns_since, verdict_by, verdict_of}
use Rattle.master_spec.specs.Conversation.{awaited, awaited_by, is_state, done, on_turn}
use Rattle.master_spec.specs.Course.{is_settled_as}
use Rattle.master_spec.specs.Requests.{acked}
use Rattle.master_log_laws.specs.Asking.Legal.{AreLegal}
use Rattle.master_log_laws.proofs.Phases.Now.{now}
use Rattle.master_log_laws.proofs.Phases.Stage.{Stage, idling, main_open, question_open, trying, mains_done, state_told}
use Rattle.master_log_laws.proofs.Failures.Lasts.{step_job}
use Rattle.completeness_laws.specs.Timely.{longest_wait}
use Rattle.completeness_laws.proofs.Timely.Talks.{IsLater, IsSilent, passed_more, passed_silent, reached_silent, passed_verdict, settled_passed, settled_ended}
use Rattle.completeness_laws.proofs.Timely.Asks.{placed, end_task}

clash : true ≡ false → ⊥
clash z = cc

-- ---- more marks
pub cause_more : (m : Mark) (ms : List Mark) → IsSilent m → ((c : Cause) → m ≡ Ended c → ⊥) → cause_of (m ∷ ms) ≡ cause_of ms
cause_more (Begun job) ms s n = absurd s
cause_more (Asked request) ms s n = refl
cause_more Again ms s n = refl
cause_more (Answered request answer) ms s n = absurd s
cause_more Hinted ms s n = refl
cause_more (Brought number payload) ms s n = absurd s
cause_more (Turned settled) ms s n = refl
cause_more (Ended c) ms s n = absurd (n c refl)

settled_none : (ms : List Mark) → cause_of ms ≡ None → job_of ms ≡ None → is_settled_as (verdict_of ms) ≡ true → ⊥
settled_none ms c j h = let z : false ≡ true = ap (λ (o : Option Job). is_settled_as (verdict_by None o ms)) (sym j) ∙ ap (λ (o : Option Cause). is_settled_as (verdict_by o (job_of ms) ms)) (sym c) ∙ h in cc

-- who is settled stays settled in the phase
pub settled_more : (m : Mark) (ms : List Mark) → IsLater m → is_settled_as (verdict_of ms) ≡ true → is_settled_as (verdict_of (m ∷ ms)) ≡ true
settled_more m ms l h = by (cause_of ms) refl (job_of ms) refl
  where
    cause : (m : Mark) → IsLater m → (c : Cause) → cause_of ms ≡ Some c → (d : Cause) × (cause_of (m ∷ ms) ≡ Some d)
    cause (Begun job) l c e = absurd l
    cause (Asked request) l c e = (c, e)
    cause Again l c e = (c, e)
    cause (Answered request answer) l c e = (c, e)
    cause Hinted l c e = (c, e)
    cause (Brought number payload) l c e = (c, e)
    cause (Turned settled) l c e = (c, e)
    cause (Ended d) l c e = (d, refl)

    job : (m : Mark) → IsLater m → (j : Job) → job_of ms ≡ Some j → job_of (m ∷ ms) ≡ Some j
    job (Begun k) l j e = absurd l
    job (Asked request) l j e = e
    job Again l j e = e
    job (Answered request answer) l j e = e
    job Hinted l j e = e
    job (Brought number payload) l j e = e
    job (Turned settled) l j e = e
    job (Ended d) l j e = e

    by : (c : Option Cause) → cause_of ms ≡ c → (j : Option Job) → job_of ms ≡ j → is_settled_as (verdict_of (m ∷ ms)) ≡ true
    by (Some c) e j f = let d = cause m l c e in settled_ended (m ∷ ms) d.0 d.1
    by None e None f = absurd (settled_none ms e f h)
    by None e (Some k) f = settled_passed (m ∷ ms) k (job m l k f) (passed_more k m ms l (passed_verdict ms k e f h))

-- ---- the counts
abbrev pub wait : Limits → ℕ
wait limits = longest_wait limits

-- nothing was answered in the phase, in which all slaves have been settled at each turn
abbrev pub fresh : Bool → List Mark → Bool
fresh true ms = false
fresh false ms = not (list_any is_answer (this_phase ms))

pub fresh_silent : (b : Bool) (m : Mark) (ms : List Mark) → IsSilent m → fresh b (m ∷ ms) ≡ fresh b ms
fresh_silent true m ms s = refl
fresh_silent false (Begun job) ms s = absurd s
fresh_silent false (Asked request) ms s = refl
fresh_silent false Again ms s = refl
fresh_silent false (Answered request answer) ms s = absurd s
fresh_silent false Hinted ms s = refl
fresh_silent false (Brought number payload) ms s = absurd s
fresh_silent false (Turned settled) ms s = refl
fresh_silent false (Ended cause) ms s = refl

abbrev pub extra : Limits → Bool → ℕ
extra limits true = limits.turn_limit
extra limits false = 0

abbrev pub Gaps : Limits → List Mark → Type 0
Gaps limits [] = Unit {0}
Gaps limits (Asked request ∷ ms) = (list_any is_answer ms ≡ true → turns_since is_answer ms ≤ wait limits + limits.turn_limit + 1) × Gaps limits ms
Gaps limits (Begun job ∷ ms) = Gaps limits ms
Gaps limits (Again ∷ ms) = Gaps limits ms
Gaps limits (Answered request answer ∷ ms) = Gaps limits ms
Gaps limits (Hinted ∷ ms) = Gaps limits ms
Gaps limits (Brought number payload ∷ ms) = Gaps limits ms
Gaps limits (Turned settled ∷ ms) = Gaps limits ms
Gaps limits (Ended cause ∷ ms) = Gaps limits ms

-- the target was told
pub record Told (job : Job) (ms : List Mark) : Type 0 where
  pub state : ℕ
  pub latest_is : latest ms ≡ latests.Answered AskState (StateAck state)
  pub target : is_state (target_of job.task) state ≡ true

-- a conversation in a phase, that goes on
pub record Live (job : Job) (ms : List Mark) : Type 0 where
  pub job_is : job_of ms ≡ Some job
  pub cause_is : cause_of ms ≡ None
  pub lasts : is_by_end job.task ≡ false

-- what holds of each conversation, where n turns have been since one at which some slave was not settled, and some such turn has been in the phase or not
pub record Core (n : ℕ) (b : Bool) (ms : List Mark) : Type 0 where
  pub settled : 1 ≤ n → is_settled_as (verdict_of ms) ≡ true
  pub outputs : (job : Job) → Live job ms → is_by_list job.task ≡ false → is_reached job.task ms ≡ true → is_passed job ms ≡ false → Told job ms
  pub beat : (job : Job) → Live job ms → is_passed job ms ≡ true → (q : Request) → open_request ms ≡ Some q → (q ≡ AskError) ⊎ ((b ≡ true) × (n ≤ turns_since is_asked ms))
  pub first : job_of ms ≡ None → list_any is_answer ms ≡ false

abbrev pub Short : Limits → (n : ℕ) → Bool → List Mark → Type 0
Short limits n b ms = (job : Job) → Live job ms → open_request ms ≡ None → list_any is_answer ms ≡ true → turns_since is_answer ms ≤ wait limits + n + extra limits (fresh b ms)

pub record Stands (limits : Limits) (n : ℕ) (b : Bool) (ms : List Mark) : Type 0 where
  pub core : Core n b ms
  pub short : Short limits n b ms
  pub gaps : Gaps limits ms

-- ---- what follows from a mark
pub record MayAsk (limits : Limits) (n : ℕ) (b : Bool) (ms : List Mark) (q : Request) : Type 0 where
  pub outputs : (job : Job) → Live job ms → is_by_list job.task ≡ false → is_reached job.task ms ≡ true → is_passed job ms ≡ false → ⊥
  pub beat : (job : Job) → Live job ms → is_passed job ms ≡ true → (q ≡ AskError) ⊎ ((b ≡ true) × (n ≡ 0))
  pub gap : list_any is_answer ms ≡ true → turns_since is_answer ms ≤ wait limits + limits.turn_limit + 1

some_clash : (c : Cause) → Some c ≡ None → ⊥
some_clash c z = cc

pub finish : (limits : Limits) (n : ℕ) (b : Bool) (ms : List Mark) (r : Reaction) → Core n b ms → ((r ≡ Wait) ⊎ (r ≡ Repeat) → Short limits n b ms) → ((q : Request) → r ≡ Ask q → MayAsk limits n b ms q) → Gaps limits ms → Stands limits n b (done r ms)
finish limits n b ms Wait c s a g = record { core = c; short = s (inl refl); gaps = g }
finish limits n b ms (Ask q) c s a g =
    let k = a q refl in
    record {
      core = record {
        settled = λ h. settled_more (Asked q) ms tt (c.settled h);
        outputs = λ job l f r p. absurd (k.outputs job (record { job_is = l.job_is; cause_is = l.cause_is; lasts = l.lasts }) f (sym (reached_silent job (Asked q) ms tt) ∙ r) (sym (passed_silent job (Asked q) ms tt) ∙ p));
        beat = λ job l p x o. beats x o (k.beat job (record { job_is = l.job_is; cause_is = l.cause_is; lasts = l.lasts }) (sym (passed_silent job (Asked q) ms tt) ∙ p));
        first = c.first;
      };
      short = λ job l o h. absurd (off o);
      gaps = (k.gap, g);
    }
  where
    off : Some q ≡ None → ⊥
    off z = cc

    beats : (x : Request) → Some q ≡ Some x → (q ≡ AskError) ⊎ ((b ≡ true) × (n ≡ 0)) → (x ≡ AskError) ⊎ ((b ≡ true) × (n ≤ 0))
    beats x o (inl e) = let z : q ≡ x = cc in inl (sym z ∙ e)
    beats x o (inr e) = let z = e.1 in inr (e.0, omega (arith, z))
finish limits n b ms Repeat c s a g =
    record {
      core = record {
        settled = λ h. settled_more Again ms tt (c.settled h);
        outputs = λ job l f r p. told job (c.outputs job (record { job_is = l.job_is; cause_is = l.cause_is; lasts = l.lasts }) f (sym (reached_silent job Again ms tt) ∙ r) (sym (passed_silent job Again ms tt) ∙ p));
        beat = λ job l p x o. c.beat job (record { job_is = l.job_is; cause_is = l.cause_is; lasts = l.lasts }) (sym (passed_silent job Again ms tt) ∙ p) x o;
        first = c.first;
      };
      short = λ job l o h. subst (λ (x : Bool). turns_since is_answer ms ≤ wait limits + n + extra limits x) (sym (fresh_silent b Again ms tt)) (s (inr refl) job (record { job_is = l.job_is; cause_is = l.cause_is; lasts = l.lasts }) o h);
      gaps = g;
    }
  where
    told : (job : Job) → Told job ms → Told job (Again ∷ ms)
    told job t = record { state = t.state; latest_is = t.latest_is; target = t.target }
finish limits n b ms (GiveUp cause) c s a g =
    record {
      core = record {
        settled = λ h. refl;
        outputs = λ job l f r p. absurd (some_clash cause l.cause_is);
        beat = λ job l p x o. absurd (some_clash cause l.cause_is);
        first = c.first;
      };
      short = λ job l o h. absurd (some_clash cause l.cause_is);
      gaps = g;
    }

-- ---- turns
pub latest_acks : (ms : List Mark) (st : State) (body : Stc) → latest ms ≡ latests.Answered (Change st body) Ack → list_any acks_change (this_phase ms) ≡ true
latest_acks [] st body e = absurd cc
latest_acks (Begun job ∷ ms) st body e = absurd cc
latest_acks (Asked request ∷ ms) st body e = absurd cc
latest_acks (Answered request answer ∷ ms) st body e = by request answer e
  where
    by : (r : Request) (a : Answer) → latests.Answered r a ≡ latests.Answered (Change st body) Ack → (acks_change (Answered r a) || list_any acks_change (this_phase ms)) ≡ true
    by (Change s b) Ack z = refl
    by (Change s b) (Nack code) z = absurd cc
    by (Change s b) (StateAck c) z = absurd cc
    by (Change s b) (ErrorAck c) z = absurd cc
    by (Change s b) LogAck z = absurd cc
    by (Configure body) a z = absurd cc
    by AskState a z = absurd cc
    by AskError a z = absurd cc
latest_acks (Again ∷ ms) st body e = latest_acks ms st body e
latest_acks (Hinted ∷ ms) st body e = latest_acks ms st body e
latest_acks (Brought number payload ∷ ms) st body e = latest_acks ms st body e
latest_acks (Turned settled ∷ ms) st body e = latest_acks ms st body e
latest_acks (Ended cause ∷ ms) st body e = latest_acks ms st body e

pub latest_answered : (ms : List Mark) (r : Request) (a : Answer) → latest ms ≡ latests.Answered r a → list_any is_answer (this_phase ms) ≡ true
latest_answered [] r a e = absurd cc
latest_answered (Begun job ∷ ms) r a e = absurd cc
latest_answered (Asked request ∷ ms) r a e = absurd cc
latest_answered (Answered request answer ∷ ms) r a e = refl
latest_answered (Again ∷ ms) r a e = latest_answered ms r a e
latest_answered (Hinted ∷ ms) r a e = latest_answered ms r a e
latest_answered (Brought number payload ∷ ms) r a e = latest_answered ms r a e
latest_answered (Turned settled ∷ ms) r a e = latest_answered ms r a e
latest_answered (Ended cause ∷ ms) r a e = latest_answered ms r a e

pub not_true : (x : Bool) → (x || true) ≡ true
not_true true = refl
not_true false = refl

waits_below : (limit n : ℕ) (q : Request) → (if nat_le limit n then Ask q else Wait) ≡ Wait → n < limit
waits_below limit n q e = by (nat_le limit n) refl e
  where
    by : (x : Bool) → nat_le limit n ≡ x → (if x then Ask q else Wait) ≡ Wait → n < limit
    by true f z = absurd cc
    by false f z = leb-false limit n f

-- the longest wait
wait_watch : (limits : Limits) → limits.watch_turns ≤ wait limits
wait_watch limits = le-max_left limits.watch_turns (max limits.retry_turns limits.data_turns)

wait_retry : (limits : Limits) → limits.retry_turns ≤ wait limits
wait_retry limits = let a = le-max_left limits.retry_turns limits.data_turns in let b = le-max_right limits.watch_turns (max limits.retry_turns limits.data_turns) in omega (arith, a, b)

wait_data : (limits : Limits) → limits.data_turns ≤ wait limits
wait_data limits = let a = le-max_right limits.retry_turns limits.data_turns in let b = le-max_right limits.watch_turns (max limits.retry_turns limits.data_turns) in omega (arith, a, b)

-- where nothing is asked at a turn at which some slave was going, that is not for long
pub turn_short : (limits : Limits) (job : Job) (a : Awaited) (ms : List Mark) → on_turn limits job a false ms ≡ Wait → is_by_end job.task ≡ false → (a ≡ TheAnswer → ⊥) → turns_since is_answer ms ≤ wait limits
turn_short limits job TheAnswer ms e f n = absurd (n refl)
turn_short limits job TheState ms e f n = let a = waits_below limits.watch_turns (turns_since is_answer ms) AskState e in let w = wait_watch limits in omega (arith, a, w)
turn_short limits job (TheInputs q) ms e f n = let a = waits_below limits.retry_turns (turns_since is_answer ms) q e in let w = wait_retry limits in omega (arith, a, w)
turn_short limits job TheOutputs ms e f n = by (nat_le limits.data_turns (turns_since is_answer ms)) refl e
  where
    by : (x : Bool) → nat_le limits.data_turns (turns_since is_answer ms) ≡ x → (if x then GiveUp (causes.DataMissing (task_step job.task)) else Wait) ≡ Wait → turns_since is_answer ms ≤ wait limits
    by true g z = absurd cc
    by false g z = let a = leb-false limits.data_turns (turns_since is_answer ms) g in let w = wait_data limits in omega (arith, a, w)
turn_short limits job TheOthers ms e f n = by (is_by_end job.task) f e
  where
    by : (x : Bool) → x ≡ false → (if x || false then Wait else if nat_le limits.watch_turns (turns_since is_answer ms) then Ask AskState else Wait) ≡ Wait → turns_since is_answer ms ≤ wait limits
    by true g z = absurd (clash g)
    by false g z = let a = waits_below limits.watch_turns (turns_since is_answer ms) AskState z in let w = wait_watch limits in omega (arith, a, w)

-- a conversation that is to end the session asks for nothing else, where none is open
pub end_asks : (limits : Limits) (js : List Job) (job : Job) (ms more : List Mark) (q : Request) → AreLegal limits js ms → Stage job ms (now (placed ms)) → open_request ms ≡ None → is_by_end job.task ≡ true → latest more ≡ latest ms → (is_passed job ms ≡ true → is_passed job more ≡ true)
    → (awaited job more ≡ TheInputs q) ⊎ ((q ≡ AskState) × ((awaited job more ≡ TheState) ⊎ (awaited job more ≡ TheOthers))) → (awaited job more ≡ TheOthers → ⊥) → ⊥
end_asks limits js job ms more q l s o f e p w no' = no' (by s)
  where
    to : (y : Latest) → latest ms ≡ y → awaited job more ≡ awaited_by job y more
    to y g = ap (λ (z : Latest). awaited_by job z more) (e ∙ g)

    acked_others : (r : Request) → latest ms ≡ latests.Answered r Ack → awaited_by job (latests.Answered r Ack) more ≡ TheOthers
    acked_others (Change st body) g =
        let a = latest_acks ms st body g in
        let q : is_passed job ms ≡ true = two (is_by_list job.task) (is_by_end job.task) (end_task job.task f).2 f ∙ a in
        ap (λ (b : Bool). if b then TheOthers else TheState) (p q)
      where
        two : (x y : Bool) → x ≡ false → y ≡ true → (if x then nat_le (length job.list) (settings_answered ms) else if y then list_any acks_change (this_phase ms) else (is_reached job.task ms && has_row_outputs (task_row job.task) ms)) ≡ list_any acks_change (this_phase ms)
        two true y g h = absurd (clash g)
        two false true g h = refl
        two false false g h = absurd (clash (sym h))
    acked_others (Configure body) g = refl
    acked_others AskState g = refl
    acked_others AskError g = refl

    by : Stage job ms (now (placed ms)) → awaited job more ≡ TheOthers
    by (idling g a c) = to latests.Nothing g
    by (main_open r g k) = let z : Some r ≡ None = ap open_in (sym g) ∙ o in absurd cc
    by (question_open r g k) = let z : Some r ≡ None = ap open_in (sym g) ∙ o in absurd cc
    by (trying r code g h k) =
        let j = step_job job.task job.list (acked k.ms) r (and_parts (is_missing code) (asks_step r) h).1 k.slot in
        absurd (clash (sym f ∙ ap is_by_end j.is))
    by (mains_done r g k h) = to (latests.Answered r Ack) g ∙ acked_others r g
    by (state_told c g k h) = absurd (home h)
      where
        home : (is_state (target_of job.task) c ≡ true) ⊎ ((is_state (passing_of job.task) c ≡ true) × (is_reached job.task ms ≡ false)) → ⊥
        home (inl z) = let y : false ≡ true = sym (ap (λ (t : Option State). is_state t c) (end_task job.task f).0) ∙ z in cc
        home (inr z) = let y : false ≡ true = sym (ap (λ (t : Option State). is_state t c) (end_task job.task f).1) ∙ z.0 in cc
