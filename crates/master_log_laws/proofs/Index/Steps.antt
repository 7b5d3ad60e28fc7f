-- A conversation and the requests of its log go on together.
use Rattle.std.proofs.Common.{◌≡◌, ℕ, ◌%◌, Bool, true, false, if◌then◌else◌, ◌⊎◌, inl, inr, Option, Some, None, List, [], ◌∷◌, refl, sym, ap, ◌∙◌, subst}
use Rattle.std.specs.Prelude.{◌&&◌, ◌||◌, not, nat_le, slice_get}
use Rattle.dcp_types.specs.declared.limits.Limits.{Limits}
use Rattle.dcp_types.specs.declared.states.State.{State}
use Rattle.pdu_layout.specs.declared.messages.Cfg.{Cfg}
use Rattle.pdu_layout.specs.Reading.{message_in}
use Rattle.master_spec.specs.declared.requests.Request.{Request}
use Rattle.master_spec.specs.declared.requests.Request.TheVariants.{Change, Configure, AskState, AskError}
use Rattle.master_spec.specs.declared.requests.Answer.{Answer}
use Rattle.master_spec.specs.declared.requests.Answer.TheVariants.{Ack, Nack, StateAck, ErrorAck, LogAck}
use Rattle.master_spec.specs.declared.requests.Latest.{Latest}
use Rattle.master_spec.specs.declared.requests.Latest.TheVariants as latests
use Rattle.master_spec.specs.declared.reactions.Reaction.{Reaction}
use Rattle.master_spec.specs.declared.reactions.Reaction.TheVariants.{Wait, Ask, Repeat, GiveUp}
use Rattle.master_spec.specs.declared.reactions.Awaited.{Awaited}
use Rattle.master_spec.specs.declared.reactions.Awaited.TheVariants.{TheAnswer, TheState, TheInputs, TheOutputs, TheOthers}
use Rattle.master_spec.specs.declared.causes.Cause.{Cause}
use Rattle.master_spec.specs.declared.causes.Cause.TheVariants as causes
use Rattle.master_spec.specs.Tasks.{is_by_end, is_at_once, asks_step, target_of, passing_of, task_step}
use Rattle.master_spec.specs.Jobs.{Job}
use Rattle.master_spec.specs.News.{request_bytes}
use Rattle.master_spec.specs.Marks.{Mark, Begun, Asked, Again, Answered, Hinted, Brought, Turned, Ended, asked, newest_number, open_in, latest, job_of, conversation_ended, cause_of, turns_since, is_sending, is_answer, sendings, is_hinted, is_missing, refusals, settings_answered, is_passed, is_reached}
use Rattle.master_spec.specs.Conversation.{is_state, is_error, is_late, configuration_at, on_nack, on_acknowledged, on_state, on_answer, awaited_after_state, awaited_after, awaited_by, awaited, on_silence, on_turn, on_hint, on_mark, reaction_in, reaction, done, marks_after, again_bytes, messages_of, messages_after, unexpected}
use Rattle.master_spec.specs.Requests.{Asking, asking_in, with_asking}
use Rattle.master_log_laws.specs.Asking.Closed.{MayCome}
use Rattle.master_log_laws.specs.Index.Index.{Placed, at, marks_of, askings_told_by, askings_told, IsHeadOf, IsAsked, IsAgain, ReadBack, IsGoodJob, IsGoodMark, AreGood, Shut, Tracks}
use Rattle.master_log_laws.proofs.Index.Index.{sent_new, sent_again}
use Rattle.master_log_laws.proofs.Index.Events.{repeats_open, head_came, head_asked, head_again, acts, cause_stays, shut_stays}

abbrev pub IsGrown : ℕ → Mark → List Placed → List Placed → Type 0
IsGrown n m xs ys = (ys ≡ at n m ∷ xs) ⊎ ((c : Cause) × (ys ≡ at n (Ended c) ∷ at n m ∷ xs))

abbrev pub IsSentOn : ℕ → List Placed → List Placed → Type 0
IsSentOn n xs ys = (ys ≡ at n Again ∷ xs) ⊎ ((r : Request) × (ys ≡ at n (Asked r) ∷ xs))

module _ (good : Request → Type 0) (state : good AskState) (error : good AskError) where
  -- ---- what is asked is good
  abbrev GoodLatest : Latest → Type 0
  GoodLatest latests.Nothing = Unit {0}
  GoodLatest (latests.Asked r) = good r
  GoodLatest (latests.Answered r a) = good r

  latest_good : (marks : List Mark) → AreGood good marks → GoodLatest (latest marks)
  latest_good [] g = tt
  latest_good (Begun job ∷ marks) g = tt
  latest_good (Asked r ∷ marks) g = g.0
  latest_good (Answered r a ∷ marks) g = g.0
  latest_good (Again ∷ marks) g = latest_good marks g.1
  latest_good (Hinted ∷ marks) g = latest_good marks g.1
  latest_good (Brought number payload ∷ marks) g = latest_good marks g.1
  latest_good (Turned settled ∷ marks) g = latest_good marks g.1
  latest_good (Ended cause ∷ marks) g = latest_good marks g.1

  abbrev GoodJobIf : Option Job → Type 0
  GoodJobIf None = Unit {0}
  GoodJobIf (Some job) = IsGoodJob good job

  job_good : (marks : List Mark) → AreGood good marks → GoodJobIf (job_of marks)
  job_good [] g = tt
  job_good (Begun job ∷ marks) g = g.0
  job_good (Asked r ∷ marks) g = job_good marks g.1
  job_good (Answered r a ∷ marks) g = job_good marks g.1
  job_good (Again ∷ marks) g = job_good marks g.1
  job_good (Hinted ∷ marks) g = job_good marks g.1
  job_good (Brought number payload ∷ marks) g = job_good marks g.1
  job_good (Turned settled ∷ marks) g = job_good marks g.1
  job_good (Ended cause ∷ marks) g = job_good marks g.1

  it_is : (q r : Request) → good q → Ask q ≡ Ask r → good r
  it_is q r g h = let z : q ≡ r = cc in subst good z g

  if_asks : (b : Bool) (q r : Request) → good q → (if b then Ask q else Wait) ≡ Ask r → good r
  if_asks true q r g h = it_is q r g h
  if_asks false q r g h = absurd cc

  state_good : (limits : Limits) (job : Job) (s : ℕ) (older marks : List Mark) (r : Request) → on_state limits job s older marks ≡ Ask r → good r
  state_good limits job s older marks r h = by (is_error s) (is_state (target_of job.task) s) (is_state (passing_of job.task) s && not (is_reached job.task older)) (is_late limits marks) (is_hinted marks) h
    where
      by : (a b c d e : Bool) → (if a then Ask AskError else if b then Wait else if c then (if d then GiveUp (causes.Stuck (newest_number marks) s) else if e then Ask AskState else Wait) else unexpected (StateAck s) marks) ≡ Ask r → good r
      by true b c d e z = it_is AskError r error z
      by false true c d e z = absurd cc
      by false false true true e z = absurd cc
      by false false true false true z = it_is AskState r state z
      by false false true false false z = absurd cc
      by false false false d e z = absurd cc

  nack_good : (limits : Limits) (job : Job) (request : Request) (code : ℕ) (marks : List Mark) (r : Request) → on_nack limits job request code marks ≡ Ask r → good r
  nack_good limits job request code marks r h = by (is_missing code && asks_step request) (nat_le limits.step_tries (refusals marks)) h
    where
      by : (a b : Bool) → (if a then (if b then GiveUp (causes.InputsMissing (newest_number marks) (task_step job.task)) else Wait) else GiveUp (causes.Refused (newest_number marks) code)) ≡ Ask r → good r
      by true true z = absurd cc
      by true false z = absurd cc
      by false b z = absurd cc

  list_good : (o : Option Cfg) (r : Request) → ((body : Cfg) → o ≡ Some body → good (Configure body)) → configuration_at o ≡ Ask r → good r
  list_good None r g h = absurd cc
  list_good (Some body) r g h = it_is (Configure body) r (g body refl) h

  ack_good : (job : Job) (marks : List Mark) (r : Request) → on_acknowledged job marks ≡ Ask r → good r
  ack_good job marks r h = by (is_by_end job.task) (is_at_once job.task) (is_hinted marks) h
    where
      by : (a b c : Bool) → (if a then Wait else if b then Ask AskState else if c then Ask AskState else Wait) ≡ Ask r → good r
      by true b c z = absurd cc
      by false true c z = it_is AskState r state z
      by false false true z = it_is AskState r state z
      by false false false z = absurd cc

  answer_good : (limits : Limits) (job : Job) (request : Request) (answer : Answer) (older marks : List Mark) (r : Request) → IsGoodJob good job → on_answer limits job request answer older marks ≡ Ask r → good r
  answer_good limits job request (Nack code) older marks r g h = nack_good limits job request code marks r h
  answer_good limits job (Configure body) Ack older marks r g h = list_good (slice_get job.list (settings_answered marks)) r (λ b e. g.1 (settings_answered marks) b e) h
  answer_good limits job (Change s body) Ack older marks r g h = ack_good job marks r h
  answer_good limits job AskState (StateAck s) older marks r g h = state_good limits job s older marks r h
  answer_good limits job AskError (ErrorAck code) older marks r g h = absurd cc
  answer_good limits job (Configure body) (StateAck s) older marks r g h = absurd cc
  answer_good limits job (Configure body) (ErrorAck code) older marks r g h = absurd cc
  answer_good limits job (Configure body) LogAck older marks r g h = absurd cc
  answer_good limits job (Change t body) (StateAck s) older marks r g h = absurd cc
  answer_good limits job (Change t body) (ErrorAck code) older marks r g h = absurd cc
  answer_good limits job (Change t body) LogAck older marks r g h = absurd cc
  answer_good limits job AskState Ack older marks r g h = absurd cc
  answer_good limits job AskState (ErrorAck code) older marks r g h = absurd cc
  answer_good limits job AskState LogAck older marks r g h = absurd cc
  answer_good limits job AskError Ack older marks r g h = absurd cc
  answer_good limits job AskError (StateAck s) older marks r g h = absurd cc
  answer_good limits job AskError LogAck older marks r g h = absurd cc

  abbrev GoodAwaited : Awaited → Type 0
  GoodAwaited (TheInputs r) = good r
  GoodAwaited TheAnswer = Unit {0}
  GoodAwaited TheState = Unit {0}
  GoodAwaited TheOutputs = Unit {0}
  GoodAwaited TheOthers = Unit {0}

  after_state_good : (target : Option State) (s : ℕ) (passed : Bool) → GoodAwaited (awaited_after_state target s passed)
  after_state_good target s passed = by passed (is_state target s)
    where
      by : (a b : Bool) → GoodAwaited (if a then TheOthers else if b then TheOutputs else TheState)
      by true b = tt
      by false true = tt
      by false false = tt

  after_good : (target : Option State) (request : Request) (answer : Answer) (passed : Bool) → good request → GoodAwaited (awaited_after target request answer passed)
  after_good target (Change s body) Ack true g = tt
  after_good target (Change s body) Ack false g = tt
  after_good target (Change s body) (Nack code) passed g = g
  after_good target AskState (StateAck s) passed g = after_state_good target s passed
  after_good target (Change t body) (StateAck s) passed g = tt
  after_good target (Change t body) (ErrorAck s) passed g = tt
  after_good target (Change t body) LogAck passed g = tt
  after_good target (Configure body) answer passed g = tt
  after_good target AskState Ack passed g = tt
  after_good target AskState (Nack code) passed g = tt
  after_good target AskState (ErrorAck code) passed g = tt
  after_good target AskState LogAck passed g = tt
  after_good target AskError answer passed g = tt

  awaited_good : (job : Job) (l : Latest) (marks : List Mark) → GoodLatest l → GoodAwaited (awaited_by job l marks)
  awaited_good job latests.Nothing marks g = tt
  awaited_good job (latests.Asked r) marks g = tt
  awaited_good job (latests.Answered r a) marks g = after_good (target_of job.task) r a (is_passed job marks) g

  silence_good : (limits : Limits) (marks : List Mark) (r : Request) → on_silence limits marks ≡ Ask r → good r
  silence_good limits marks r h = by (nat_le limits.turn_limit (turns_since is_sending marks)) (nat_le limits.tries (sendings marks)) h
    where
      by : (b c : Bool) → (if b then (if c then GiveUp (causes.NoAnswer (newest_number marks)) else Repeat) else Wait) ≡ Ask r → good r
      by true true e = absurd cc
      by true false e = absurd cc
      by false c e = absurd cc

  turn_good : (limits : Limits) (job : Job) (a : Awaited) (settled : Bool) (marks : List Mark) (r : Request) → GoodAwaited a → on_turn limits job a settled marks ≡ Ask r → good r
  turn_good limits job TheAnswer settled marks r g h = silence_good limits marks r h
  turn_good limits job TheState settled marks r g h = if_asks (nat_le limits.watch_turns (turns_since is_answer marks)) AskState r state h
  turn_good limits job (TheInputs q) settled marks r g h = if_asks (nat_le limits.retry_turns (turns_since is_answer marks)) q r g h
  turn_good limits job TheOutputs settled marks r g h = by (nat_le limits.data_turns (turns_since is_answer marks)) h
    where
      by : (b : Bool) → (if b then GiveUp (causes.DataMissing (task_step job.task)) else Wait) ≡ Ask r → good r
      by true z = absurd cc
      by false z = absurd cc
  turn_good limits job TheOthers settled marks r g h = by (is_by_end job.task || settled) h
    where
      by : (b : Bool) → (if b then Wait else if nat_le limits.watch_turns (turns_since is_answer marks) then Ask AskState else Wait) ≡ Ask r → good r
      by true z = absurd cc
      by false z = if_asks (nat_le limits.watch_turns (turns_since is_answer marks)) AskState r state z

  hint_good : (a : Awaited) (r : Request) → on_hint a ≡ Ask r → good r
  hint_good TheState r h = it_is AskState r state h
  hint_good TheAnswer r h = absurd cc
  hint_good (TheInputs q) r h = absurd cc
  hint_good TheOutputs r h = absurd cc
  hint_good TheOthers r h = absurd cc

  mark_good : (limits : Limits) (job : Job) (m : Mark) (marks : List Mark) (r : Request) → IsGoodJob good job → AreGood good (m ∷ marks) → on_mark limits job m marks (m ∷ marks) ≡ Ask r → good r
  mark_good limits job (Begun j) marks r k g h = (g.0).0 r h
  mark_good limits job (Answered q a) marks r k g h = answer_good limits job q a marks (Answered q a ∷ marks) r k h
  mark_good limits job Hinted marks r k g h = hint_good (awaited job (Hinted ∷ marks)) r h
  mark_good limits job (Turned settled) marks r k g h = turn_good limits job (awaited job (Turned settled ∷ marks)) settled (Turned settled ∷ marks) r (awaited_good job (latest marks) (Turned settled ∷ marks) (latest_good marks g.1)) h
  mark_good limits job (Asked q) marks r k g h = absurd cc
  mark_good limits job Again marks r k g h = absurd cc
  mark_good limits job (Brought n p) marks r k g h = absurd cc
  mark_good limits job (Ended c) marks r k g h = absurd cc

  in_good : (limits : Limits) (o : Option Job) (m : Mark) (marks : List Mark) (r : Request) → GoodJobIf o → AreGood good (m ∷ marks) → reaction_in limits o m marks (m ∷ marks) ≡ Ask r → good r
  in_good limits None m marks r k g h = absurd cc
  in_good limits (Some job) m marks r k g h = by (conversation_ended marks) h
    where
      by : (b : Bool) → (if b then Wait else on_mark limits job m marks (m ∷ marks)) ≡ Ask r → good r
      by true e = absurd cc
      by false e = mark_good limits job m marks r k g e

  asks_good : (limits : Limits) (m : Mark) (marks : List Mark) (r : Request) → AreGood good (m ∷ marks) → reaction limits m marks ≡ Ask r → good r
  unfolding reaction
  asks_good limits m marks r g h = in_good limits (job_of (m ∷ marks)) m marks r (job_good (m ∷ marks) g) g h

  -- ---- an event
  pub extends : (limits : Limits) (id n : ℕ) (m : Mark) (xs : List Placed) → MayCome m (marks_of xs) → IsGoodMark good m → IsHeadOf (marks_of xs) (askings_told xs) → AreGood good (marks_of xs) → ((cause : Cause) → cause_of (marks_of xs) ≡ Some cause → Shut limits cause xs)
      → (ys : List Placed) × (IsGrown n m xs ys × Tracks limits good id (marks_after limits m (marks_of xs)) (messages_after limits id m (marks_of xs)) (askings_told_by n m (marks_of xs) (askings_told xs)) ys)
  extends limits id n m xs c g h a q = by (reaction limits m (marks_of xs)) refl
    where
      now : IsHeadOf (m ∷ marks_of xs) (askings_told (at n m ∷ xs))
      now = head_came n m (marks_of xs) (askings_told xs) c h

      shut : (cause : Cause) → cause_of (m ∷ marks_of xs) ≡ Some cause → Shut limits cause (at n m ∷ xs)
      shut cause z = shut_stays limits n m cause xs c (q cause (sym (cause_stays m (marks_of xs) c) ∙ z))

      none : (R : Reaction) → reaction limits m (marks_of xs) ≡ R → (R ≡ Wait → ⊥) → cause_of (m ∷ marks_of xs) ≡ None
      none R e z = cause_stays m (marks_of xs) c ∙ acts limits m (marks_of xs) (λ y. z (sym e ∙ y))

      asks_not : (r : Request) → Ask r ≡ Wait → ⊥
      asks_not r z = cc

      again_not : Repeat ≡ Wait → ⊥
      again_not z = cc

      by : (R : Reaction) → reaction limits m (marks_of xs) ≡ R
          → (ys : List Placed) × (IsGrown n m xs ys × Tracks limits good id (done R (m ∷ marks_of xs)) (messages_of id (m ∷ marks_of xs) R) (askings_told_by n m (marks_of xs) (askings_told xs)) ys)
      by Wait e = (at n m ∷ xs, (inl refl, record { owes = refl; is = refl; head = now; all = (g, a); shut = shut }))
      by (Ask r) e = (at n m ∷ xs, (inl refl, record { owes = (r, (asks_good limits m (marks_of xs) r (g, a) e, (none (Ask r) e (asks_not r), inl (refl, refl)))); is = refl; head = now; all = (g, a); shut = shut }))
      by Repeat e =
          let o = repeats_open limits m (marks_of xs) e in
          let P : List (List ℕ) → Type 0 = λ z. (ys : List Placed) × (IsGrown n m xs ys × Tracks limits good id (Again ∷ m ∷ marks_of xs) z (askings_told_by n m (marks_of xs) (askings_told xs)) ys) in
          let b : messages_of id (m ∷ marks_of xs) Repeat ≡ request_bytes (newest_number (m ∷ marks_of xs)) id o.0 ∷ [] = ap (again_bytes (newest_number (m ∷ marks_of xs)) id) o.1 in
          let k : GoodLatest (latest (m ∷ marks_of xs)) = latest_good (m ∷ marks_of xs) (g, a) in
          subst P (sym b) (at n m ∷ xs, (inl refl, record { owes = (o.0, (open_good (latest (m ∷ marks_of xs)) o.0 k o.1, (none Repeat e again_not, inr (refl, (o.1, refl))))); is = refl; head = now; all = (g, a); shut = shut }))
        where
          open_good : (l : Latest) (r : Request) → GoodLatest l → open_in l ≡ Some r → good r
          open_good latests.Nothing r k z = absurd cc
          open_good (latests.Asked q) r k z = let y : q ≡ r = cc in subst good y k
          open_good (latests.Answered q b) r k z = absurd cc
      by (GiveUp cause) e = (at n (Ended cause) ∷ at n m ∷ xs, (inr (cause, refl), record { owes = refl; is = refl; head = now; all = (tt, (g, a)); shut = λ k z. ended cause k e z }))
        where
          ended : (cause k : Cause) → reaction limits m (marks_of xs) ≡ GiveUp cause → Some cause ≡ Some k → Shut limits k (at n (Ended cause) ∷ at n m ∷ xs)
          ended cause k e z = let y : cause ≡ k = cc in (y, (e ∙ ap (λ (x : Cause). GiveUp x) y, (c, h)))

  -- ---- a send
  pub sends : (limits : Limits) (id n : ℕ) (marks : List Mark) (b : List ℕ) (rest : List (List ℕ)) (bs : List Asking) (xs : List Placed) → ((r : Request) → good r → ReadBack id r)
      → Tracks limits good id marks (b ∷ rest) bs xs → (ys : List Placed) × (IsSentOn n xs ys × Tracks limits good id marks rest (with_asking (asking_in n (message_in b)) bs) ys)
  sends limits id n marks b (c ∷ more) bs xs back t = absurd t.owes
  sends limits id n marks b [] bs xs back t = by (t.owes).0 ((t.owes).1).0 (((t.owes).1).1).1 (((t.owes).1).1).0
    where
      clash : (cause : Cause) → None ≡ Some cause → ⊥
      clash cause z = cc

      by : (r : Request) → good r → (IsAsked id b marks (marks_of xs) r ⊎ IsAgain id b marks (marks_of xs) r) → cause_of (marks_of xs) ≡ None
          → (ys : List Placed) × (IsSentOn n xs ys × Tracks limits good id marks [] (with_asking (asking_in n (message_in b)) bs) ys)
      by r g (inl k) o = (
        at n (Asked r) ∷ xs,
        (
          inr (r, refl),
          record {
            owes = k.0;
            is = ap (λ z. with_asking (asking_in n (message_in z)) bs) k.1 ∙ ap (with_asking (asking_in n (message_in (request_bytes (asked (marks_of xs) % 65536) id r)))) t.is ∙ sent_new n id r xs (back r g) t.head;
            head = head_asked n r (marks_of xs) (askings_told xs);
            all = (g, t.all);
            shut = λ cause z. absurd (clash cause (sym o ∙ z));
          },
        ),
      )
      by r g (inr k) o = (
        at n Again ∷ xs,
        (
          inl refl,
          record {
            owes = k.0;
            is = ap (λ z. with_asking (asking_in n (message_in z)) bs) (k.1).1 ∙ ap (with_asking (asking_in n (message_in (request_bytes (newest_number (marks_of xs)) id r)))) t.is ∙ sent_again n id r xs (back r g) (k.1).0 t.head;
            head = head_again n r (marks_of xs) (askings_told xs) (k.1).0 t.head;
            all = (tt, t.all);
            shut = λ cause z. absurd (clash cause (sym o ∙ z));
          },
        ),
      )
