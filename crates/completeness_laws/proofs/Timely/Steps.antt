-- What holds of a conversation after one more mark.
use Rattle.std.proofs.Common.{◌≡◌, ℕ, zero, suc, ◌+◌, ◌≤◌, ◌⊎◌, inl, inr, Bool, true, false, if◌then◌else◌, Option, Some, None, List, [], ◌∷◌, length, refl, sym, ap, ◌∙◌, subst, arith}
use Rattle.std.specs.Prelude.{not, ◌&&◌, ◌||◌, nat_le}
use Rattle.std.specs.List.{list_any}
use Rattle.std.proofs.lemmas.Bool.{leb-true}
use Rattle.dcp_types.specs.declared.limits.Limits.{Limits}
use Rattle.dcp_types.specs.Codes.{state_code}
use Rattle.dcp_types.specs.declared.states.State.{State}
use Rattle.master_spec.specs.declared.causes.Cause.{Cause}
use Rattle.master_spec.specs.declared.causes.Cause.TheVariants as causes
use Rattle.master_spec.specs.declared.requests.Request.{Request}
use Rattle.master_spec.specs.declared.requests.Request.TheVariants.{Change, Configure, AskState, AskError}
use Rattle.master_spec.specs.declared.requests.Answer.{Answer}
use Rattle.master_spec.specs.declared.requests.Answer.TheVariants.{Ack, Nack, StateAck, ErrorAck, LogAck}
use Rattle.master_spec.specs.declared.requests.Latest.{Latest}
use Rattle.master_spec.specs.declared.requests.Latest.TheVariants as latests
use Rattle.master_spec.specs.declared.reactions.Reaction.TheVariants.{Wait, Ask, Repeat, GiveUp}
use Rattle.master_spec.specs.declared.reactions.Awaited.{Awaited}
use Rattle.master_spec.specs.declared.reactions.Awaited.TheVariants.{TheAnswer, TheState, TheOutputs, TheOthers}
use Rattle.master_spec.specs.Jobs.{Job, asked_by}
use Rattle.master_spec.specs.Tasks.{task_row, task_step, is_by_list, is_by_end, target_of}
use Rattle.master_spec.specs.Marks.{Mark, Begun, Asked, Again, Answered, Hinted, Brought, Turned, Ended, acks_change, settings_answered, has_row_outputs, cause_of, is_answer, is_asked, is_begun, is_passed, is_reached, job_of, latest, names, open_in, open_request, this_phase, turns_since, verdict_of}
use Rattle.master_spec.specs.Conversation.{awaited, awaited_by, awaited_after, is_state, on_other_state, marks_after, on_answer, on_turn, reaction}
use Rattle.master_spec.specs.Course.{is_settled_as}
use Rattle.master_log_laws.specs.Asking.Legal.{AreLegal, Rests}
use Rattle.master_log_laws.proofs.Asking.Closed.{asks_open}
use Rattle.master_log_laws.proofs.Index.Events.{repeats_open}
use Rattle.master_log_laws.proofs.Phases.Now.{now}
use Rattle.master_log_laws.proofs.Phases.Mains.{Asks, by_list, by_one, job_asks, length_map}
use Rattle.master_log_laws.proofs.Phases.Inverse.{reacts, first_asks, first_waits, hint_asks, turn_asks}
use Rattle.master_log_laws.proofs.Phases.Stage.{Stage}
use Rattle.master_log_laws.proofs.Phases.Tags.{no_reaction, passed_reached}
use Rattle.master_log_laws.proofs.Failures.Turns.{exchange_begun}
use Rattle.completeness_laws.proofs.Timely.Talks.{rows_in, passed_more, passed_silent, passed_is, passed_in, reached_is, reached_silent, reached_brought, named_in, passed_verdict}
use Rattle.completeness_laws.proofs.Timely.Asks.{placed, staged, target_no_error, closed_others, AwaitsState, awaits_state, answer_asks}
use Rattle.completeness_laws.proofs.Timely.Retries.{ended_waits}
use Rattle.completeness_laws.proofs.Timely.Settled.{Core, Live, MayAsk, Stands, Told, end_asks, extra, finish, fresh, fresh_silent, latest_answered, not_true, settled_more, turn_short, wait}

clash : true ≡ false → ⊥
clash z = cc

wait_ask : (q : Request) → Wait ≡ Ask q → ⊥
wait_ask q z = cc

-- a conversation that asks goes on
record AsksLive (ms more : List Mark) : Type 0 where
  pub job : Job
  pub job_is : job_of more ≡ Some job
  pub cause_is : cause_of ms ≡ None

asks_live : (limits : Limits) (m : Mark) (ms : List Mark) (q : Request) → reaction limits m ms ≡ Ask q → AsksLive ms (m ∷ ms)
asks_live limits m ms q e = by (job_of (m ∷ ms)) refl (cause_of ms) refl
  where
    by : (j : Option Job) → job_of (m ∷ ms) ≡ j → (c : Option Cause) → cause_of ms ≡ c → AsksLive ms (m ∷ ms)
    by None f c g = absurd (wait_ask q (sym (no_reaction limits m ms f) ∙ e))
    by (Some job) f None g = record { job = job; job_is = f; cause_is = g }
    by (Some job) f (Some c) g = absurd (wait_ask q (sym (ended_waits limits m ms c g) ∙ e))

module _ (limits : Limits) (js : List Job) (ms : List Mark) (legal : AreLegal limits js ms) (rests : Rests limits ms) (n : ℕ) (b : Bool) (st : Stands limits n b ms) where
  at_stage : (job : Job) → job_of ms ≡ Some job → cause_of ms ≡ None → Stage job ms (now (placed ms))
  at_stage job j c = staged limits js ms legal rests c job j

  -- ---- a turn
  module _ (t : Bool) where
    abbrev x : List Mark
    x = Turned t ∷ ms

    turn_reacts : (job : Job) → job_of ms ≡ Some job → cause_of ms ≡ None → reaction limits (Turned t) ms ≡ on_turn limits job (awaited job x) t x
    turn_reacts job j c = reacts limits (Turned t) ms job c j

    turn_core : (n' : ℕ) (b' : Bool) → (1 ≤ n' → is_settled_as (verdict_of ms) ≡ true) → ((job : Job) → Live job ms → is_passed job ms ≡ true → (q : Request) → open_request ms ≡ Some q → (q ≡ AskError) ⊎ ((b' ≡ true) × (n' ≤ turns_since is_asked ms + 1))) → Core n' b' x
    turn_core n' b' s h = record {
      settled = λ l. settled_more (Turned t) ms tt (s l);
      outputs = λ job l f r p. told job (st.core.outputs job (record { job_is = l.job_is; cause_is = l.cause_is; lasts = l.lasts }) f (sym (reached_silent job (Turned t) ms tt) ∙ r) (sym (passed_silent job (Turned t) ms tt) ∙ p));
      beat = λ job l p q o. h job (record { job_is = l.job_is; cause_is = l.cause_is; lasts = l.lasts }) (sym (passed_silent job (Turned t) ms tt) ∙ p) q o;
      first = st.core.first;
    }
      where
        told : (job : Job) → Told job ms → Told job x
        told job z = record { state = z.state; latest_is = z.latest_is; target = z.target }

    -- an open request is what is awaited
    awaits_open : (job : Job) → (q : Request) → open_request ms ≡ Some q → awaited job x ≡ TheAnswer
    awaits_open job q o = by (latest ms) refl
      where
        by : (l : Latest) → latest ms ≡ l → awaited job x ≡ TheAnswer
        by latests.Nothing e = let z : None ≡ Some q = ap open_in (sym e) ∙ o in absurd cc
        by (latests.Asked r) e = ap (λ (y : Latest). awaited_by job y x) e
        by (latests.Answered r a) e = let z : None ≡ Some q = ap open_in (sym e) ∙ o in absurd cc

    awaits_closed : (job : Job) → open_request ms ≡ None → awaited job x ≡ TheAnswer → ⊥
    awaits_closed job o w = by (latest ms) refl
      where
        after : (r : Request) (a : Answer) (p : Bool) → awaited_after (target_of job.task) r a p ≡ TheAnswer → ⊥
        after (Change s d) Ack true z = cc
        after (Change s d) Ack false z = cc
        after (Change s d) (Nack code) p z = cc
        after (Change s d) (StateAck c) p z = cc
        after (Change s d) (ErrorAck c) p z = cc
        after (Change s d) LogAck p z = cc
        after AskState (StateAck c) true z = cc
        after AskState (StateAck c) false z = two (is_state (target_of job.task) c) z
          where
            two : (y : Bool) → (if y then TheOutputs else TheState) ≡ TheAnswer → ⊥
            two true z = cc
            two false z = cc
        after AskState Ack p z = cc
        after AskState (Nack code) p z = cc
        after AskState (ErrorAck c) p z = cc
        after AskState LogAck p z = cc
        after (Configure d) a p z = cc
        after AskError a p z = cc

        by : (l : Latest) → latest ms ≡ l → ⊥
        by latests.Nothing e = let z : TheOthers ≡ TheAnswer = sym (ap (λ (y : Latest). awaited_by job y x) e) ∙ w in cc
        by (latests.Asked r) e = let z : Some r ≡ None = ap open_in (sym e) ∙ o in cc
        by (latests.Answered r a) e = after r a (is_passed job x) (sym (ap (λ (y : Latest). awaited_by job y x) e) ∙ w)

  -- at which all are settled
  turn_true_none : is_settled_as (verdict_of ms) ≡ true → (q : Request) → reaction limits (Turned true) ms ≡ Ask q → ⊥
  turn_true_none s q e =
      let k = asks_live limits (Turned true) ms q e in
      let p = passed_verdict ms k.job k.cause_is k.job_is s in
      let o : open_request ms ≡ None = asks_open limits (Turned true) ms q e in
      let w = closed_others limits js k.job ms legal (at_stage k.job k.job_is k.cause_is) o p (Turned true ∷ ms) refl (passed_silent k.job (Turned true) ms tt ∙ p) in
      let f : on_turn limits k.job (awaited k.job (Turned true ∷ ms)) true (Turned true ∷ ms) ≡ Ask q = sym (turn_reacts true k.job k.job_is k.cause_is) ∙ e in
      let g : on_turn limits k.job TheOthers true (Turned true ∷ ms) ≡ Ask q = ap (λ (a : Awaited). on_turn limits k.job a true (Turned true ∷ ms)) (sym w) ∙ f in
      wait_ask q (sym (ap (λ (y : Bool). if y then Wait else if nat_le limits.watch_turns (turns_since is_answer (Turned true ∷ ms)) then Ask AskState else Wait) (not_true (is_by_end k.job.task))) ∙ g)

  pub turn_true : is_settled_as (verdict_of ms) ≡ true → Stands limits (n + 1) b (marks_after limits (Turned true) ms)
  turn_true s =
      finish limits (n + 1) b (Turned true ∷ ms) (reaction limits (Turned true) ms)
      (turn_core true (n + 1) b (λ l. s) (λ job l p q o. more q (st.core.beat job l p q o)))
      (λ w job l o h. short job l o h)
      (λ q e. absurd (turn_true_none s q e))
      st.gaps
    where
      more : (q : Request) → (q ≡ AskError) ⊎ ((b ≡ true) × (n ≤ turns_since is_asked ms)) → (q ≡ AskError) ⊎ ((b ≡ true) × (n + 1 ≤ turns_since is_asked ms + 1))
      more q (inl z) = inl z
      more q (inr z) = let y = z.1 in inr (z.0, omega (arith, y))

      short : (job : Job) → Live job (Turned true ∷ ms) → open_request ms ≡ None → list_any is_answer ms ≡ true → turns_since is_answer ms + 1 ≤ wait limits + (n + 1) + extra limits (fresh b (Turned true ∷ ms))
      short job l o h =
          let a = st.short job (record { job_is = l.job_is; cause_is = l.cause_is; lasts = l.lasts }) o h in
          let f = ap (extra limits) (fresh_silent b (Turned true) ms tt) in
          omega (arith, a, f)

  -- at which some slave is going
  turn_false_asks : n ≡ 0 → (q : Request) → reaction limits (Turned false) ms ≡ Ask q → MayAsk limits 0 true (Turned false ∷ ms) q
  turn_false_asks z q e =
      record {
        outputs = λ job l f r p. no_outputs job (record { job_is = l.job_is; cause_is = l.cause_is; lasts = l.lasts }) f (sym (reached_silent job (Turned false) ms tt) ∙ r) (sym (passed_silent job (Turned false) ms tt) ∙ p) p;
        beat = λ job l p. inr (refl, refl);
        gap = gap;
      }
    where
      k : AsksLive ms (Turned false ∷ ms)
      k = asks_live limits (Turned false) ms q e

      o : open_request ms ≡ None
      o = asks_open limits (Turned false) ms q e

      turned : (job : Job) → job_of ms ≡ Some job → cause_of ms ≡ None → on_turn limits job (awaited job (Turned false ∷ ms)) false (Turned false ∷ ms) ≡ Ask q
      turned job j c = sym (turn_reacts false job j c) ∙ e

      none_outputs : (job : Job) → on_turn limits job TheOutputs false (Turned false ∷ ms) ≡ Ask q → ⊥
      none_outputs job f = by (nat_le limits.data_turns (turns_since is_answer (Turned false ∷ ms))) f
        where
          by : (y : Bool) → (if y then GiveUp (causes.DataMissing (task_step job.task)) else Wait) ≡ Ask q → ⊥
          by true w = cc
          by false w = cc

      no_outputs : (job : Job) → Live job ms → is_by_list job.task ≡ false → is_reached job.task ms ≡ true → is_passed job ms ≡ false → is_passed job (Turned false ∷ ms) ≡ false → ⊥
      no_outputs job l f r p px =
          let d = st.core.outputs job l f r p in
          let w : awaited job (Turned false ∷ ms) ≡ TheOutputs =
          ap (λ (y : Latest). awaited_by job y (Turned false ∷ ms)) d.latest_is ∙ ap (λ (y : Bool). if y then TheOthers else if is_state (target_of job.task) d.state then TheOutputs else TheState) px ∙ ap (λ (y : Bool). if y then TheOutputs else TheState) d.target in
          none_outputs job (ap (λ (a : Awaited). on_turn limits job a false (Turned false ∷ ms)) (sym w) ∙ turned job l.job_is l.cause_is)

      gap : list_any is_answer ms ≡ true → turns_since is_answer ms + 1 ≤ wait limits + limits.turn_limit + 1
      gap h = by (is_by_end k.job.task) refl
        where
          most : (y : Bool) → extra limits y ≤ limits.turn_limit
          most true = omega arith
          most false = omega arith

          by : (y : Bool) → is_by_end k.job.task ≡ y → turns_since is_answer ms + 1 ≤ wait limits + limits.turn_limit + 1
          by false f =
              let a = st.short k.job (record { job_is = k.job_is; cause_is = k.cause_is; lasts = f }) o h in
              let m = most (fresh b ms) in
              omega (arith, a, m, z)
          by true f = absurd (end_asks limits js k.job ms (Turned false ∷ ms) q legal (at_stage k.job k.job_is k.cause_is) o f refl (λ p. passed_silent k.job (Turned false) ms tt ∙ p) (turn_asks limits k.job (awaited k.job (Turned false ∷ ms)) false (Turned false ∷ ms) q (turned k.job k.job_is k.cause_is)) (λ w. rest_end k.job f (ap (λ (a : Awaited). on_turn limits k.job a false (Turned false ∷ ms)) (sym w) ∙ turned k.job k.job_is k.cause_is)))
            where
              rest_end : (job : Job) → is_by_end job.task ≡ true → on_turn limits job TheOthers false (Turned false ∷ ms) ≡ Ask q → ⊥
              rest_end job f g = wait_ask q (sym (ap (λ (y : Bool). if y || false then Wait else if nat_le limits.watch_turns (turns_since is_answer (Turned false ∷ ms)) then Ask AskState else Wait) f) ∙ g)

  pub turn_false : n ≡ 0 → Stands limits 0 true (marks_after limits (Turned false) ms)
  turn_false z =
      finish limits 0 true (Turned false ∷ ms) (reaction limits (Turned false) ms)
      (turn_core false 0 true (λ l. absurd (omega (arith, l))) (λ job l p q o. inr (refl, omega arith)))
      (λ w job l o h. short w job l o)
      (turn_false_asks z)
      st.gaps
    where
      off : (q : Request) → None ≡ Some q → ⊥
      off q z = cc

      short : (reaction limits (Turned false) ms ≡ Wait) ⊎ (reaction limits (Turned false) ms ≡ Repeat) → (job : Job) → Live job (Turned false ∷ ms) → open_request ms ≡ None → turns_since is_answer ms + 1 ≤ wait limits + 0 + 0
      short (inl w) job l o =
          let a = turn_short limits job (awaited job (Turned false ∷ ms)) (Turned false ∷ ms) (sym (turn_reacts false job l.job_is l.cause_is) ∙ w) l.lasts (awaits_closed false job o) in
          omega (arith, a)
      short (inr w) job l o = let r = repeats_open limits (Turned false) ms w in absurd (off r.0 (sym o ∙ r.1))

  -- ---- a notice
  same_job : (job : Job) (more : List Mark) → job_of more ≡ job_of ms → cause_of more ≡ cause_of ms → Live job more → Live job ms
  same_job job more j c l = record { job_is = sym j ∙ l.job_is; cause_is = sym c ∙ l.cause_is; lasts = l.lasts }

  zero_or : (i : ℕ) → (i ≡ 0) ⊎ (1 ≤ i)
  zero_or zero = inl refl
  zero_or (suc i) = inr (omega arith)

  fresh_not : (c : Bool) (more : List Mark) → list_any is_answer (this_phase more) ≡ true → extra limits (fresh c more) ≡ 0
  fresh_not true more h = refl
  fresh_not false more h = ap (λ (y : Bool). extra limits (not y)) h

  hint_awaits : (q : Request) → reaction limits Hinted ms ≡ Ask q → (job : Job) → job_of ms ≡ Some job → cause_of ms ≡ None → awaited job (Hinted ∷ ms) ≡ TheState
  hint_awaits q e job j c = (hint_asks (awaited job (Hinted ∷ ms)) q (sym (reacts limits Hinted ms job c j) ∙ e)).1

  hint_state : (q : Request) → reaction limits Hinted ms ≡ Ask q → (job : Job) → job_of ms ≡ Some job → cause_of ms ≡ None → q ≡ AskState
  hint_state q e job j c = (hint_asks (awaited job (Hinted ∷ ms)) q (sym (reacts limits Hinted ms job c j) ∙ e)).0

  hint_may : (q : Request) → reaction limits Hinted ms ≡ Ask q → MayAsk limits n b (Hinted ∷ ms) q
  hint_may q e = record { outputs = outputs; beat = beat; gap = gap }
    where
      k : AsksLive ms (Hinted ∷ ms)
      k = asks_live limits Hinted ms q e

      awaits : (job : Job) → job_of ms ≡ Some job → cause_of ms ≡ None → AwaitsState job (Hinted ∷ ms)
      awaits job j c = awaits_state job (Hinted ∷ ms) (hint_awaits q e job j c)

      outputs : (job : Job) → Live job (Hinted ∷ ms) → is_by_list job.task ≡ false → is_reached job.task (Hinted ∷ ms) ≡ true → is_passed job (Hinted ∷ ms) ≡ false → ⊥
      outputs job l f r p =
          let d = st.core.outputs job (same_job job (Hinted ∷ ms) refl refl l) f (sym (reached_silent job Hinted ms tt) ∙ r) (sym (passed_silent job Hinted ms tt) ∙ p) in
          clash (sym d.target ∙ (awaits job l.job_is l.cause_is).other d.state d.latest_is)

      going : (job : Job) → job_of ms ≡ Some job → cause_of ms ≡ None → is_passed job ms ≡ true → ⊥
      going job j c p = clash (sym p ∙ sym (passed_silent job Hinted ms tt) ∙ (awaits job j c).going)

      beat : (job : Job) → Live job (Hinted ∷ ms) → is_passed job (Hinted ∷ ms) ≡ true → (q ≡ AskError) ⊎ ((b ≡ true) × (n ≡ 0))
      beat job l p = absurd (clash (sym p ∙ (awaits job l.job_is l.cause_is).going))

      gap : list_any is_answer ms ≡ true → turns_since is_answer ms ≤ wait limits + limits.turn_limit + 1
      gap h = by (is_by_end k.job.task) refl (zero_or n)
        where
          w : AwaitsState k.job (Hinted ∷ ms)
          w = awaits k.job k.job_is k.cause_is

          by : (y : Bool) → is_by_end k.job.task ≡ y → (n ≡ 0) ⊎ (1 ≤ n) → turns_since is_answer ms ≤ wait limits + limits.turn_limit + 1
          by true f z = absurd (end_asks limits js k.job ms (Hinted ∷ ms) q legal (at_stage k.job k.job_is k.cause_is) (asks_open limits Hinted ms q e) f refl (λ p. passed_silent k.job Hinted ms tt ∙ p) (inr (hint_state q e k.job k.job_is k.cause_is, inl (hint_awaits q e k.job k.job_is k.cause_is)))
              (λ v. others (sym (hint_awaits q e k.job k.job_is k.cause_is) ∙ v)))
            where
              others : TheState ≡ TheOthers → ⊥
              others z = cc
          by false f (inr z) = absurd (going k.job k.job_is k.cause_is (passed_verdict ms k.job k.cause_is k.job_is (st.core.settled z)))
          by false f (inl z) =
              let a = st.short k.job (record { job_is = k.job_is; cause_is = k.cause_is; lasts = f }) (asks_open limits Hinted ms q e) h in
              let v = fresh_not b ms (latest_answered ms w.request w.answer w.latest_is) in
              omega (arith, a, v, z)

  pub hinted : Stands limits n b (marks_after limits Hinted ms)
  hinted = finish limits n b (Hinted ∷ ms) (reaction limits Hinted ms) (record { settled = λ l. settled_more Hinted ms tt (st.core.settled l); outputs = outputs; beat = λ job l p q o. st.core.beat job (same_job job (Hinted ∷ ms) refl refl l) (sym (passed_silent job Hinted ms tt) ∙ p) q o; first = st.core.first })
      (λ w job l o h. short job l o h) hint_may st.gaps
    where
      outputs : (job : Job) → Live job (Hinted ∷ ms) → is_by_list job.task ≡ false → is_reached job.task (Hinted ∷ ms) ≡ true → is_passed job (Hinted ∷ ms) ≡ false → Told job (Hinted ∷ ms)
      outputs job l f r p =
          let d = st.core.outputs job (same_job job (Hinted ∷ ms) refl refl l) f (sym (reached_silent job Hinted ms tt) ∙ r) (sym (passed_silent job Hinted ms tt) ∙ p) in
          record { state = d.state; latest_is = d.latest_is; target = d.target }

      short : (job : Job) → Live job (Hinted ∷ ms) → open_request ms ≡ None → list_any is_answer ms ≡ true → turns_since is_answer ms ≤ wait limits + n + extra limits (fresh b (Hinted ∷ ms))
      short job l o h =
          let a = st.short job (same_job job (Hinted ∷ ms) refl refl l) o h in
          let f = ap (extra limits) (fresh_silent b Hinted ms tt) in
          omega (arith, a, f)

  -- ---- outputs
  module _ (number : ℕ) (payload : List ℕ) where
    abbrev brought_marks : List Mark
    brought_marks = Brought number payload ∷ ms

    brought_waits : (q : Request) → reaction limits (Brought number payload) ms ≡ Ask q → ⊥
    brought_waits q e = let k = asks_live limits (Brought number payload) ms q e in wait_ask q (sym (reacts limits (Brought number payload) ms k.job k.cause_is k.job_is) ∙ e)

    brought_list : (job : Job) → is_by_list job.task ≡ true → is_passed job brought_marks ≡ true → is_passed job ms ≡ true
    brought_list job f p =
        ap (λ (y : Bool). if y then nat_le (length job.list) (settings_answered ms) else if is_by_end job.task then list_any acks_change (this_phase ms) else (is_reached job.task ms && has_row_outputs (task_row job.task) ms)) f
        ∙ sym (ap (λ (y : Bool). if y then nat_le (length job.list) (settings_answered brought_marks) else if is_by_end job.task then list_any acks_change (this_phase brought_marks) else (is_reached job.task brought_marks && has_row_outputs (task_row job.task) brought_marks)) f)
        ∙ p

    pub brought : Stands limits n b (marks_after limits (Brought number payload) ms)
    brought = finish limits n b brought_marks (reaction limits (Brought number payload) ms)
        (record { settled = λ l. settled_more (Brought number payload) ms tt (st.core.settled l); outputs = outputs; beat = beat; first = st.core.first })
        (λ w job l o h. short job l o h) (λ q e. absurd (brought_waits q e)) st.gaps
      where
        outputs : (job : Job) → Live job brought_marks → is_by_list job.task ≡ false → is_reached job.task brought_marks ≡ true → is_passed job brought_marks ≡ false → Told job brought_marks
        outputs job l f r p =
            let d = st.core.outputs job (same_job job brought_marks refl refl l) f (sym (reached_brought job number payload ms) ∙ r) (not_yet (is_passed job ms) refl) in
            record { state = d.state; latest_is = d.latest_is; target = d.target }
          where
            not_yet : (y : Bool) → is_passed job ms ≡ y → is_passed job ms ≡ false
            not_yet true z = absurd (clash (sym (passed_more job (Brought number payload) ms tt z) ∙ p))
            not_yet false z = z

        beat : (job : Job) → Live job brought_marks → is_passed job brought_marks ≡ true → (q : Request) → open_request ms ≡ Some q → (q ≡ AskError) ⊎ ((b ≡ true) × (n ≤ turns_since is_asked ms))
        beat job l p q o = by (is_passed job ms) refl (is_by_list job.task) refl
          where
            told_open : Told job ms → ⊥
            told_open d = let z : None ≡ Some q = ap open_in (sym d.latest_is) ∙ o in cc

            by : (y : Bool) → is_passed job ms ≡ y → (w : Bool) → is_by_list job.task ≡ w → (q ≡ AskError) ⊎ ((b ≡ true) × (n ≤ turns_since is_asked ms))
            by true z w f = st.core.beat job (same_job job brought_marks refl refl l) z q o
            by false z true f = absurd (clash (sym (brought_list job f p) ∙ z))
            by false z false f = absurd (told_open (st.core.outputs job (same_job job brought_marks refl refl l) f (sym (reached_brought job number payload ms) ∙ passed_reached job brought_marks f l.lasts p) z))

        same_fresh : (c : Bool) → fresh c brought_marks ≡ fresh c ms
        same_fresh true = refl
        same_fresh false = refl

        short : (job : Job) → Live job brought_marks → open_request ms ≡ None → list_any is_answer ms ≡ true → turns_since is_answer ms ≤ wait limits + n + extra limits (fresh b brought_marks)
        short job l o h =
            let a = st.short job (same_job job brought_marks refl refl l) o h in
            let f = ap (extra limits) (same_fresh b) in
            omega (arith, a, f)

  -- ---- an answer
  module _ (r : Request) (a : Answer) (o : open_request ms ≡ Some r) where
    abbrev answered_marks : List Mark
    answered_marks = Answered r a ∷ ms

    not_begun : (xs : List Mark) → job_of xs ≡ None → list_any is_begun xs ≡ false
    not_begun [] e = refl
    not_begun (Begun job ∷ xs) e = absurd cc
    not_begun (Asked q ∷ xs) e = not_begun xs e
    not_begun (Again ∷ xs) e = not_begun xs e
    not_begun (Answered q c ∷ xs) e = not_begun xs e
    not_begun (Hinted ∷ xs) e = not_begun xs e
    not_begun (Brought i c ∷ xs) e = not_begun xs e
    not_begun (Turned s ∷ xs) e = not_begun xs e
    not_begun (Ended c ∷ xs) e = not_begun xs e

    names_now : (t : Option State) (q : Request) (c : Answer) (ph : List Mark) → named_in t ph ≡ false → named_in t (Answered q c ∷ ph) ≡ true → (s : ℕ) × ((q ≡ AskState) × ((c ≡ StateAck s) × (is_state t s ≡ true)))
    names_now None q c ph f h = absurd (clash (sym h))
    names_now (Some state) q c ph f h = by q c (two (names (state_code state) (Answered q c)) refl h)
      where
        two : (y : Bool) → names (state_code state) (Answered q c) ≡ y → (y || list_any (names (state_code state)) ph) ≡ true → names (state_code state) (Answered q c) ≡ true
        two true e z = e
        two false e z = absurd (clash (sym z ∙ f))

        by : (q : Request) (c : Answer) → names (state_code state) (Answered q c) ≡ true → (s : ℕ) × ((q ≡ AskState) × ((c ≡ StateAck s) × (is_state (Some state) s ≡ true)))
        by AskState (StateAck s) e = (s, (refl, (refl, e)))
        by AskState Ack e = absurd (clash (sym e))
        by AskState (Nack i) e = absurd (clash (sym e))
        by AskState (ErrorAck i) e = absurd (clash (sym e))
        by AskState LogAck e = absurd (clash (sym e))
        by (Change s d) c e = absurd (clash (sym e))
        by (Configure d) c e = absurd (clash (sym e))
        by AskError c e = absurd (clash (sym e))

    -- the target is told, where it is reached and outputs are missing
    tells : (job : Job) → Live job answered_marks → is_by_list job.task ≡ false → is_reached job.task answered_marks ≡ true → is_passed job answered_marks ≡ false → (s : ℕ) × ((r ≡ AskState) × ((a ≡ StateAck s) × (is_state (target_of job.task) s ≡ true)))
    tells job l f h p = by (is_reached job.task ms) refl (is_passed job ms) refl
      where
        told_open : Told job ms → ⊥
        told_open d = let z : None ≡ Some r = ap open_in (sym d.latest_is) ∙ o in cc

        by : (y : Bool) → is_reached job.task ms ≡ y → (w : Bool) → is_passed job ms ≡ w → (s : ℕ) × ((r ≡ AskState) × ((a ≡ StateAck s) × (is_state (target_of job.task) s ≡ true)))
        by true e true g = absurd (clash (sym (passed_more job (Answered r a) ms tt g) ∙ p))
        by true e false g = absurd (told_open (st.core.outputs job (same_job job answered_marks refl refl l) f e g))
        by false e w g = names_now (target_of job.task) r a (this_phase ms) (sym (reached_is job ms) ∙ e) (sym (reached_is job answered_marks) ∙ h)

    pub answered : Stands limits n b (marks_after limits (Answered r a) ms)
    answered = finish limits n b answered_marks (reaction limits (Answered r a) ms)
        (record { settled = λ l. settled_more (Answered r a) ms tt (st.core.settled l); outputs = outputs; beat = λ job l p q z. absurd (off q z); first = first })
        (λ w job l z h. omega arith) asks st.gaps
      where
        off : (q : Request) → None ≡ Some q → ⊥
        off q z = cc

        first : job_of ms ≡ None → true ≡ false
        first j = sym (exchange_begun limits js (Answered r a) ms ((rests, o), legal) tt) ∙ not_begun ms j

        outputs : (job : Job) → Live job answered_marks → is_by_list job.task ≡ false → is_reached job.task answered_marks ≡ true → is_passed job answered_marks ≡ false → Told job answered_marks
        outputs job l f h p =
            let z = tells job l f h p in
            record { state = z.0; latest_is = ap (λ (y : Request). latests.Answered y a) z.1.0 ∙ ap (λ (y : Answer). latests.Answered AskState y) z.1.1.0; target = z.1.1.1 }

        asks : (q : Request) → reaction limits (Answered r a) ms ≡ Ask q → MayAsk limits n b answered_marks q
        asks q e = record {
          outputs = λ job l f h p. no_outputs job l (tells job l f h p);
          beat = λ job l p. inl (answer_asks limits js job ms r a q legal l.lasts (at_stage job l.job_is l.cause_is) o (sym (reacts limits (Answered r a) ms job l.cause_is l.job_is) ∙ e) p);
          gap = λ h. omega arith;
        }
          where
            target_waits : (job : Job) (s : ℕ) → is_state (target_of job.task) s ≡ true → on_answer limits job AskState (StateAck s) ms (Answered AskState (StateAck s) ∷ ms) ≡ Wait
            target_waits job s t =
                ap (λ (y : Bool). if y then Ask AskError else if is_state (target_of job.task) s then Wait else on_other_state limits job s ms (Answered AskState (StateAck s) ∷ ms)) (target_no_error job.task s t)
                ∙ ap (λ (y : Bool). if y then Wait else on_other_state limits job s ms (Answered AskState (StateAck s) ∷ ms)) t

            no_outputs : (job : Job) → Live job answered_marks → (s : ℕ) × ((r ≡ AskState) × ((a ≡ StateAck s) × (is_state (target_of job.task) s ≡ true))) → ⊥
            no_outputs job l z =
                let f : on_answer limits job r a ms answered_marks ≡ Ask q = sym (reacts limits (Answered r a) ms job l.cause_is l.job_is) ∙ e in
                let P : Request → Type 0 = λ y. on_answer limits job y a ms (Answered y a ∷ ms) ≡ Ask q in
                let Q : Answer → Type 0 = λ y. on_answer limits job AskState y ms (Answered AskState y ∷ ms) ≡ Ask q in
                wait_ask q (sym (target_waits job z.0 z.1.1.1) ∙ subst Q z.1.1.0 (subst P z.1.0 f))

  -- ---- a phase begins
  module _ (j : Job) (o : open_request ms ≡ None) (few : n ≤ limits.turn_limit) (one : b ≡ false → n ≤ 1) where
    abbrev begun_marks : List Mark
    begun_marks = Begun j ∷ ms

    none_reached : is_reached j.task begun_marks ≡ false
    none_reached = reached_is j begun_marks ∙ by (target_of j.task)
      where
        by : (t : Option State) → named_in t [] ≡ false
        by None = refl
        by (Some state) = refl

    -- the phase before has passed, or there is none
    pub begun_before : ((job : Job) → job_of ms ≡ Some job → (cause_of ms ≡ None) × ((is_by_end job.task ≡ false) × ((is_by_list j.task ≡ true → is_by_list job.task ≡ false) × (is_passed job ms ≡ true)))) → Stands limits 0 false (marks_after limits (Begun j) ms)
    begun_before prior = finish limits 0 false begun_marks (reaction limits (Begun j) ms)
        (record { settled = λ l. absurd (omega (arith, l)); outputs = λ job l f h p. absurd (clash (sym (ap (λ (x : Job). is_reached x.task begun_marks) (same_job_now job l) ∙ h) ∙ none_reached)); beat = λ job l p q z. absurd (off q z); first = λ z. absurd (some_job z) })
        (λ w job l z h. waits w h) asks st.gaps
      where
        off : (q : Request) → None ≡ Some q → ⊥
        off q z = cc

        some_job : Some j ≡ None → ⊥
        some_job z = cc

        same_job_now : (job : Job) → Live job begun_marks → j ≡ job
        same_job_now job l = let z : Some j ≡ Some job = l.job_is in cc

        -- an answer came in a phase without a list
        answers_here : (job : Job) → is_by_list job.task ≡ false → is_by_end job.task ≡ false → is_passed job ms ≡ true → list_any is_answer (this_phase ms) ≡ true
        answers_here job f g p = by (target_of job.task) (sym (reached_is job ms) ∙ passed_reached job ms f g p)
          where
            names_answer : (code : ℕ) (m : Mark) → names code m ≡ true → is_answer m ≡ true
            names_answer code (Answered q c) e = refl
            names_answer code (Begun k) e = absurd (clash (sym e))
            names_answer code (Asked q) e = absurd (clash (sym e))
            names_answer code Again e = absurd (clash (sym e))
            names_answer code Hinted e = absurd (clash (sym e))
            names_answer code (Brought i c) e = absurd (clash (sym e))
            names_answer code (Turned s) e = absurd (clash (sym e))
            names_answer code (Ended c) e = absurd (clash (sym e))

            any : (code : ℕ) (ph : List Mark) → list_any (names code) ph ≡ true → list_any is_answer ph ≡ true
            any code [] e = e
            any code (m ∷ ph) e = two (names code m) refl e (λ z. any code ph z)
              where
                right : (y z : Bool) → z ≡ true → (y || z) ≡ true
                right true z h = refl
                right false z h = h

                two : (y : Bool) → names code m ≡ y → (y || list_any (names code) ph) ≡ true → (list_any (names code) ph ≡ true → list_any is_answer ph ≡ true) → (is_answer m || list_any is_answer ph) ≡ true
                two true f z g = ap (λ (t : Bool). t || list_any is_answer ph) (names_answer code m f)
                two false f z g = right (is_answer m) (list_any is_answer ph) (g z)

            by : (t : Option State) → named_in t (this_phase ms) ≡ true → list_any is_answer (this_phase ms) ≡ true
            by None z = absurd (clash (sym z))
            by (Some state) z = any (state_code state) (this_phase ms) z

        no_answer : job_of ms ≡ None → list_any is_answer ms ≡ true → ⊥
        no_answer z h = clash (sym h ∙ st.core.first z)

        waits : (reaction limits (Begun j) ms ≡ Wait) ⊎ (reaction limits (Begun j) ms ≡ Repeat) → list_any is_answer ms ≡ true → turns_since is_answer ms ≤ wait limits + 0 + extra limits true
        waits w h = by (job_of ms) refl w
          where
            repeats : reaction limits (Begun j) ms ≡ Repeat → ⊥
            repeats e = let z = repeats_open limits (Begun j) ms e in off z.0 z.1

            empty : cause_of ms ≡ None → reaction limits (Begun j) ms ≡ Wait → is_by_list j.task ≡ true
            empty c e = two (job_asks j) (first_waits (asked_by j) (sym (reacts limits (Begun j) ms j c refl) ∙ e))
              where
                two : Asks j → asked_by j ≡ [] → is_by_list j.task ≡ true
                two (by_list f g) z = f
                two (by_one s d f g) z = let y : Change s d ∷ [] ≡ [] = sym g ∙ z in absurd cc

            by : (k : Option Job) → job_of ms ≡ k → (reaction limits (Begun j) ms ≡ Wait) ⊎ (reaction limits (Begun j) ms ≡ Repeat) → turns_since is_answer ms ≤ wait limits + 0 + extra limits true
            by None f w = absurd (no_answer f h)
            by (Some job) f (inr w) = absurd (repeats w)
            by (Some job) f (inl w) =
                let z = prior job f in
                let a = st.short job (record { job_is = f; cause_is = z.0; lasts = z.1.0 }) o h in
                let v = fresh_not b ms (answers_here job (z.1.1.0 (empty z.0 w)) z.1.0 z.1.1.1) in
                omega (arith, a, v, few)

        asks : (q : Request) → reaction limits (Begun j) ms ≡ Ask q → MayAsk limits 0 false begun_marks q
        asks q e = record { outputs = λ job l f h p. clash (sym (ap (λ (x : Job). is_reached x.task begun_marks) (same_job_now job l) ∙ h) ∙ none_reached); beat = λ job l p. absurd (not_passed job l p); gap = gap }
          where
            first_is : (rest : List Request) × (asked_by j ≡ q ∷ rest)
            first_is = let k = asks_live limits (Begun j) ms q e in first_asks (asked_by j) q (sym (reacts limits (Begun j) ms j k.cause_is refl) ∙ e)

            not_passed : (job : Job) → Live job begun_marks → is_passed job begun_marks ≡ true → ⊥
            not_passed job l p =
                let z : passed_in j [] ≡ true = sym (passed_is j begun_marks) ∙ ap (λ (x : Job). is_passed x begun_marks) (same_job_now job l) ∙ p in
                two (is_by_list j.task) refl (is_by_end j.task) (ap (λ (x : Job). is_by_end x.task) (same_job_now job l) ∙ l.lasts) (target_of j.task) z
              where
                long : Asks j → is_by_list j.task ≡ true → 1 ≤ length j.list
                long (by_list f g) h =
                    let a = length_map j.list in
                    let c = ap length g in
                    let d = ap length first_is.1 in
                    omega (arith, a, c, d)
                long (by_one s d f g) h = absurd (clash (sym h ∙ f))

                two : (y : Bool) → is_by_list j.task ≡ y → (w : Bool) → w ≡ false → (t : Option State) → (if y then nat_le (length j.list) 0 else if w then false else (named_in t [] && rows_in (task_row j.task) [])) ≡ true → ⊥
                two true f w g t z = let a = leb-true (length j.list) 0 z in let c = long (job_asks j) f in absurd (omega (arith, a, c))
                two false f true g t z = clash g
                two false f false g None z = clash (sym z)
                two false f false g (Some s) z = clash (sym z)

            gap : list_any is_answer ms ≡ true → turns_since is_answer ms ≤ wait limits + limits.turn_limit + 1
            gap h = by (job_of ms) refl b refl
              where
                most : (y : Bool) → extra limits y ≤ limits.turn_limit
                most true = omega arith
                most false = omega arith

                by : (k : Option Job) → job_of ms ≡ k → (c : Bool) → b ≡ c → turns_since is_answer ms ≤ wait limits + limits.turn_limit + 1
                by None f c g = absurd (no_answer f h)
                by (Some job) f true g =
                    let z = prior job f in
                    let a = st.short job (record { job_is = f; cause_is = z.0; lasts = z.1.0 }) o h in
                    let v : extra limits (fresh b ms) ≡ 0 = ap (λ (y : Bool). extra limits (fresh y ms)) g in
                    omega (arith, a, v, few)
                by (Some job) f false g =
                    let z = prior job f in
                    let a = st.short job (record { job_is = f; cause_is = z.0; lasts = z.1.0 }) o h in
                    let v = most (fresh b ms) in
                    let w = one g in
                    omega (arith, a, v, w)
