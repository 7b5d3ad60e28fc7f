-- A step that is asked again waits.
use Rattle.std.proofs.Common.{◌≡◌, ℕ, zero, suc, ◌+◌, ◌-◌, ◌≤◌, ◌⊎◌, inl, inr, Bool, true, false, if◌then◌else◌, Option, Some, None, List, [], ◌∷◌, ◌++◌, refl, sym, ap, ◌∙◌, subst, arith}
use Rattle.std.specs.Prelude.{slice_get, ◌%◌, ◌==◌, ◌&&◌, ◌||◌, nat_le, nat_lt, is_some}
use Rattle.std.proofs.lemmas.Bool.{leb-true, eqb-true}
use Rattle.dcp_types.specs.declared.limits.Limits.{Limits}
use Rattle.dcp_types.specs.declared.states.State.{State}
use Rattle.dcp_ends.specs.declared.entries.LogEntry.{LogEntry}
use Rattle.master_spec.specs.declared.causes.Cause.{Cause}
use Rattle.master_spec.specs.declared.requests.Request.{Request}
use Rattle.master_spec.specs.declared.requests.Request.TheVariants.{Change, Configure, AskState, AskError}
use Rattle.master_spec.specs.declared.requests.Answer.{Answer}
use Rattle.master_spec.specs.declared.requests.Answer.TheVariants.{Ack, Nack, StateAck, ErrorAck, LogAck}
use Rattle.master_spec.specs.declared.requests.Latest.{Latest}
use Rattle.master_spec.specs.declared.requests.Latest.TheVariants as latests
use Rattle.master_spec.specs.declared.reactions.Reaction.TheVariants.{Wait, Ask}
use Rattle.master_spec.specs.declared.reactions.Awaited.{Awaited}
use Rattle.master_spec.specs.declared.reactions.Awaited.TheVariants.{TheAnswer, TheState, TheInputs, TheOutputs, TheOthers}
use Rattle.master_spec.specs.declared.setups.Slave.{Slave}
use Rattle.master_spec.specs.declared.setups.Setup.{Setup}
use Rattle.master_spec.specs.Setup.{jobs_of}
use Rattle.master_spec.specs.Jobs.{Job}
use Rattle.master_spec.specs.Tasks.{asks_step, target_of}
use Rattle.master_spec.specs.Marks.{Mark, Begun, Asked, Again, Answered, Hinted, Brought, Turned, Ended, asked, count, is_answer, is_begun, job_of, cause_of, latest, settings_answered, turns_since, is_passed}
use Rattle.master_spec.specs.Conversation.{is_error, is_state, awaited, awaited_by, awaited_after, awaited_after_state, on_answer, on_mark, on_turn, reaction, reaction_in}
use Rattle.master_spec.specs.Requests.{Asking, acked, asks, is_main, is_step, of_phase, phase_at, turns_before}
use Rattle.master_log_laws.specs.Asking.Legal.{AreLegal, GoesByRule}
use Rattle.master_log_laws.proofs.Asking.Legal.{going}
use Rattle.master_log_laws.specs.Index.Runs.{course_at, events_of_master}
use Rattle.master_log_laws.specs.Index.Index.{Placed, marks_of, first_at, again_at, decided_at, askings_told, ReadBack}
use Rattle.master_log_laws.specs.Index.Follows.{talk_with}
use Rattle.master_log_laws.specs.Index.Late.{AreLate, IsLate, StandsByLog}
use Rattle.master_log_laws.specs.Index.Dates.{clock, AreDated, IsDated}
use Rattle.master_log_laws.proofs.Index.Laws.{listens}
use Rattle.master_log_laws.proofs.Index.Reported.{reported}
use Rattle.master_log_laws.proofs.Index.Runs.{with_at}
use Rattle.master_log_laws.proofs.Phases.Now.{now, now_by, past, Linked, linked, split}
use Rattle.master_log_laws.proofs.Phases.Mains.{AreQuestions, of_step}
use Rattle.master_log_laws.proofs.Phases.Inverse.{reacts, list_asks, ack_asks, nack_asks, state_asks, hint_asks, turn_asks}
use Rattle.master_log_laws.proofs.Phases.Tags.{no_reaction, AtMost, Exactly, exactly_now, of_phase_before, past_at_most}
use Rattle.completeness_laws.specs.Reasons.{Waits}
use Rattle.completeness_laws.specs.Completes.{StepsWait}
use Rattle.master_log_laws.proofs.Failures.Turns.{turns_to}
use Rattle.master_log_laws.proofs.Failures.Silences.{answers_in_phases}
use Rattle.master_log_laws.proofs.Failures.Lasts.{Lasts, lasts}
use Rattle.master_log_laws.proofs.Failures.Missing.{answer_place}

clash : true ≡ false → ⊥
clash z = cc

-- ---- what a step is asked after
no_step : (q : Request) → asks_step q ≡ true → asks_step q ≡ false → ⊥
no_step q a b = clash (sym a ∙ b)

state_no_step : (q : Request) → q ≡ AskState → asks_step q ≡ true → ⊥
state_no_step q e a = no_step q a (ap asks_step e)

error_no_step : (q : Request) → q ≡ AskError → asks_step q ≡ true → ⊥
error_no_step q e a = no_step q a (ap asks_step e)

answer_no_step : (limits : Limits) (job : Job) (request : Request) (a : Answer) (older marks : List Mark) (q : Request) → on_answer limits job request a older marks ≡ Ask q → asks_step q ≡ true → ⊥
answer_no_step limits job request (Nack code) older marks q e s = nack_asks limits job request code marks q e
answer_no_step limits job (Configure body) Ack older marks q e s = let z = list_asks (slice_get job.list (settings_answered marks)) q e in no_step q s (ap asks_step z.1.1)
answer_no_step limits job (Change st body) Ack older marks q e s = state_no_step q (ack_asks job marks q e) s
answer_no_step limits job AskState (StateAck st) older marks q e s = by (state_asks limits job st older marks q e)
  where
    by : ((q ≡ AskError) × (is_error st ≡ true)) ⊎ (q ≡ AskState) → ⊥
    by (inl z) = error_no_step q z.0 s
    by (inr z) = state_no_step q z s
answer_no_step limits job AskError (ErrorAck code) older marks q e s = cc
answer_no_step limits job AskState Ack older marks q e s = cc
answer_no_step limits job AskError Ack older marks q e s = cc
answer_no_step limits job (Change st body) (StateAck c) older marks q e s = cc
answer_no_step limits job (Configure body) (StateAck c) older marks q e s = cc
answer_no_step limits job AskError (StateAck c) older marks q e s = cc
answer_no_step limits job (Change st body) (ErrorAck c) older marks q e s = cc
answer_no_step limits job (Configure body) (ErrorAck c) older marks q e s = cc
answer_no_step limits job AskState (ErrorAck c) older marks q e s = cc
answer_no_step limits job (Change st body) LogAck older marks q e s = cc
answer_no_step limits job (Configure body) LogAck older marks q e s = cc
answer_no_step limits job AskState LogAck older marks q e s = cc
answer_no_step limits job AskError LogAck older marks q e s = cc

-- a refusal of a request that changes the state
record Refuses (l : Latest) (q : Request) : Type 0 where
  pub code : ℕ
  pub is : l ≡ latests.Answered q (Nack code)

refused_state : (t : Option State) (s : ℕ) (passed : Bool) (q : Request) → awaited_after_state t s passed ≡ TheInputs q → ⊥
refused_state t s passed q h = by passed (is_state t s) h
  where
    by : (a b : Bool) → (if a then TheOthers else if b then TheOutputs else TheState) ≡ TheInputs q → ⊥
    by true b z = cc
    by false true z = cc
    by false false z = cc

refused_after : (t : Option State) (r : Request) (a : Answer) (passed : Bool) (q : Request) → awaited_after t r a passed ≡ TheInputs q → Refuses (latests.Answered r a) q
refused_after t (Change s body) (Nack code) passed q h = let z : Change s body ≡ q = cc in record { code = code; is = ap (λ (x : Request). latests.Answered x (Nack code)) z }
refused_after t (Change s body) Ack true q h = absurd cc
refused_after t (Change s body) Ack false q h = absurd cc
refused_after t (Change s body) (StateAck c) passed q h = absurd cc
refused_after t (Change s body) (ErrorAck c) passed q h = absurd cc
refused_after t (Change s body) LogAck passed q h = absurd cc
refused_after t AskState (StateAck s) passed q h = absurd (refused_state t s passed q h)
refused_after t AskState Ack passed q h = absurd cc
refused_after t AskState (Nack code) passed q h = absurd cc
refused_after t AskState (ErrorAck code) passed q h = absurd cc
refused_after t AskState LogAck passed q h = absurd cc
refused_after t (Configure body) a passed q h = absurd cc
refused_after t AskError a passed q h = absurd cc

refused_latest : (job : Job) (l : Latest) (marks : List Mark) (q : Request) → awaited_by job l marks ≡ TheInputs q → Refuses l q
refused_latest job latests.Nothing marks q h = absurd cc
refused_latest job (latests.Asked r) marks q h = absurd cc
refused_latest job (latests.Answered r a) marks q h = refused_after (target_of job.task) r a (is_passed job marks) q h

-- so many turns after that
record IsRetry (limits : Limits) (marks : List Mark) (q : Request) : Type 0 where
  pub refuses : Refuses (latest marks) q
  pub late : limits.retry_turns ≤ turns_since is_answer marks

turn_retry : (limits : Limits) (job : Job) (a : Awaited) (settled : Bool) (marks : List Mark) (q : Request) → on_turn limits job a settled marks ≡ Ask q → a ≡ TheInputs q → limits.retry_turns ≤ turns_since is_answer marks
turn_retry limits job (TheInputs r) settled marks q e i = by (nat_le limits.retry_turns (turns_since is_answer marks)) refl e
  where
    by : (b : Bool) → nat_le limits.retry_turns (turns_since is_answer marks) ≡ b → (if b then Ask r else Wait) ≡ Ask q → limits.retry_turns ≤ turns_since is_answer marks
    by true z f = leb-true limits.retry_turns (turns_since is_answer marks) z
    by false z f = absurd cc
turn_retry limits job TheAnswer settled marks q e i = absurd cc
turn_retry limits job TheState settled marks q e i = absurd cc
turn_retry limits job TheOutputs settled marks q e i = absurd cc
turn_retry limits job TheOthers settled marks q e i = absurd cc

-- a mark that begins no phase
abbrev IsLater : Mark → Type 0
IsLater (Begun job) = ⊥
IsLater _ = Unit {0}

mark_retry : (limits : Limits) (job : Job) (m : Mark) (older : List Mark) (q : Request) → IsLater m → on_mark limits job m older (m ∷ older) ≡ Ask q → asks_step q ≡ true → IsRetry limits (m ∷ older) q
mark_retry limits job (Begun j) older q l e s = absurd l
mark_retry limits job (Answered r a) older q l e s = absurd (answer_no_step limits job r a older (Answered r a ∷ older) q e s)
mark_retry limits job Hinted older q l e s = absurd (state_no_step q (hint_asks (awaited job (Hinted ∷ older)) q e).0 s)
mark_retry limits job (Turned settled) older q l e s = by (turn_asks limits job (awaited job (Turned settled ∷ older)) settled (Turned settled ∷ older) q e)
  where
    by : (awaited job (Turned settled ∷ older) ≡ TheInputs q) ⊎ ((q ≡ AskState) × ((awaited job (Turned settled ∷ older) ≡ TheState) ⊎ (awaited job (Turned settled ∷ older) ≡ TheOthers))) → IsRetry limits (Turned settled ∷ older) q
    by (inl i) = record { refuses = refused_latest job (latest (Turned settled ∷ older)) (Turned settled ∷ older) q i; late = turn_retry limits job (awaited job (Turned settled ∷ older)) settled (Turned settled ∷ older) q e i }
    by (inr z) = absurd (state_no_step q z.0 s)
mark_retry limits job (Asked r) older q l e s = absurd cc
mark_retry limits job Again older q l e s = absurd cc
mark_retry limits job (Brought n p) older q l e s = absurd cc
mark_retry limits job (Ended c) older q l e s = absurd cc

pub ended_waits : (limits : Limits) (m : Mark) (older : List Mark) (c : Cause) → cause_of older ≡ Some c → reaction limits m older ≡ Wait
unfolding reaction
ended_waits limits m older c z = by (job_of (m ∷ older))
  where
    by : (o : Option Job) → reaction_in limits o m older (m ∷ older) ≡ Wait
    by None = refl
    by (Some job) = ap (λ (x : Option Cause). if is_some x then Wait else on_mark limits job m older (m ∷ older)) z

does_retry : (limits : Limits) (m : Mark) (older : List Mark) (q : Request) → IsLater m → reaction limits m older ≡ Ask q → asks_step q ≡ true → IsRetry limits (m ∷ older) q
does_retry limits m older q l e s = by (job_of (m ∷ older)) refl (cause_of older) refl
  where
    not_wait : Wait ≡ Ask q → ⊥
    not_wait z = cc

    ended : (c : Cause) → cause_of older ≡ Some c → reaction limits m older ≡ Wait
    ended c z = ended_waits limits m older c z

    by : (o : Option Job) → job_of (m ∷ older) ≡ o → (c : Option Cause) → cause_of older ≡ c → IsRetry limits (m ∷ older) q
    by None j c z = absurd (not_wait (sym (no_reaction limits m older j) ∙ e))
    by (Some job) j None z = mark_retry limits job m older q l (sym (reacts limits m older job z j) ∙ e) s
    by (Some job) j (Some c) z = absurd (not_wait (sym (ended c z) ∙ e))

-- ---- along the marks of a conversation
module _ (setup : Setup) (slave : Slave) (log : List LogEntry) where
  abbrev js : List Job
  js = jobs_of setup slave

  later_mark : (place : ℕ) (m : Mark) (marks : List Mark) (bs : List Asking) (a : Asking) (rest : List Asking) → now_by place m marks bs ≡ a ∷ rest → IsLater m
  later_mark place (Begun j) marks bs a rest n = absurd cc
  later_mark place (Asked r) marks bs a rest n = tt
  later_mark place Again marks bs a rest n = tt
  later_mark place (Answered r x) marks bs a rest n = tt
  later_mark place Hinted marks bs a rest n = tt
  later_mark place (Brought k p) marks bs a rest n = tt
  later_mark place (Turned s) marks bs a rest n = tt
  later_mark place (Ended c) marks bs a rest n = tt

  asked_late : (x : ℕ) (q : Request) (xs : List Placed) (a : Asking) (rest : List Asking) → AreLegal setup.limits js (Asked q ∷ marks_of xs) → IsDated setup slave log x (Asked q) xs → AreDated setup slave log xs → now xs ≡ a ∷ rest → asks_step q ≡ true
      → Waits setup log (first_at x (asked (marks_of xs) % 65536) q) a
  asked_late x q [] a rest l d ds n s = absurd l.0
  asked_late x q (y ∷ ys) a rest l d ds n s =
      let xs : List Placed = y ∷ ys in
      let k = does_retry setup.limits y.mark (marks_of ys) q (later_mark y.place y.mark (marks_of ys) (now ys) a rest n) l.0 s in
      let P : List Asking → Type 0 = λ z. Linked (latest (marks_of xs)) z in
      let Q : Latest → Type 0 = λ z. Linked z (a ∷ rest) in
      let w : Q (latests.Answered q (Nack k.refuses.code)) = subst Q k.refuses.is (subst P n (linked setup.limits js xs l.1)) in
      let place : ℕ = w.1.0 in
      let decided : a.decision ≡ Some (record { place = place; answer = Nack k.refuses.code }) = w.1.1 in
      let newest = answer_place setup.limits js xs a rest (record { place = place; answer = Nack k.refuses.code }) l.1 n decided in
      let turns : clock (marks_of xs) ≡ turns_before setup.address log place + turns_since is_answer (marks_of xs) = turns_to setup slave log setup.limits js is_answer xs place (answers_in_phases setup.limits js) l.1 ds newest in
      let now_turns : turns_before setup.address log x ≡ clock (marks_of xs) = d.turns in
      let late : setup.limits.retry_turns ≤ turns_since is_answer (marks_of xs) = k.late in
      record { place = place; code = k.refuses.code; decided = decided; step = of_step q a w.0 ∙ s; late = sums (turns_before setup.address log place) setup.limits.retry_turns (turns_before setup.address log x) (clock (marks_of xs)) (turns_since is_answer (marks_of xs)) turns now_turns late }
    where
      sums : (p retry t c n : ℕ) → c ≡ p + n → t ≡ c → retry ≤ n → p + retry ≤ t
      sums p retry t c n e f g = omega (arith, e, f, g)

  first_same : (r c a : Asking) → c.first ≡ r.first → Waits setup log c a → Waits setup log r a
  first_same r c a e w = record { place = w.place; code = w.code; decided = w.decided; step = w.step; late = subst (λ (i : ℕ). turns_before setup.address log w.place + setup.limits.retry_turns ≤ turns_before setup.address log i) e w.late }

  step_same : (r c : Asking) → c.code ≡ r.code → is_step r ≡ true → is_step c ≡ true
  step_same r c e s = ap (λ (n : ℕ). n == 7) e ∙ s

  pub waits : (xs : List Placed) (r a : Asking) (rest : List Asking) → AreLegal setup.limits js (marks_of xs) → AreDated setup slave log xs → now xs ≡ r ∷ a ∷ rest → is_step r ≡ true → Waits setup log r a
  waits [] r a rest l d n s = absurd cc
  waits (x ∷ xs) r a rest l d n s = by x.mark l d.0 n (λ c z t. waits xs c a rest l.1 d.1 z t)
    where
      More : Type 0
      More = (c : Asking) → now xs ≡ c ∷ a ∷ rest → is_step c ≡ true → Waits setup log c a

      again : (bs : List Asking) → again_at x.place bs ≡ r ∷ a ∷ rest → ((c : Asking) → bs ≡ c ∷ a ∷ rest → is_step c ≡ true → Waits setup log c a) → Waits setup log r a
      again [] z f = absurd cc
      again (c ∷ cs) z f =
          let code : c.code ≡ r.code = cc in
          let first : c.first ≡ r.first = cc in
          let tail : cs ≡ a ∷ rest = cc in
          first_same r c a first (f c (ap (λ (y : List Asking). c ∷ y) tail) (step_same r c code s))

      decided : (v : Answer) (bs : List Asking) → decided_at x.place v bs ≡ r ∷ a ∷ rest → ((c : Asking) → bs ≡ c ∷ a ∷ rest → is_step c ≡ true → Waits setup log c a) → Waits setup log r a
      decided v [] z f = absurd cc
      decided v (c ∷ cs) z f =
          let code : c.code ≡ r.code = cc in
          let first : c.first ≡ r.first = cc in
          let tail : cs ≡ a ∷ rest = cc in
          first_same r c a first (f c (ap (λ (y : List Asking). c ∷ y) tail) (step_same r c code s))

      by : (m : Mark) → AreLegal setup.limits js (m ∷ marks_of xs) → IsDated setup slave log x.place m xs → now_by x.place m (marks_of xs) (now xs) ≡ r ∷ a ∷ rest → ((c : Asking) → now xs ≡ c ∷ a ∷ rest → is_step c ≡ true → Waits setup log c a) → Waits setup log r a
      by (Begun j) k w z f = absurd cc
      by (Asked q) k w z f =
          let head : first_at x.place (asked (marks_of xs) % 65536) q ≡ r = cc in
          let tail : now xs ≡ a ∷ rest = cc in
          let step : asks_step q ≡ true = sym (of_step q (first_at x.place (asked (marks_of xs) % 65536) q) (refl, refl)) ∙ ap is_step head ∙ s in
          let P : Asking → Type 0 = λ y. Waits setup log y a in
          subst P head (asked_late x.place q xs a rest k w d.1 tail step)
      by Again k w z f = again (now xs) z f
      by (Answered q v) k w z f = decided v (now xs) z f
      by Hinted k w z f = f r z s
      by (Brought i p) k w z f = f r z s
      by (Turned t) k w z f = f r z s
      by (Ended c) k w z f = f r z s

-- ---- from the marks to the log
step_main : (b : Asking) → is_step b ≡ true → is_main b ≡ true
step_main b s = ap (λ (m : ℕ). (nat_le 1 m && nat_le m 10) || (nat_le 32 m && nat_le m 43)) (eqb-true b.code 7 s)

no_question : (bs : List Asking) (i : ℕ) (b : Asking) → AreQuestions bs → slice_get bs i ≡ Some b → is_step b ≡ true → ⊥
no_question [] i b q e s = cc
no_question (c ∷ bs) zero b q e s = let z : c ≡ b = cc in clash (sym (step_main b s) ∙ ap is_main (sym z) ∙ q.0)
no_question (c ∷ bs) (suc i) b q e s = no_question bs i b q.1 e s

-- the newest request, where none was asked in the phase, is a question
none_now : (js : List Job) (p n : ℕ) (cs bs : List Asking) (r : Asking) (earlier : List Asking) → AreLate n cs bs → AreQuestions (of_phase js p bs) → of_phase js p cs ≡ r ∷ earlier → is_step r ≡ true → ⊥
none_now js p n [] bs r earlier l q e s = cc
none_now js p n (c ∷ cs) [] r earlier l q e s = l
none_now js p n (c ∷ cs) (b ∷ bs) r earlier l q e s = by (is_main b && nat_lt (phase_at js (acked bs)) p) refl q (same ∙ e)
  where
    same_main : is_main c ≡ is_main b
    same_main = ap (λ (m : ℕ). (nat_le 1 m && nat_le m 10) || (nat_le 32 m && nat_le m 43)) (l.0).code

    same : (if is_main b && nat_lt (phase_at js (acked bs)) p then [] else c ∷ of_phase js p cs) ≡ of_phase js p (c ∷ cs)
    same = ap (λ (t : Bool). if t && nat_lt (phase_at js (acked bs)) p then [] else c ∷ of_phase js p cs) (sym same_main) ∙ ap (λ (z : List Asking). if is_main c && nat_lt (phase_at js (acked z)) p then [] else c ∷ of_phase js p cs) (sym l.1)

    by : (t : Bool) → (is_main b && nat_lt (phase_at js (acked bs)) p) ≡ t → AreQuestions (if t then [] else b ∷ of_phase js p bs) → (if t then [] else c ∷ of_phase js p cs) ≡ r ∷ earlier → ⊥
    by true f w z = cc
    by false f w z = let y : c ≡ r = cc in clash (sym (step_main r s) ∙ ap is_main (sym y) ∙ same_main ∙ w.0)

head_same : (x y : Asking) (xs ys : List Asking) → x ∷ xs ≡ y ∷ ys → x ≡ y
head_same x y xs ys h = cc

tail_same : (x y : Asking) (xs ys : List Asking) → x ∷ xs ≡ y ∷ ys → xs ≡ ys
tail_same x y xs ys h = cc

pub steps_wait : StepsWait
steps_wait setup h log run report e slave is r earlier of one s i b here bs = by (now st.xs) refl
  where
    st : StandsByLog setup is.0 slave log (course_at setup log) (asks setup.address slave log)
    st = (reported setup (ReadBack slave.id) is.0 slave (listens setup h.heard is.0 slave is.1) h.heard.runs log run report e).0

    g : GoesByRule setup.limits (jobs_of setup slave) (course_at setup log).phase (marks_of st.xs)
    g = with_at (λ u m. GoesByRule setup.limits (jobs_of setup u) (course_at setup log).phase m) (course_at setup log).talks is.0 (talk_with slave (marks_of st.xs)) (going setup h.heard.runs (events_of_master setup log)).goes st.here

    p : ℕ
    p = (course_at setup log).phase - 1

    phase : (course_at setup log).phase ≡ p + 1
    phase = omega (arith, one)

    begun : count is_begun (marks_of st.xs) ≡ p + 1
    begun = g.phase_is ∙ phase

    exact : Exactly (jobs_of setup slave) (p + 1) (now st.xs) (askings_told (past st.xs))
    exact = let P : ℕ → Type 0 = λ q. Exactly (jobs_of setup slave) q (now st.xs) (askings_told (past st.xs)) in subst P begun (exactly_now setup.limits (jobs_of setup slave) st.xs g.legal)

    most : AtMost (jobs_of setup slave) p (askings_told (past st.xs))
    most = past_at_most setup.limits (jobs_of setup slave) st.xs g.legal p begun

    late : AreLate st.until (asks setup.address slave log) (now st.xs ++ askings_told (past st.xs))
    late = let P : List Asking → Type 0 = λ z. AreLate st.until (asks setup.address slave log) z in subst P (split setup.limits (jobs_of setup slave) st.xs g.legal) st.late

    of_it : of_phase (jobs_of setup slave) (p + 1) (asks setup.address slave log) ≡ r ∷ earlier
    of_it = ap (λ (q : ℕ). of_phase (jobs_of setup slave) q (asks setup.address slave log)) (sym phase) ∙ of

    Goal : Type 0
    Goal = (a : Asking) × (slice_get earlier 0 ≡ Some a) × Waits setup log r a

    whole : (c : Asking) (rest : List Asking) → now st.xs ≡ c ∷ rest → Goal
    whole c rest n = two rest n (f.late) (sym (same_tail))
      where
        f : Lasts (jobs_of setup slave) p st.until (asks setup.address slave log) c rest
        f = lasts (jobs_of setup slave) p st.until (asks setup.address slave log) (now st.xs) (askings_told (past st.xs)) c rest n exact most late

        both : f.newest ∷ (rest ++ f.old) ≡ r ∷ earlier
        both = sym f.of ∙ of_it

        same_tail : rest ++ f.old ≡ earlier
        same_tail = tail_same f.newest r (rest ++ f.old) earlier both

        newest : f.newest ≡ r
        newest = head_same f.newest r (rest ++ f.old) earlier both

        code : c.code ≡ r.code
        code = sym f.late.code ∙ ap (λ (x : Asking). x.code) newest

        first : c.first ≡ r.first
        first = sym f.late.first ∙ ap (λ (x : Asking). x.first) newest

        two : (rest : List Asking) → now st.xs ≡ c ∷ rest → IsLate st.until f.newest c → earlier ≡ rest ++ f.old → Goal
        two [] n k z = absurd (no_question f.old i b f.questions (ap (λ (y : List Asking). slice_get y i) (sym z) ∙ here) bs)
        two (a ∷ rest) n k z = (a, ap (λ (y : List Asking). slice_get y 0) z, first_same setup slave log r c a first (waits setup slave log st.xs c a rest g.legal st.dated.dates n (step_same setup slave log r c code s)))

    by : (ns : List Asking) → now st.xs ≡ ns → Goal
    by [] n =
        let P : List Asking → Type 0 = λ z. AreLate st.until (asks setup.address slave log) (z ++ askings_told (past st.xs)) in
        absurd (none_now (jobs_of setup slave) (p + 1) st.until (asks setup.address slave log) (askings_told (past st.xs)) r earlier (subst P n late) (of_phase_before (jobs_of setup slave) p (askings_told (past st.xs)) most) of_it s)
    by (c ∷ rest) n = whole c rest n
