-- What the log shows of a conversation that ended with an answer.
use Rattle.std.proofs.Common.{◌≡◌, ℕ, zero, suc, ◌+◌, ◌≤◌, Bool, true, false, if◌then◌else◌, Some, None, List, [], ◌∷◌, ◌++◌, length, refl, sym, ap, ◌∙◌, subst, arith, append_assoc}
use Rattle.std.specs.Prelude.{cond, ◌==◌, ◌&&◌, ◌||◌, not, nat_le, count_by, slice_get, find, filter}
use Rattle.std.specs.List.{list_any}
use Rattle.std.proofs.lemmas.Bool.{and_parts, leb-true}
use Rattle.dcp_types.specs.declared.states.State.{State}
use Rattle.pdu_layout.specs.declared.messages.Stc.{Stc}
use Rattle.dcp_ends.specs.declared.entries.LogEntry.{LogEntry}
use Rattle.master_spec.specs.declared.causes.Cause.{Cause}
use Rattle.master_spec.specs.declared.causes.Cause.TheVariants as causes
use Rattle.master_spec.specs.declared.requests.Request.{Request}
use Rattle.master_spec.specs.declared.requests.Request.TheVariants.{Change, Configure, AskState, AskError}
use Rattle.master_spec.specs.declared.requests.Answer.{Answer}
use Rattle.master_spec.specs.declared.requests.Answer.TheVariants.{Ack, Nack, StateAck, ErrorAck, LogAck}
use Rattle.master_spec.specs.declared.tasks.Task.{Task}
use Rattle.master_spec.specs.declared.tasks.Task.TheVariants as tasks
use Rattle.master_spec.specs.declared.setups.Slave.{Slave}
use Rattle.master_spec.specs.declared.setups.Setup.{Setup}
use Rattle.master_spec.specs.Tasks.{is_by_list, asks_step, target_of, passing_of, task_step}
use Rattle.master_spec.specs.Jobs.{Job, asked_by}
use Rattle.master_spec.specs.Marks.{Answered, acks_change, is_asked, before, turns_since, is_missing, refuses_inputs, newest_number, refusals, is_reached, job_of, cause_of}
use Rattle.master_spec.specs.News.{type_in_answer, state_in_answer}
use Rattle.master_spec.specs.Conversation.{is_state, is_error}
use Rattle.master_spec.specs.Requests.{Asking, turns_before, turns_between, is_main, is_step, is_state_question, is_error_question, acked}
use Rattle.master_spec.specs.Exchanged.{IsDecided}
use Rattle.master_spec.specs.Shown.{fits_change, fits_error, fits_state, fits_answer, IsMissing, MissesInputs, IsStuck, IsFaulted, IsRefusedAsking, IsUnexpected, ShownBy}
use Rattle.master_log_laws.specs.Asking.Legal.{AreLegal}
use Rattle.master_log_laws.specs.Index.Index.{Placed, at, marks_of, code_of}
use Rattle.master_log_laws.specs.Index.Late.{IsLate}
use Rattle.master_log_laws.specs.Index.Dates.{clock, AreDated}
use Rattle.master_log_laws.proofs.Phases.Now.{now, IsOf, IsDecidedBy}
use Rattle.master_log_laws.proofs.Phases.Mains.{is_main_request, of_main, of_step, code_is_step, AreQuestions, asked_main, Asks, by_list, by_one, job_asks}
use Rattle.master_log_laws.proofs.Phases.Counts.{names_it, refusals_now, counts, is_question, code_is_question}
use Rattle.master_log_laws.proofs.Phases.Stage.{Main, Question, IsAfter, IsAfterError}
use Rattle.master_log_laws.proofs.Phases.Soon.{refused_few}
use Rattle.master_log_laws.specs.Failures.Because.{Because, MissesAnswer, StuckBy, fits_state_mark, fits_mark}
use Rattle.master_log_laws.proofs.Failures.Turns.{newest, turns_to}
use Rattle.master_log_laws.proofs.Failures.Lasts.{is_acked_change, find_questions, one_request, AreMissing, all_missing, filter_steps, missing_at, count_missing, IsStepJob, step_job}
use Rattle.master_log_laws.proofs.Failures.Places.{AskedAt, FoundAck, asked_at, acked_decision, acks_in_phases, change_place, found_ack}

and_turned : (x y : Bool) → (x && y) ≡ (y && x)
and_turned true true = refl
and_turned true false = refl
and_turned false true = refl
and_turned false false = refl

clash : true ≡ false → ⊥
clash z = cc

step_late : (n : ℕ) (c b : Asking) (r : Request) → IsOf r b → IsLate n c b → is_step c ≡ asks_step r
step_late n c b r o l = ap (λ (m : ℕ). m == 7) (l.code ∙ o.0) ∙ code_is_step r

refused : (n : ℕ) (c b : Asking) (r : Request) (code : ℕ) → IsOf r b → IsDecidedBy (Some (Nack code)) b → IsLate n c b → (is_missing code && asks_step r) ≡ false → IsRefusedAsking c code
refused n c b r code o d l h =
    record { place = d.0; told = l.kept (record { place = d.0; answer = Nack code }) d.1; other = ap (λ (t : Bool). t && is_missing code) (step_late n c b r o l) ∙ and_turned (asks_step r) (is_missing code) ∙ h }

module _ (setup : Setup) (log : List LogEntry) (slave : Slave) (js : List Job) (job : Job) (n m : ℕ) (ws : List Placed) (r : Request) (a : Answer) where
  abbrev Ys : List Placed
  Ys = at n (Answered r a) ∷ ws

  -- ---- inputs that were missing
  misses : AreLegal setup.limits js (marks_of Ys) → 1 ≤ setup.limits.step_tries → cause_of (marks_of ws) ≡ None → job_of (marks_of ws) ≡ Some job → (k : Main job r (Some a) (now Ys)) → (c : Asking) → IsLate m c k.newest → (old : List Asking) → AreQuestions old → (q i : ℕ)
      → MissesAnswer setup.limits job r a (marks_of Ys) q i → MissesInputs setup log job.task c (k.ms ++ old) i
  misses l one none here k c late old qs q i b =
      record {
        step = sj.is ∙ ap (λ (x : ℕ). tasks.Step x) (sym (ap task_step sj.is) ∙ b.step_is);
        asks_step = step_late m c k.newest r k.of late ∙ parts.1;
        tries = ap length filtered ∙ sizes;
        each = λ j x e. each j x (ap (λ (z : List Asking). slice_get z j) (sym filtered) ∙ e);
      }
    where
      parts : (is_missing b.code ≡ true) × (asks_step r ≡ true)
      parts = and_parts (is_missing b.code) (asks_step r) b.step

      sj : IsStepJob job.task
      sj = step_job job.task job.list (acked k.ms) r parts.1 k.slot

      by_list_not : is_by_list job.task ≡ false
      by_list_not = ap is_by_list sj.is

      only : asked_by job ≡ r ∷ []
      only = one_request job (acked k.ms) r by_list_not k.slot

      none_acked : acked k.ms ≡ 0
      none_acked = zero_slot (acked k.ms) (ap (λ (rs : List Request). slice_get rs (acked k.ms)) (sym only) ∙ k.slot)
        where
          zero_slot : (i : ℕ) → slice_get (r ∷ []) i ≡ Some r → i ≡ 0
          zero_slot zero e = refl
          zero_slot (suc i) e = absurd cc

      missing : AreMissing k.ms
      missing = all_missing job r k.ms only parts.1 k.mains none_acked

      told : IsDecided c (k.decided).0 (Nack b.code)
      told = late.kept (record { place = (k.decided).0; answer = Nack b.code }) ((k.decided).1 ∙ ap (λ (x : Answer). Some (record { place = (k.decided).0; answer = x })) b.nack)

      first : IsMissing c
      first = ((k.decided).0, b.code, told, parts.0)

      filtered : filter is_step (c ∷ (k.ms ++ old)) ≡ c ∷ k.ms
      filtered = ap (λ (t : Bool). cond t (c ∷ filter is_step (k.ms ++ old)) (filter is_step (k.ms ++ old))) (step_late m c k.newest r k.of late ∙ parts.1) ∙ ap (λ (z : List Asking). c ∷ z) (filter_steps k.ms old missing qs)

      all : AreMissing (k.newest ∷ k.ms)
      all = ((of_step r k.newest k.of ∙ parts.1, ((k.decided).0, b.code, (k.decided).1 ∙ ap (λ (x : Answer). Some (record { place = (k.decided).0; answer = x })) b.nack, parts.0)), missing)

      counted : refusals (marks_of Ys) ≡ length (k.newest ∷ k.ms)
      counted = refusals_now setup.limits js Ys l ∙ ap (count_by (counts (λ n. n == 7) refuses_inputs)) k.is ∙ count_missing (k.newest ∷ k.ms) all

      sizes : length (c ∷ k.ms) ≡ setup.limits.step_tries
      sizes =
          let few = refused_few setup.limits js (marks_of ws) one l.1 (l.0).0 none job here in
          let many = leb-true setup.limits.step_tries (refusals (marks_of Ys)) b.tries in
          let wants : (refuses_inputs a && asks_step r) ≡ true = ap (λ (x : Answer). refuses_inputs x && asks_step r) b.nack ∙ b.step in
          let more : refusals (marks_of Ys) ≡ refusals (marks_of ws) + 1 = ap (λ (t : Bool). if t then refusals (marks_of ws) + 1 else refusals (marks_of ws)) wants in
          let same = counted in
          omega (arith, few, many, more, same)

      each : (j : ℕ) (x : Asking) → slice_get (c ∷ k.ms) j ≡ Some x → IsMissing x
      each zero x e = let z : c ≡ x = cc in subst IsMissing z first
      each (suc j) x e = missing_at k.ms j x missing e

  -- ---- a state that is passed through for too long
  passing_one : (task : Task) (t : ℕ) → is_state (passing_of task) t ≡ true → is_by_list task ≡ false
  passing_one (tasks.Register uuid) t e = refl
  passing_one tasks.Setup t e = absurd cc
  passing_one tasks.Prepare t e = refl
  passing_one tasks.Configure t e = refl
  passing_one tasks.Initialize t e = refl
  passing_one (tasks.FirstOutputs row) t e = refl
  passing_one tasks.Run t e = refl
  passing_one (tasks.Step k) t e = refl
  passing_one (tasks.Outputs k row) t e = refl
  passing_one tasks.Stop t e = refl
  passing_one tasks.Reset t e = refl
  passing_one tasks.Adjust t e = absurd cc
  passing_one tasks.Deregister t e = refl

  abbrev OneRequest : Type 0
  OneRequest = (s : State) × ((body : Stc) × (asked_by job ≡ Change s body ∷ []))

  has_one : is_by_list job.task ≡ false → OneRequest
  has_one e = by (job_asks job)
    where
      by : Asks job → OneRequest
      by (by_list f g) = absurd (clash (sym f ∙ e))
      by (by_one s b f g) = (s, (b, g))

  stuck : AreLegal setup.limits js (marks_of Ys) → AreDated setup slave log Ys → (k : Question job r (Some a) (now Ys)) → (c : Asking) → IsLate m c k.newest → (old : List Asking) → (q t : ℕ)
      → StuckBy setup.limits job r a (marks_of ws) (marks_of Ys) q t → IsStuck setup log job.task c ((k.qs ++ k.ms) ++ old) t
  stuck l d k c late old q t b =
      record {
        asks_state = ap (λ (i : ℕ). i == 128) (late.code ∙ (k.of).0) ∙ code_is_question r ∙ ap is_question b.asked;
        place = (k.decided).0;
        told = late.kept (record { place = (k.decided).0; answer = StateAck t }) ((k.decided).1 ∙ ap (λ (x : Answer). Some (record { place = (k.decided).0; answer = x })) b.told);
        passing = b.passing;
        request = f.request;
        request_is = ap (find is_acked_change) (append_assoc k.qs k.ms old) ∙ find_questions k.qs (k.ms ++ old) k.questions ∙ f.found_on;
        acked = place.0;
        request_done = place.1;
        late = late_enough;
      }
    where
      o : OneRequest
      o = has_one (passing_one job.task t b.passing)

      some : 1 ≤ acked k.ms
      some = let w = k.whole in let z : length (asked_by job) ≡ 1 = ap length (o.1).1 in omega (arith, w, z)

      f : FoundAck k.ms old
      f = found_ack job o.0 (o.1).0 k.ms old (o.1).1 k.mains some

      place : (i : ℕ) × ((f.request).decision ≡ Some (record { place = i; answer = Ack }))
      place = acked_decision f.request f.acked_is

      s : AskedAt setup slave log setup.limits js Ys k.newest (k.qs ++ k.ms)
      s = asked_at setup slave log setup.limits js Ys k.newest (k.qs ++ k.ms) l d k.is

      at_place : newest acks_change s.zs ≡ Some place.0
      at_place = change_place setup.limits js s.zs f.request place.0 s.legal (ap (find is_acked_change) s.now_is ∙ find_questions k.qs k.ms k.questions ∙ f.found) place.1

      late_enough : setup.limits.state_limit ≤ turns_between setup.address log place.0 c.first
      late_enough =
          let e = turns_to setup slave log setup.limits js acks_change s.zs place.0 (acks_in_phases setup.limits js) s.legal s.dates at_place in
          let g = leb-true setup.limits.state_limit (turns_since acks_change (before is_asked (marks_of Ys))) b.late in
          let h : turns_since acks_change (before is_asked (marks_of Ys)) ≡ turns_since acks_change (marks_of s.zs) = ap (turns_since acks_change) s.before_is in
          let i : turns_before setup.address log c.first ≡ clock (marks_of s.zs) = ap (turns_before setup.address log) late.first ∙ s.turns in
          omega (arith, e, g, h, i)

  -- ---- a fault
  faulted : (k : Question job r (Some a) (now Ys)) → (c : Asking) → IsLate m c k.newest → (old : List Asking) → (code : ℕ) → r ≡ AskError → a ≡ ErrorAck code → IsFaulted c ((k.qs ++ k.ms) ++ old) code
  faulted k c late old code e f =
      record {
        asks_error = ap (λ (i : ℕ). i == 129) (late.code ∙ (k.of).0 ∙ ap code_of e);
        place = (k.decided).0;
        told = late.kept (record { place = (k.decided).0; answer = ErrorAck code }) ((k.decided).1 ∙ ap (λ (x : Answer). Some (record { place = (k.decided).0; answer = x })) f);
        question = g.question;
        before = ((g.rest ++ k.ms) ++ old, ap (λ (z : List Asking). (z ++ k.ms) ++ old) g.is);
        asked_state = g.asked_state;
        state = g.state;
        at = g.place;
        named = g.named;
        error = g.error;
      }
    where
      g : IsAfterError k.qs
      g = let P : Request → Type 0 = λ x. IsAfter x k.qs in subst P e k.after

  -- ---- an answer that does not fit
  unexpected : (b c : Asking) (earlier : List Asking) (y t : ℕ) → IsDecidedBy (Some a) b → IsLate m c b → type_in_answer a ≡ y → state_in_answer a ≡ t → fits_answer job.task c earlier a ≡ false → IsUnexpected job.task c earlier y t
  unexpected b c earlier y t d late e f u =
      record { place = d.0; answer = a; told = late.kept (record { place = d.0; answer = a }) d.1; type_is = e; state_is = f; unfit = u }

  -- by the kind of the request
  kinds : (c b : Asking) → IsOf r b → IsLate m c b → (is_main c ≡ is_main_request r) × ((is_error_question c ≡ (code_of r == 129)) × (is_state_question c ≡ (code_of r == 128)))
  kinds c b o late =
      let e : c.code ≡ code_of r = late.code ∙ o.0 in
      (ap (λ (n : ℕ). (nat_le 1 n && nat_le n 10) || (nat_le 32 n && nat_le n 43)) e ∙ sym (ap (λ (n : ℕ). (nat_le 1 n && nat_le n 10) || (nat_le 32 n && nat_le n 43)) o.0) ∙ of_main r b o, (ap (λ (n : ℕ). n == 129) e, ap (λ (n : ℕ). n == 128) e))

  main_unfit : (c b : Asking) (earlier : List Asking) (reached : Bool) → IsOf r b → IsLate m c b → is_main_request r ≡ true → fits_mark job.task reached r a ≡ false → fits_answer job.task c earlier a ≡ false
  main_unfit c b earlier reached o late i h =
      ap (λ (t : Bool). if t then fits_change a else if is_error_question c then fits_error a else if is_state_question c then fits_state job.task earlier a else true) ((kinds c b o late).0 ∙ i) ∙ by r i h
    where
      by : (r : Request) → is_main_request r ≡ true → fits_mark job.task reached r a ≡ false → fits_change a ≡ false
      by (Change s body) i h = h
      by (Configure body) i h = h
      by AskState i h = absurd cc
      by AskError i h = absurd cc

  state_unfit : (earlier : List Asking) (reached : Bool) → (reached ≡ true → list_any (names_it job.task) earlier ≡ true) → fits_state_mark job.task reached a ≡ false → fits_state job.task earlier a ≡ false
  state_unfit earlier reached f h = by a h
    where
      by : (a : Answer) → fits_state_mark job.task reached a ≡ false → fits_state job.task earlier a ≡ false
      by (Nack code) h = absurd cc
      by Ack h = refl
      by (ErrorAck code) h = refl
      by LogAck h = refl
      by (StateAck s) h = two (is_error s) (is_state (target_of job.task) s) (is_state (passing_of job.task) s) reached f h
        where
          two : (e t p r : Bool) → (r ≡ true → list_any (names_it job.task) earlier ≡ true) → (if e then true else if t then true else (p && not r)) ≡ false
              → (if e then true else if t then true else if p then (if list_any (names_it job.task) earlier then false else true) else false) ≡ false
          two true t p r f h = absurd cc
          two false true p r f h = absurd cc
          two false false false r f h = refl
          two false false true true f h = ap (λ (x : Bool). if x then false else true) (f refl)
          two false false true false f h = absurd cc

  any_left : (xs ys : List Asking) → list_any (names_it job.task) xs ≡ true → list_any (names_it job.task) (xs ++ ys) ≡ true
  any_left [] ys h = absurd cc
  any_left (x ∷ xs) ys h = by (names_it job.task x) h (λ z. any_left xs ys z)
    where
      by : (t : Bool) → (t || list_any (names_it job.task) xs) ≡ true → (list_any (names_it job.task) xs ≡ true → list_any (names_it job.task) (xs ++ ys) ≡ true) → (t || list_any (names_it job.task) (xs ++ ys)) ≡ true
      by true h f = refl
      by false h f = f h

  question_unfit : (c b : Asking) (earlier : List Asking) (reached : Bool) → IsOf r b → IsLate m c b → is_main_request r ≡ false → (reached ≡ true → list_any (names_it job.task) earlier ≡ true) → fits_mark job.task reached r a ≡ false → fits_answer job.task c earlier a ≡ false
  question_unfit c b earlier reached o late i f h =
      ap (λ (t : Bool). if t then fits_change a else if is_error_question c then fits_error a else if is_state_question c then fits_state job.task earlier a else true) ((kinds c b o late).0 ∙ i)
      ∙ ap (λ (t : Bool). if t then fits_error a else if is_state_question c then fits_state job.task earlier a else true) ((kinds c b o late).1).0
      ∙ ap (λ (t : Bool). if code_of r == 129 then fits_error a else if t then fits_state job.task earlier a else true) ((kinds c b o late).1).1
      ∙ by r i h
    where
      by : (r : Request) → is_main_request r ≡ false → fits_mark job.task reached r a ≡ false → (if code_of r == 129 then fits_error a else if code_of r == 128 then fits_state job.task earlier a else true) ≡ false
      by (Change s body) i h = absurd cc
      by (Configure body) i h = absurd cc
      by AskState i h = state_unfit earlier reached f h
      by AskError i h = h

  -- ---- a main request was the newest
  pub main_shown : AreLegal setup.limits js (marks_of Ys) → 1 ≤ setup.limits.step_tries → cause_of (marks_of ws) ≡ None → job_of (marks_of ws) ≡ Some job → (k : Main job r (Some a) (now Ys)) → (c : Asking) → IsLate m c k.newest → c.number ≡ newest_number (marks_of Ys) → (old : List Asking) → AreQuestions old
      → (cause : Cause) → Because setup.limits job r a (marks_of ws) (marks_of Ys) cause → ShownBy setup log slave job.task c (k.ms ++ old) cause
  main_shown l one none here k c late num old qs (causes.NoAnswer q) b = absurd b
  main_shown l one none here k c late num old qs (causes.DataMissing i) b = absurd b
  main_shown l one none here k c late num old qs (causes.Refused q code) b =
      let P : Answer → Type 0 = λ x. IsDecidedBy (Some x) k.newest in
      (num ∙ b.0, refused m c k.newest r code k.of (subst P (b.1).0 k.decided) late (b.1).1)
  main_shown l one none here k c late num old qs (causes.InputsMissing q i) b = (num ∙ b.number, misses l one none here k c late old qs q i b)
  main_shown l one none here k c late num old qs (causes.Stuck q t) b = absurd (clash (sym (asked_main job (acked k.ms) r k.slot) ∙ ap is_main_request b.asked))
  main_shown l one none here k c late num old qs (causes.Faulted q code) b = absurd (clash (sym (asked_main job (acked k.ms) r k.slot) ∙ ap is_main_request (b.1).0))
  main_shown l one none here k c late num old qs (causes.Unexpected q y t) b =
      (num ∙ b.0, unexpected k.newest c (k.ms ++ old) y t k.decided late (b.1).0 ((b.1).1).0 (main_unfit c k.newest (k.ms ++ old) (is_reached job.task (marks_of ws)) k.of late (asked_main job (acked k.ms) r k.slot) ((b.1).1).1))

  -- ---- a question was the newest
  pub question_shown : AreLegal setup.limits js (marks_of Ys) → AreDated setup slave log Ys → (k : Question job r (Some a) (now Ys)) → (is_reached job.task (marks_of ws) ≡ true → list_any (names_it job.task) (k.qs ++ k.ms) ≡ true) → (c : Asking) → IsLate m c k.newest → c.number ≡ newest_number (marks_of Ys)
      → (old : List Asking) → (cause : Cause) → Because setup.limits job r a (marks_of ws) (marks_of Ys) cause → ShownBy setup log slave job.task c ((k.qs ++ k.ms) ++ old) cause
  question_shown l d k f c late num old (causes.NoAnswer q) b = absurd b
  question_shown l d k f c late num old (causes.DataMissing i) b = absurd b
  question_shown l d k f c late num old (causes.Refused q code) b =
      let P : Answer → Type 0 = λ x. IsDecidedBy (Some x) k.newest in
      (num ∙ b.0, refused m c k.newest r code k.of (subst P (b.1).0 k.decided) late (b.1).1)
  question_shown l d k f c late num old (causes.InputsMissing q i) b = absurd (clash (sym (and_parts (is_missing b.code) (asks_step r) b.step).1 ∙ no_step r k.asks))
    where
      no_step : (r : Request) → is_main_request r ≡ false → asks_step r ≡ false
      no_step AskState e = refl
      no_step AskError e = refl
      no_step (Change s body) e = absurd cc
      no_step (Configure body) e = absurd cc
  question_shown l d k f c late num old (causes.Stuck q t) b = (num ∙ b.number, stuck l d k c late old q t b)
  question_shown l d k f c late num old (causes.Faulted q code) b = (num ∙ b.0, faulted k c late old code (b.1).0 (b.1).1)
  question_shown l d k f c late num old (causes.Unexpected q y t) b = (
    num ∙ b.0,
    unexpected k.newest c ((k.qs ++ k.ms) ++ old) y t k.decided late (b.1).0 ((b.1).1).0
        (question_unfit c k.newest ((k.qs ++ k.ms) ++ old) (is_reached job.task (marks_of ws)) k.of late k.asks (λ z. any_left (k.qs ++ k.ms) old (f z)) ((b.1).1).1),
  )
