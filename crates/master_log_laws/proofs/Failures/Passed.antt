-- What the log tells of a slave that has passed.
use Rattle.std.proofs.Common.{◌≡◌, ℕ, zero, suc, ◌+◌, ◌%◌, ◌<◌, ◌≤◌, Bool, true, false, if◌then◌else◌, ◌⊎◌, inl, inr, Option, Some, None, List, [], ◌∷◌, ◌++◌, length, refl, sym, ap, ◌∙◌, subst, arith, append_assoc}
use Rattle.std.specs.Prelude.{◌==◌, ◌&&◌, ◌||◌, is_some, nat_le, nat_lt, slice_get, find}
use Rattle.std.specs.List.{list_any}
use Rattle.std.proofs.lemmas.Bool.{and_parts, lt-ltb}
use Rattle.dcp_types.specs.declared.limits.Limits.{Limits}
use Rattle.dcp_types.specs.declared.states.State.{State}
use Rattle.pdu_layout.specs.declared.messages.Stc.TheVariants as stc
use Rattle.dcp_ends.specs.declared.entries.LogEntry.{LogEntry}
use Rattle.master_spec.specs.declared.causes.Verdict.TheVariants as verdicts
use Rattle.master_spec.specs.declared.requests.Request.{Request}
use Rattle.master_spec.specs.declared.requests.Request.TheVariants.{Change, AskState}
use Rattle.master_spec.specs.declared.requests.Answer.TheVariants.{Ack, StateAck}
use Rattle.master_spec.specs.declared.requests.Latest.TheVariants as latests
use Rattle.master_spec.specs.declared.tasks.Task.{Task}
use Rattle.master_spec.specs.declared.tasks.Task.TheVariants as tasks
use Rattle.master_spec.specs.declared.setups.Slave.{Slave}
use Rattle.master_spec.specs.declared.setups.Setup.{Setup}
use Rattle.master_spec.specs.Tasks.{is_by_list, is_by_end, target_of, passing_of, task_row, asks_step}
use Rattle.master_spec.specs.Jobs.{Job, asked_by}
use Rattle.master_spec.specs.Marks.{Mark, Begun, Asked, Again, Answered, Hinted, Brought, Turned, Ended, acks_change, count, is_begun, is_answer, this_phase, latest, open_in, open_request, settings_answered, kept, is_reached, has_row_outputs, is_passed, job_of, cause_of, verdict_of}
use Rattle.master_spec.specs.Conversation.{is_state}
use Rattle.master_spec.specs.Requests.{Asking, turns_between, is_main, is_outputs, is_error_question, is_state_question, acked, phase_at, of_phase}
use Rattle.master_spec.specs.Exchanged.{Brings}
use Rattle.master_spec.specs.Shown.{last_sending}
use Rattle.master_log_laws.specs.Asking.Legal.{Rests, BeginsJob, AreLegal}
use Rattle.master_log_laws.specs.Index.Index.{Placed, at, marks_of, askings_told}
use Rattle.master_log_laws.specs.Index.Late.{IsLate, AreLate}
use Rattle.master_log_laws.specs.Index.Dates.{AreDated}
use Rattle.master_log_laws.proofs.Phases.Now.{now, past_by, past, IsOf, split}
use Rattle.master_log_laws.proofs.Phases.Mains.{is_main_request, of_main, of_step, acked_yes, AreMains, IsTried, Asks, by_list, by_one, job_asks, asked_main}
use Rattle.master_log_laws.proofs.Phases.Counts.{reached_now}
use Rattle.master_log_laws.proofs.Phases.Stage.{Main, Question, IsHome, Stage, idling, main_open, question_open, trying, mains_done, state_told, mains_acked}
use Rattle.master_log_laws.proofs.Phases.Stages.{stage}
use Rattle.master_log_laws.proofs.Phases.Tags.{AtMost, Exactly, HasPassed, verdict_passed, tried_not_passed, passed_reached, mains_name, none_asked, past_count, job_phase}
use Rattle.master_log_laws.proofs.Phases.Tags as tags
use Rattle.master_log_laws.proofs.Failures.Lasts.{lasts, only_request}
use Rattle.master_log_laws.proofs.Failures.Missing.{FoundOutputs, found_outputs, find_past, outputs_request, answer_place, past_dated}
use Rattle.master_log_laws.proofs.Failures.Turns.{newest}
use Rattle.master_log_laws.proofs.Failures.Kept.{last_first, kept_soon}
use Rattle.master_log_laws.proofs.Failures.Silences.{last_of}
use Rattle.master_log_laws.proofs.Failures.Calm.{acked_main, told_target, Calm, answered_soon}
use Rattle.master_log_laws.proofs.Failures.Steady.{IsNext}

clash : true ≡ false → ⊥
clash z = cc

-- ---- tasks
row_one : (task : Task) (row : ℕ) → task_row task ≡ Some row → (is_by_list task ≡ false) × (is_by_end task ≡ false)
row_one (tasks.Register uuid) row e = absurd cc
row_one tasks.Setup row e = absurd cc
row_one tasks.Prepare row e = absurd cc
row_one tasks.Configure row e = absurd cc
row_one tasks.Initialize row e = absurd cc
row_one (tasks.FirstOutputs r) row e = (refl, refl)
row_one tasks.Run row e = absurd cc
row_one (tasks.Step k) row e = absurd cc
row_one (tasks.Outputs k r) row e = (refl, refl)
row_one tasks.Stop row e = absurd cc
row_one tasks.Reset row e = absurd cc
row_one tasks.Adjust row e = absurd cc
row_one tasks.Deregister row e = absurd cc

passing_one : (task : Task) (s : ℕ) → is_state (passing_of task) s ≡ true → (is_by_list task ≡ false) × (is_by_end task ≡ false)
passing_one (tasks.Register uuid) s e = absurd cc
passing_one tasks.Setup s e = absurd cc
passing_one tasks.Prepare s e = (refl, refl)
passing_one tasks.Configure s e = (refl, refl)
passing_one tasks.Initialize s e = (refl, refl)
passing_one (tasks.FirstOutputs r) s e = (refl, refl)
passing_one tasks.Run s e = (refl, refl)
passing_one (tasks.Step k) s e = (refl, refl)
passing_one (tasks.Outputs k r) s e = (refl, refl)
passing_one tasks.Stop s e = (refl, refl)
passing_one tasks.Reset s e = absurd cc
passing_one tasks.Adjust s e = absurd cc
passing_one tasks.Deregister s e = absurd cc

row_passed : (job : Job) (row : ℕ) (marks : List Mark) → task_row job.task ≡ Some row → is_passed job marks ≡ true → is_some (kept row marks) ≡ true
row_passed job row marks r h = by (is_by_list job.task) (is_by_end job.task) (row_one job.task row r).0 (row_one job.task row r).1 h
  where
    by : (a b : Bool) → a ≡ false → b ≡ false → (if a then nat_le (length job.list) (settings_answered marks) else if b then list_any acks_change (this_phase marks) else (is_reached job.task marks && has_row_outputs (task_row job.task) marks)) ≡ true → is_some (kept row marks) ≡ true
    by true b f g h = absurd cc
    by false true f g h = absurd cc
    by false false f g h = ap (λ (o : Option ℕ). has_row_outputs o marks) (sym r) ∙ (and_parts (is_reached job.task marks) (has_row_outputs (task_row job.task) marks) h).1

-- a job with outputs has one main request
single : (job : Job) (row : ℕ) (b : Asking) (ms : List Asking) → task_row job.task ≡ Some row → AreMains job (b ∷ ms) → acked (b ∷ ms) ≡ 1 → ms ≡ []
single job row b [] r m w = refl
single job row b (c ∷ ms) r m w = absurd (by (((m.1).1).1).0)
  where
    o : (s : State) × (asked_by job ≡ Change s stc.SendOutputs ∷ [])
    o = outputs_request job.task job.list row r

    zero_slot : (q : Request) (i : ℕ) (p : Request) → slice_get (q ∷ []) i ≡ Some p → i ≡ 0
    zero_slot q zero p e = refl
    zero_slot q (suc i) p e = absurd cc

    none : acked (c ∷ ms) ≡ 0
    none = zero_slot (Change o.0 stc.SendOutputs) (acked (c ∷ ms)) (m.0).request (ap (λ (rs : List Request). slice_get rs (acked (c ∷ ms))) (sym o.1) ∙ (m.0).slot)

    by : IsTried c → ⊥
    by (inl k) = let e = acked_yes c ms (of_main (((m.1).1).0).request c (((m.1).1).0).of ∙ (((m.1).1).0).main) k in let f = none in omega (arith, e, f)
    by (inr k) = clash (sym k.1 ∙ of_step (((m.1).1).0).request c (((m.1).1).0).of ∙ ap asks_step (sym (only_request job (Change o.0 stc.SendOutputs) (((m.1).1).0).request (acked ms) o.1 (((m.1).1).0).slot)))

last_append : (xs : List Asking) (b : Asking) → last_first (xs ++ b ∷ []) ≡ Some b.first
last_append [] b = refl
last_append (x ∷ []) b = refl
last_append (x ∷ y ∷ xs) b = last_append (y ∷ xs) b

-- ---- where the phase began
pub record Began (limits : Limits) (js : List Job) (job : Job) (xs : List Placed) : Type 0 where
  pub legal : AreLegal limits js (marks_of (past xs))
  pub rests : Rests limits (marks_of (past xs))
  pub begins : BeginsJob js job (marks_of (past xs))

began : (limits : Limits) (js : List Job) (job : Job) (xs : List Placed) → AreLegal limits js (marks_of xs) → job_of (marks_of xs) ≡ Some job → Began limits js job xs
began limits js job [] l e = absurd cc
began limits js job (x ∷ xs) l e = by x.mark l e (λ e. began limits js job xs l.1 e)
  where
    over : (m : Mark) → past_by m xs (past xs) ≡ past xs → Began limits js job xs → Began limits js job (at x.place m ∷ xs)
    over m p k =
        let P : List Placed → Type 0 = λ z. AreLegal limits js (marks_of z) in
        let Q : List Placed → Type 0 = λ z. Rests limits (marks_of z) in
        let R : List Placed → Type 0 = λ z. BeginsJob js job (marks_of z) in
        record { legal = subst P (sym p) k.legal; rests = subst Q (sym p) k.rests; begins = subst R (sym p) k.begins }

    by : (m : Mark) → AreLegal limits js (m ∷ marks_of xs) → job_of (m ∷ marks_of xs) ≡ Some job → (job_of (marks_of xs) ≡ Some job → Began limits js job xs) → Began limits js job (at x.place m ∷ xs)
    by (Begun j) k e f = let z : j ≡ job = cc in let P : Job → Type 0 = λ y. BeginsJob js y (marks_of xs) in record { legal = k.1; rests = (k.0).0; begins = subst P z (k.0).1 }
    by (Asked r) k e f = over (Asked r) refl (f e)
    by Again k e f = over Again refl (f e)
    by (Answered r a) k e f = over (Answered r a) refl (f e)
    by Hinted k e f = over Hinted refl (f e)
    by (Brought n p) k e f = over (Brought n p) refl (f e)
    by (Turned t) k e f = over (Turned t) refl (f e)
    by (Ended cause) k e f = over (Ended cause) refl (f e)

past_cause : (xs : List Placed) → cause_of (marks_of xs) ≡ None → cause_of (marks_of (past xs)) ≡ None
past_cause [] c = refl
past_cause (x ∷ xs) c = by x.mark c (λ c. past_cause xs c)
  where
    by : (m : Mark) → cause_of (m ∷ marks_of xs) ≡ None → (cause_of (marks_of xs) ≡ None → cause_of (marks_of (past xs)) ≡ None) → cause_of (marks_of (past_by m xs (past xs))) ≡ None
    by (Begun j) c f = c
    by (Asked r) c f = f c
    by Again c f = f c
    by (Answered r a) c f = f c
    by Hinted c f = f c
    by (Brought n p) c f = f c
    by (Turned t) c f = f c
    by (Ended cause) c f = absurd cc

-- ---- a calm answer
soon_late : (setup : Setup) (log : List LogEntry) (n : ℕ) (c b : Asking) (place : ℕ) → IsLate n c b → turns_between setup.address log (last_of b) place < setup.limits.turn_limit → turns_between setup.address log (last_of c) place < setup.limits.turn_limit
soon_late setup log n c b place l h =
    let P : ℕ → Type 0 = λ i. turns_between setup.address log i place < setup.limits.turn_limit in
    subst P (sym (ap (λ (i : ℕ). last_sending i c.repeats) l.first ∙ ap (λ (is : List ℕ). last_sending b.first is) l.repeats)) h

question_kinds : (n : ℕ) (c b : Asking) → IsOf AskState b → IsLate n c b → (is_main c ≡ false) × ((is_error_question c ≡ false) × (is_state_question c ≡ true))
question_kinds n c b o l =
    let e : c.code ≡ 128 = l.code ∙ o.0 in
    (ap (λ (i : ℕ). (nat_le 1 i && nat_le i 10) || (nat_le 32 i && nat_le i 43)) e, (ap (λ (i : ℕ). i == 129) e, ap (λ (i : ℕ). i == 128) e))

main_kind : (n : ℕ) (c b : Asking) (r : Request) → IsOf r b → is_main_request r ≡ true → IsLate n c b → is_main c ≡ true
main_kind n c b r o m l = ap (λ (i : ℕ). (nat_le 1 i && nat_le i 10) || (nat_le 32 i && nat_le i 43)) l.code ∙ of_main r b o ∙ m

same_head : (a b : Asking) (xs ys : List Asking) → a ∷ xs ≡ b ∷ ys → (a ≡ b) × (xs ≡ ys)
same_head a b xs ys e = (cc, cc)

module _ (setup : Setup) (slave : Slave) (log : List LogEntry) (js : List Job) (job : Job) (n p : ℕ) (xs : List Placed) (cs : List Asking)
    (turn_limit : 1 ≤ setup.limits.turn_limit) (data_turns : 1 ≤ setup.limits.data_turns)
    (legal : AreLegal setup.limits js (marks_of xs)) (dates : AreDated setup slave log xs) (rests : Rests setup.limits (marks_of xs)) (none : cause_of (marks_of xs) ≡ None) (here : job_of (marks_of xs) ≡ Some job)
    (passed : is_passed job (marks_of xs) ≡ true) (free : open_request (marks_of xs) ≡ None) (exact : Exactly js (p + 1) (now xs) (askings_told (past xs))) (most : AtMost js p (askings_told (past xs))) (late : AreLate n cs (askings_told xs))
    (counted : count is_begun (marks_of xs) ≡ p + 1) (next : (q : ℕ) (a b : Job) → slice_get js q ≡ Some a → slice_get js (q + 1) ≡ Some b → IsNext a b) where
  abbrev CalmAt : Asking → List Asking → Type 0
  CalmAt c earlier = Calm setup log slave job.task c earlier

  late_split : AreLate n cs (now xs ++ askings_told (past xs))
  late_split = let P : List Asking → Type 0 = λ z. AreLate n cs z in subst P (split setup.limits js xs legal) late

  -- by the last acknowledgement
  by_ack : (r : Request) → (k : Main job r (Some Ack) (now xs)) → (c : Asking) (earlier : List Asking) → of_phase js (p + 1) cs ≡ c ∷ earlier → CalmAt c earlier
  by_ack r k c earlier e =
      let s = lasts js p n cs (now xs) (askings_told (past xs)) k.newest k.ms k.is exact most late_split in
      let z = same_head s.newest c (k.ms ++ s.old) earlier (sym s.of ∙ e) in
      let P : Asking → Type 0 = λ x. CalmAt x earlier in
      let Q : List Asking → Type 0 = λ x. CalmAt s.newest x in
      subst P z.0 (subst Q z.1 (record {
        place = (k.decided).0;
        answer = Ack;
        told = (s.late).kept (record { place = (k.decided).0; answer = Ack }) (k.decided).1;
        kind = acked_main (main_kind n s.newest k.newest r k.of (asked_main job (acked k.ms) r k.slot) s.late) refl;
        soon = soon_late setup log n s.newest k.newest (k.decided).0 s.late (answered_soon setup slave log js xs k.newest k.ms (record { place = (k.decided).0; answer = Ack }) turn_limit legal dates none job here k.is (k.decided).1);
        came = λ row w. absurd (no_row row w);
      }))
    where
      no_row : (row : ℕ) → task_row job.task ≡ Some row → ⊥
      no_row row w =
          let o = row_one job.task row w in
          let a = passed_reached job (marks_of xs) o.0 o.1 passed in
          let b = reached_now job.task setup.limits js xs legal in
          let d = mains_name job job.task (now xs) (mains_acked job r (now xs) k).0 in
          clash (sym a ∙ b ∙ d)

  -- by the answer that names the target
  by_target : (s : ℕ) → latest (marks_of xs) ≡ latests.Answered AskState (StateAck s) → (k : Question job AskState (Some (StateAck s)) (now xs)) → is_state (target_of job.task) s ≡ true → (c : Asking) (earlier : List Asking) → of_phase js (p + 1) cs ≡ c ∷ earlier → CalmAt c earlier
  by_target s o k t c earlier e =
      let f = lasts js p n cs (now xs) (askings_told (past xs)) k.newest (k.qs ++ k.ms) k.is exact most late_split in
      let z = same_head f.newest c ((k.qs ++ k.ms) ++ f.old) earlier (sym f.of ∙ e) in
      let q = question_kinds n f.newest k.newest k.of f.late in
      let P : Asking → Type 0 = λ x. CalmAt x earlier in
      let Q : List Asking → Type 0 = λ x. CalmAt f.newest x in
      subst P z.0 (subst Q z.1 (record {
        place = (k.decided).0;
        answer = StateAck s;
        told = (f.late).kept (record { place = (k.decided).0; answer = StateAck s }) (k.decided).1;
        kind = told_target s q.0 (q.1).0 (q.1).1 refl t;
        soon = soon_late setup log n f.newest k.newest (k.decided).0 f.late (answered_soon setup slave log js xs k.newest (k.qs ++ k.ms) (record { place = (k.decided).0; answer = StateAck s }) turn_limit legal dates none job here k.is (k.decided).1);
        came = λ row w. in_time row w f.old;
      }))
    where
      at_place : newest is_answer xs ≡ Some (k.decided).0
      at_place = answer_place setup.limits js xs k.newest (k.qs ++ k.ms) (record { place = (k.decided).0; answer = StateAck s }) legal k.is (k.decided).1

      first_is : (row : ℕ) → task_row job.task ≡ Some row → (old : List Asking) → (g : FoundOutputs k.ms old) → last_first (now xs) ≡ Some (g.request).first
      first_is row w old g =
          let o = outputs_request job.task job.list row w in
          let P : List Asking → Type 0 = λ z. AreMains job z in
          let one : acked ((g.request) ∷ g.more) ≡ 1 = ap acked (sym g.is) ∙ k.whole ∙ ap length o.1 in
          let m = single job row g.request g.more w (subst P g.is k.mains) one in
          ap last_first (k.is ∙ ap (λ (z : List Asking). k.newest ∷ (k.qs ++ z)) (g.is ∙ ap (λ (z : List Asking). g.request ∷ z) m)) ∙ last_append (k.newest ∷ k.qs) g.request

      in_time : (row : ℕ) → task_row job.task ≡ Some row → (old : List Asking) → (i : ℕ) × ((request : Asking) × ((find is_outputs ((k.qs ++ k.ms) ++ old) ≡ Some request) × ((request.first < i) × (Brings setup log slave (row % 65536) i × (turns_between setup.address log (k.decided).0 i < setup.limits.data_turns)))))
      in_time row w old =
          let b = row_one job.task row w in
          let g = found_outputs job row k.ms old w k.mains k.whole in
          let h = kept_soon setup slave log js xs data_turns legal rests dates none job here row w b.0 b.1 s o t (k.decided).0 at_place (row_passed job row (marks_of xs) w passed) in
          let soon = h.1 in
          let f : Some (h.0).first ≡ Some (g.request).first = sym (h.0).last_is ∙ first_is row w old g in
          let y : (h.0).first ≡ (g.request).first = cc in
          let before = (h.0).before in
          ((h.0).place, (g.request, (ap (find is_outputs) (append_assoc k.qs k.ms old) ∙ find_past k.qs (k.ms ++ old) k.questions ∙ g.found, (omega (arith, y, before), ((h.0).brings, omega (arith, soon, data_turns))))))

  -- by the phase before, where this one has nothing to ask
  by_past : now xs ≡ [] → asked_by job ≡ [] → (c : Asking) (earlier : List Asking) → of_phase js (p + 1) cs ≡ c ∷ earlier → CalmAt c earlier
  by_past e a c earlier o = by_begin (began_at.begins).passed
    where
      zs : List Placed
      zs = past xs

      began_at : Began setup.limits js job xs
      began_at = began setup.limits js job xs legal here

      late_past : AreLate n cs (askings_told zs)
      late_past = let P : List Asking → Type 0 = λ z. AreLate n cs (z ++ askings_told zs) in subst P e late_split

      list_job : is_by_list job.task ≡ true
      list_job = by (job_asks job)
        where
          by : Asks job → is_by_list job.task ≡ true
          by (by_list l f) = l
          by (by_one s b l f) = let z : Change s b ∷ [] ≡ [] = sym f ∙ a in absurd cc

      nothing : (ds : List Asking) → AreLate n ds [] → of_phase js (p + 1) ds ≡ c ∷ earlier → ⊥
      nothing [] l q = cc
      nothing (d ∷ ds) l q = l

      none_told : job_of (marks_of zs) ≡ None → ⊥
      none_told j = let P : List Asking → Type 0 = λ z. AreLate n cs z in nothing cs (subst P (none_asked setup.limits js zs began_at.legal j).0 late_past) o

      -- its head is a question
      head : (b : Asking) (rest ds : List Asking) → askings_told zs ≡ b ∷ rest → AreLate n ds (b ∷ rest) → of_phase js (p + 1) ds ≡ c ∷ earlier → (is_main b ≡ false) × IsLate n c b
      head b rest [] f l q = absurd l
      head b rest (d ∷ ds) f l q = two (is_main d) refl q
        where
          most_here : is_main b ≡ true → phase_at js (acked rest) ≤ p
          most_here = (let P : List Asking → Type 0 = λ z. AtMost js p z in subst P f most).0

          same : is_main d ≡ is_main b
          same = ap (λ (i : ℕ). (nat_le 1 i && nat_le i 10) || (nat_le 32 i && nat_le i 43)) (l.0).code

          less : phase_at js (acked rest) ≤ p → nat_lt (phase_at js (acked ds)) (p + 1) ≡ true
          less h = lt-ltb (phase_at js (acked ds)) (p + 1) (let g : phase_at js (acked ds) ≡ phase_at js (acked rest) = ap (λ (z : List Asking). phase_at js (acked z)) l.1 in omega (arith, h, g))

          two : (t : Bool) → is_main d ≡ t → (if t && nat_lt (phase_at js (acked ds)) (p + 1) then [] else d ∷ of_phase js (p + 1) ds) ≡ c ∷ earlier → (is_main b ≡ false) × IsLate n c b
          two true g q = let z : [] ≡ c ∷ earlier = sym (ap (λ (t : Bool). if t then [] else d ∷ of_phase js (p + 1) ds) (less (most_here (sym same ∙ g)))) ∙ q in absurd cc
          two false g q = let y : d ≡ c = cc in let P : Asking → Type 0 = λ x. IsLate n x b in (sym same ∙ g, subst P y l.0)

      by_stage : (h : HasPassed (marks_of zs)) → (is_by_list (h.job).task ≡ false) → target_of (h.job).task ≡ target_of job.task → Stage h.job (marks_of zs) (now zs) → CalmAt c earlier
      by_stage h plain same (idling q f g) = absurd (two (job_asks h.job))
        where
          two : Asks h.job → ⊥
          two (by_list l w) = clash (sym l ∙ plain)
          two (by_one s b l w) = let z : Change s b ∷ [] ≡ [] = sym w ∙ g in cc
      by_stage h plain same (main_open r q k) = let z : Some r ≡ None = ap open_in (sym q) ∙ (began_at.begins).free in absurd cc
      by_stage h plain same (question_open r q k) = let z : Some r ≡ None = ap open_in (sym q) ∙ (began_at.begins).free in absurd cc
      by_stage h plain same (trying r code q g k) = absurd (tried_not_passed setup.limits js h.job zs r code began_at.legal g k h.passed)
      by_stage h plain same (mains_done r q k w) =
          let f = split setup.limits js zs began_at.legal ∙ ap (λ (z : List Asking). z ++ askings_told (past zs)) k.is in
          let P : List Asking → Type 0 = λ z. AreLate n cs z in
          let y = head k.newest (k.ms ++ askings_told (past zs)) cs f (subst P f late_past) o in
          absurd (clash (sym (of_main r k.newest k.of ∙ asked_main h.job (acked k.ms) r k.slot) ∙ y.0))
      by_stage h plain same (state_told s q k w) =
          let f = split setup.limits js zs began_at.legal ∙ ap (λ (z : List Asking). z ++ askings_told (past zs)) k.is in
          let P : List Asking → Type 0 = λ z. AreLate n cs z in
          let y = head k.newest ((k.qs ++ k.ms) ++ askings_told (past zs)) cs f (subst P f late_past) o in
          let z = question_kinds n c k.newest k.of y.1 in
          record {
            place = (k.decided).0;
            answer = StateAck s;
            told = (y.1).kept (record { place = (k.decided).0; answer = StateAck s }) (k.decided).1;
            kind = told_target s z.0 (z.1).0 (z.1).1 refl (at_target w);
            soon = soon_late setup log n c k.newest (k.decided).0 y.1 (answered_soon setup slave log js zs k.newest (k.qs ++ k.ms) (record { place = (k.decided).0; answer = StateAck s }) turn_limit began_at.legal (past_dated setup slave log xs dates) h.cause_is h.job h.job_is k.is (k.decided).1);
            came = λ row g. absurd (clash (sym list_job ∙ (row_one job.task row g).0));
          }
        where
          at_target : IsHome h.job (marks_of zs) s → is_state (target_of job.task) s ≡ true
          at_target (inl t) = ap (λ (x : Option State). is_state x s) (sym same) ∙ t
          at_target (inr t) =
              let g = passing_one (h.job).task s t.0 in
              absurd (clash (sym (passed_reached h.job (marks_of zs) g.0 g.1 h.passed) ∙ t.1))

      by_begin : (job_of (marks_of zs) ≡ None) ⊎ (verdict_of (marks_of zs) ≡ verdicts.Passed) → CalmAt c earlier
      by_begin (inl j) = absurd (none_told j)
      by_begin (inr v) =
          let h = verdict_passed (marks_of zs) v in
          let q = tags.counted (marks_of zs) h.job h.job_is in
          let f = past_count xs p counted in
          let g = job_phase setup.limits js (marks_of zs) began_at.legal h.job h.job_is q.0 q.1 in
          let i : slice_get js (q.0 + 1) ≡ Some job = ap (slice_get js) (sym q.1) ∙ (began_at.begins).job_is in
          let k = next q.0 h.job job g i list_job in
          by_stage h k.1 k.0 (stage setup.limits js zs began_at.legal began_at.rests h.cause_is h.job h.job_is)

  -- whatever the stage
  pub calm_of : (c : Asking) (earlier : List Asking) → of_phase js (p + 1) cs ≡ c ∷ earlier → CalmAt c earlier
  calm_of c earlier e = by (stage setup.limits js xs legal rests none job here)
    where
      home : (s : ℕ) → IsHome job (marks_of xs) s → is_state (target_of job.task) s ≡ true
      home s (inl t) = t
      home s (inr t) = let g = passing_one job.task s t.0 in absurd (clash (sym (passed_reached job (marks_of xs) g.0 g.1 passed) ∙ t.1))

      by : Stage job (marks_of xs) (now xs) → CalmAt c earlier
      by (idling q f g) = by_past f g c earlier e
      by (main_open r q k) = let z : Some r ≡ None = ap open_in (sym q) ∙ free in absurd cc
      by (question_open r q k) = let z : Some r ≡ None = ap open_in (sym q) ∙ free in absurd cc
      by (trying r code q g k) = absurd (tried_not_passed setup.limits js job xs r code legal g k passed)
      by (mains_done r q k w) = by_ack r k c earlier e
      by (state_told s q k h) = by_target s q k (home s h) c earlier e
