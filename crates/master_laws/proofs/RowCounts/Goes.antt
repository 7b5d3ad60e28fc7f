-- Each entry leaves the rows, or adds the one whose parts came in this phase.
use Rattle.std.proofs.Common.{◌≡◌, ℕ, zero, suc, ◌+◌, ◌≤◌, Bool, true, false, if◌then◌else◌, ◌⊎◌, inl, inr, Option, Some, None, List, [], ◌∷◌, ◌++◌, map, length, refl, sym, ap, ◌∙◌, subst, arith, ℤ}
use Rattle.std.specs.Prelude.{◌==◌, ◌&&◌, is_some, nat_le, slice_get, unwrap_or}
use Rattle.std.specs.List.{list_all, list_any, flat_map}
use Rattle.std.proofs.lemmas.Bool.{and_parts, eqb-true}
use Rattle.dcp_types.specs.declared.addresses.Address.{Address}
use Rattle.dcp_ends.specs.declared.entries.LogEntry.{LogEntry}
use Rattle.dcp_ends.specs.declared.entries.LogEntry.TheVariants.{Sent, Got, Idle, Turn}
use Rattle.dcp_ends.specs.Events.{Gram, Tick}
use Rattle.dcp_ends.specs.Logs.{same_address}
use Rattle.master_spec.specs.declared.causes.Verdict.{Verdict}
use Rattle.master_spec.specs.declared.causes.Verdict.TheVariants as verdicts
use Rattle.master_spec.specs.declared.reports.Report.{Report}
use Rattle.master_spec.specs.declared.reports.Report.TheVariants as reports
use Rattle.master_spec.specs.declared.setups.Slave.{Slave}
use Rattle.master_spec.specs.declared.setups.Setup.{Setup}
use Rattle.master_spec.specs.declared.tasks.Task.{Task}
use Rattle.master_spec.specs.declared.tasks.Task.TheVariants as tasks
use Rattle.master_spec.specs.Tasks.{is_by_list, is_by_end, task_row}
use Rattle.master_spec.specs.Jobs.{Job}
use Rattle.master_spec.specs.Setup.{jobs_of}
use Rattle.master_spec.specs.Marks.{Mark, Turned, acks_change, this_phase, settings_answered, kept, is_reached, has_row_outputs, is_passed, job_of, verdict_of}
use Rattle.master_spec.specs.Conversation.{marks_after}
use Rattle.master_spec.specs.Course.{CourseTalk, Course, course, is_passed_as, has_passed, is_settled, is_quiet, failed, phases, with_next, with_report, decided, with_turns, decided_if, course_turned, still, course_after_turn, row_in_job, row_now, values_in, talk_outputs, counted_at, counted_rows}
use Rattle.master_log_laws.specs.Asking.Legal.{GoesByRule}
use Rattle.master_log_laws.proofs.Asking.Legal.{turn_goes, going}
use Rattle.master_log_laws.specs.Index.Runs.{events_of_master, with_event, course_at}
use Rattle.master_log_laws.specs.Index.Follows.{talk_with}
use Rattle.master_log_laws.proofs.Index.Runs.{step_gram, step_tick, step_still, talks_of, with_at}
use Rattle.master_log_laws.proofs.Phases.Tags.{HasPassed, verdict_passed}
use Rattle.master_laws.specs.RowCounts.Laws.{CameInPhase, values_by, CountsRow, RowsGoOneByOne}
use Rattle.master_laws.proofs.RowCounts.Kept.{Came}
use Rattle.master_laws.proofs.RowCounts.Phases.{due, in_row, AllGo, talk_due, talk_of, now_due, slaves_stay, TalksCame, turns_came, talks_came}

-- ---- who has passed the phase of a row keeps outputs of it
row_task : (task : Task) (row : ℕ) → task_row task ≡ Some row → (is_by_list task ≡ false) × (is_by_end task ≡ false)
row_task (tasks.Register uuid) row e = (refl, refl)
row_task tasks.Setup row e = absurd cc
row_task tasks.Prepare row e = (refl, refl)
row_task tasks.Configure row e = (refl, refl)
row_task tasks.Initialize row e = (refl, refl)
row_task (tasks.FirstOutputs r) row e = (refl, refl)
row_task tasks.Run row e = (refl, refl)
row_task (tasks.Step k) row e = (refl, refl)
row_task (tasks.Outputs k r) row e = (refl, refl)
row_task tasks.Stop row e = (refl, refl)
row_task tasks.Reset row e = (refl, refl)
row_task tasks.Adjust row e = absurd cc
row_task tasks.Deregister row e = absurd cc

passed_keeps : (job : Job) (marks : List Mark) (row : ℕ) → task_row job.task ≡ Some row → is_passed job marks ≡ true → is_some (kept row marks) ≡ true
passed_keeps job marks row e h = let t = row_task job.task row e in ap (λ (o : Option ℕ). has_row_outputs o marks) (sym e) ∙ by (is_by_list job.task) (is_by_end job.task) t.0 t.1 h
  where
    by : (a b : Bool) → a ≡ false → b ≡ false → (if a then nat_le (length job.list) (settings_answered marks) else if b then list_any acks_change (this_phase marks) else (is_reached job.task marks && has_row_outputs (task_row job.task) marks)) ≡ true → has_row_outputs (task_row job.task) marks ≡ true
    by true b f g h = absurd cc
    by false true f g h = absurd cc
    by false false f g h = (and_parts (is_reached job.task marks) (has_row_outputs (task_row job.task) marks) h).1

some_of : (o : Option (List ℕ)) → is_some o ≡ true → (p : List ℕ) × (o ≡ Some p)
some_of None h = absurd cc
some_of (Some p) h = (p, refl)

passed_verdict : (v : Verdict) → is_passed_as v ≡ true → v ≡ verdicts.Passed
passed_verdict verdicts.Going h = absurd cc
passed_verdict verdicts.Passed h = refl
passed_verdict (verdicts.Ended cause) h = absurd cc

each_passed : (talks : List CourseTalk) (i : ℕ) (u : CourseTalk) → list_all has_passed talks ≡ true → slice_get talks i ≡ Some u → HasPassed u.marks
each_passed talks i u a e = verdict_passed u.marks (passed_verdict (verdict_of u.marks) (by talks i a e))
  where
    by : (us : List CourseTalk) (j : ℕ) → list_all has_passed us ≡ true → slice_get us j ≡ Some u → has_passed u ≡ true
    by [] j a e = absurd cc
    by (v ∷ vs) zero a e = let z : v ≡ u = cc in ap has_passed (sym z) ∙ (and_parts (has_passed v) (list_all has_passed vs) a).0
    by (v ∷ vs) (suc j) a e = by vs j (and_parts (has_passed v) (list_all has_passed vs) a).1 e

came_in_phase : (setup : Setup) → 1 ≤ setup.runs → (i : ℕ) (slave : Slave) (row : ℕ) (payload : List ℕ) (log : List LogEntry) (marks : List Mark) → Came setup i slave row payload log marks → row_in_job (job_of marks) ≡ Some row
    → CameInPhase setup slave row payload log
came_in_phase setup runs i slave row payload log marks c r =
    let earlier = course_at setup c.earlier in
    let g = with_at (λ s m. GoesByRule setup.limits (jobs_of setup s) earlier.phase m) earlier.talks i (talk_with slave c.before) (going setup runs (events_of_master setup c.earlier)).goes c.here in
    let k = in_row setup slave earlier.phase c.before row g (ap row_in_job c.job_is ∙ r) in
    record {
      later = c.later;
      earlier = c.earlier;
      at = c.at;
      from = c.from;
      bytes = c.bytes;
      is = c.is;
      own = c.own;
      sender = c.sender;
      brings = c.brings;
      unreported = c.unreported;
      before = k.before;
      phase_is = k.phase_is;
      job = k.job;
      job_is = k.job_is;
      row_is = k.row_is;
    }

-- ---- the values of a row
abbrev part_of : ℕ → Option CourseTalk → List ℕ
part_of row None = []
part_of row (Some u) = unwrap_or (kept row u.marks) []

values_same : (row : ℕ) (part : ℕ → List ℕ) (i : ℕ) (us : List CourseTalk) → ((j : ℕ) (u : CourseTalk) → slice_get us j ≡ Some u → part (i + j) ≡ unwrap_or (kept row u.marks) []) → flat_map (talk_outputs row) us ≡ values_by part i (map (λ (u : CourseTalk). u.slave) us)
values_same row part i [] h = refl
values_same row part i (u ∷ us) h =
    let z : i + 0 ≡ i = omega arith in
    let here : unwrap_or (kept row u.marks) [] ≡ part i = sym (h 0 u refl) ∙ ap part z in
    let rest = values_same row part (i + 1) us (λ j v e. let n : i + 1 + j ≡ i + suc j = omega arith in ap part n ∙ h (suc j) v e) in
    ap (λ (p : List ℕ). values_in u.slave.types p ++ flat_map (talk_outputs row) us) here ∙ ap (λ (q : List ℤ). values_in u.slave.types (part i) ++ q) rest

-- ---- one more row
record Counted (setup : Setup) (log : List LogEntry) (rows new : List (List ℤ)) : Type 0 where
  pub part : ℕ → List ℕ
  pub came : (i : ℕ) (slave : Slave) → slice_get setup.slaves i ≡ Some slave → CameInPhase setup slave (length rows) (part i) log
  pub is : new ≡ rows ++ values_by part 0 setup.slaves ∷ []

abbrev Counts : Setup → List LogEntry → (rows new : List (List ℤ)) → Type 0
Counts setup log rows new = (new ≡ rows) ⊎ Counted setup log rows new

module _ (setup : Setup) (runs : 1 ≤ setup.runs) (slave : Slave) (first : slice_get setup.slaves 0 ≡ Some slave) where
  counts : (log : List LogEntry) (rows : List (List ℤ)) (phase : ℕ) (talks : List CourseTalk) → AllGo setup phase talks → map (λ u. u.slave) talks ≡ setup.slaves → TalksCame setup log talks → Counts setup log rows (counted_rows talks rows)
  counts log rows phase talks g m h = by (row_now talks) refl
    where
      now : row_now talks ≡ due setup phase
      now = now_due setup phase talks slave m first g

      whole : (row : ℕ) → row_now talks ≡ Some row → length rows ≡ row → list_all has_passed talks ≡ true → Counted setup log rows (rows ++ flat_map (talk_outputs row) talks ∷ [])
      whole row e n all = record {
        part = λ i. part_of row (slice_get talks i);
        came = came;
        is = ap (λ (q : List ℤ). rows ++ q ∷ []) (values_same row (λ i. part_of row (slice_get talks i)) 0 talks (λ j u z. let k : 0 + j ≡ j = omega arith in ap (λ i. part_of row (slice_get talks i)) k ∙ ap (part_of row) z) ∙ ap (values_by (λ i. part_of row (slice_get talks i)) 0) m);
      }
        where
          came : (i : ℕ) (s : Slave) → slice_get setup.slaves i ≡ Some s → CameInPhase setup s (length rows) (part_of row (slice_get talks i)) log
          came i s f =
              let t = talk_of talks setup.slaves i s m f in
              let u = t.0 in
              let p = each_passed talks i u all (t.1).0 in
              let r : row_in_job (job_of u.marks) ≡ Some row = talk_due setup phase talks i u g (t.1).0 ∙ sym now ∙ e in
              let k = some_of (kept row u.marks) (passed_keeps p.job u.marks row (ap row_in_job (sym p.job_is) ∙ r) p.passed) in
              let c = came_in_phase setup runs i u.slave row k.0 log u.marks ((h i u (t.1).0).each row k.0 k.1) r in
              let part : k.0 ≡ part_of row (slice_get talks i) = ap (λ (o : Option (List ℕ)). unwrap_or o []) (sym k.1) ∙ ap (part_of row) (sym (t.1).0) in
              let P : List ℕ → Type 0 = λ q. CameInPhase setup u.slave row q log in
              let Q : ℕ → Type 0 = λ n. CameInPhase setup u.slave n (part_of row (slice_get talks i)) log in
              let R : Slave → Type 0 = λ v. CameInPhase setup v (length rows) (part_of row (slice_get talks i)) log in
              subst R (t.1).1 (subst Q (sym n) (subst P part c))

      by : (o : Option ℕ) → row_now talks ≡ o → Counts setup log rows (counted_at o talks rows)
      by None e = inl refl
      by (Some row) e = two (length rows == row) refl (list_all has_passed talks) refl
        where
          two : (a : Bool) → (length rows == row) ≡ a → (b : Bool) → list_all has_passed talks ≡ b → Counts setup log rows (if a && b then rows ++ flat_map (talk_outputs row) talks ∷ [] else rows)
          two true x true y = inr (whole row e (eqb-true (length rows) row x) y)
          two true x false y = inl refl
          two false x b y = inl refl

  -- ---- an event
  same_rows : (log : List LogEntry) (rows new later : List (List ℤ)) → later ≡ new → Counts setup log rows new → Counts setup log rows later
  same_rows log rows new later e h = let P : List (List ℤ) → Type 0 = λ z. Counts setup log rows z in subst P (sym e) h

  decided_rows : (c : Course) (o : Option Report) → (decided setup c o).rows ≡ c.rows
  decided_rows c (Some report) = refl
  decided_rows c None = by (c.phase == phases setup)
    where
      by : (b : Bool) → (if b then with_report c (reports.Finished setup.steps) else with_next setup c).rows ≡ c.rows
      by true = refl
      by false = refl

  turned_rows : (c : Course) (b : Bool) → (decided_if setup b c).rows ≡ c.rows
  turned_rows c true = decided_rows c (failed c.phase c.talks)
  turned_rows c false = refl

  tick_counts : (e : LogEntry) (log : List LogEntry) → let c = course_at setup log in Counts setup (e ∷ log) c.rows (course_after_turn setup c).rows
  tick_counts e log = by (c.phase == 0)
    where
      c : Course
      c = course_at setup log

      settled : Bool
      settled = list_all is_settled c.talks

      d : Course
      d = with_turns setup settled c

      by : (b : Bool) → Counts setup (e ∷ log) c.rows (if b then with_next setup (still c) else course_turned setup d).rows
      by true = inl refl
      by false = same_rows (e ∷ log) c.rows d.rows (course_turned setup d).rows (turned_rows d (list_all is_quiet d.talks))
          (counts (e ∷ log) c.rows c.phase d.talks (turn_goes setup runs c.phase settled c.talks (going setup runs (events_of_master setup log)).goes)
          (slaves_stay (λ u. marks_after setup.limits (Turned settled) u.marks) c.talks ∙ talks_of setup (events_of_master setup log)) (turns_came setup e log settled c (talks_came setup log)))

  got_counts : (at from : Address) (bytes : List ℕ) (log : List LogEntry) (b : Bool) → (same_address at setup.address) ≡ b → Counts setup (Got at from bytes ∷ log) (course_at setup log).rows (course setup (with_event b (Gram from bytes) (events_of_master setup log))).rows
  got_counts at from bytes log false own = inl refl
  got_counts at from bytes log true own = by c.report refl
    where
      c : Course
      c = course_at setup log

      d : Course
      d = course setup (Gram from bytes ∷ events_of_master setup log)

      L : List LogEntry
      L = Got at from bytes ∷ log

      is : course_at setup L ≡ d
      is = ap (λ (b : Bool). course setup (with_event b (Gram from bytes) (events_of_master setup log))) own

      by : (o : Option Report) → c.report ≡ o → Counts setup L c.rows d.rows
      by (Some r) e = inl (ap (λ (x : Course). x.rows) (step_still setup (Gram from bytes) c r e))
      by None e =
          let s = step_gram setup from bytes c e in
          let n : d.rows ≡ counted_rows d.talks c.rows = ap (λ (x : Course). x.rows) s ∙ ap (λ (x : Course). counted_rows x.talks c.rows) (sym s) in
          let P : Course → Type 0 = λ x. TalksCame setup L x.talks in
          same_rows L c.rows (counted_rows d.talks c.rows) d.rows n
          (counts L c.rows d.phase d.talks (going setup runs (Gram from bytes ∷ events_of_master setup log)).goes (talks_of setup (Gram from bytes ∷ events_of_master setup log)) (subst P is (talks_came setup L)))

  turn_counts : (at : Address) (log : List LogEntry) (b : Bool) → Counts setup (Turn at ∷ log) (course_at setup log).rows (course setup (with_event b Tick (events_of_master setup log))).rows
  turn_counts at log false = inl refl
  turn_counts at log true = by c.report refl
    where
      c : Course
      c = course_at setup log

      by : (o : Option Report) → c.report ≡ o → Counts setup (Turn at ∷ log) c.rows (course setup (Tick ∷ events_of_master setup log)).rows
      by (Some r) e = inl (ap (λ (x : Course). x.rows) (step_still setup Tick c r e))
      by None e = same_rows (Turn at ∷ log) c.rows (course_after_turn setup c).rows (course setup (Tick ∷ events_of_master setup log)).rows (ap (λ (x : Course). x.rows) (step_tick setup c e)) (tick_counts (Turn at) log)

  entry_counts : (e : LogEntry) (log : List LogEntry) → Counts setup (e ∷ log) (course_at setup log).rows (course_at setup (e ∷ log)).rows
  entry_counts (Sent from to bytes) log = inl refl
  entry_counts (Got at from bytes) log = got_counts at from bytes log (same_address at setup.address) refl
  entry_counts (Idle at) log = inl refl
  entry_counts (Turn at) log = turn_counts at log (same_address at setup.address)

pub one_by_one : RowsGoOneByOne
one_by_one setup runs slave first e log = by (entry_counts setup runs slave first e log)
  where
    by : Counts setup (e ∷ log) (course_at setup log).rows (course_at setup (e ∷ log)).rows → ((course_at setup (e ∷ log)).rows ≡ (course_at setup log).rows) ⊎ CountsRow setup e log
    by (inl z) = inl z
    by (inr k) = inr (record { part = k.part; came = k.came; is = k.is })
