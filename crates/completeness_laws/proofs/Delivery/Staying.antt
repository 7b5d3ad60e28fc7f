-- A conversation that has ended stays so, and no phase begins after it.
use Rattle.std.proofs.Common.{◌≡◌, ℕ, zero, suc, ◌≤◌, Bool, true, false, if◌then◌else◌, Option, Some, None, List, [], ◌∷◌, map, refl, sym, ap, ◌∙◌, subst, arith}
use Rattle.std.specs.Prelude.{◌==◌, slice_get}
use Rattle.std.specs.List.{list_all}
use Rattle.std.proofs.lemmas.Bool.{eqb-true}
use Rattle.dcp_types.specs.declared.addresses.Address.{Address}
use Rattle.dcp_types.specs.declared.limits.Limits.{Limits}
use Rattle.dcp_ends.specs.declared.entries.LogEntry.{LogEntry}
use Rattle.dcp_ends.specs.declared.entries.LogEntry.TheVariants.{Sent, Got, Idle, Turn}
use Rattle.dcp_ends.specs.Events.{Event, Gram, Tick}
use Rattle.dcp_ends.specs.Logs.{same_address}
use Rattle.master_spec.specs.declared.causes.Cause.{Cause}
use Rattle.master_spec.specs.declared.causes.Verdict.TheVariants as verdicts
use Rattle.master_spec.specs.declared.reports.Report.{Report}
use Rattle.master_spec.specs.declared.reports.Report.TheVariants as reports
use Rattle.master_spec.specs.declared.reactions.Reaction.{Reaction}
use Rattle.master_spec.specs.declared.reactions.Reaction.TheVariants.{Wait, Ask, Repeat, GiveUp}
use Rattle.master_spec.specs.declared.setups.Setup.{Setup}
use Rattle.master_spec.specs.Setup.{jobs_of}
use Rattle.master_spec.specs.Jobs.{Job}
use Rattle.master_spec.specs.Marks.{Mark, Turned, job_of, cause_of, verdict_of, verdict_by}
use Rattle.master_spec.specs.Conversation.{reaction, done, marks_after, extended}
use Rattle.master_spec.specs.Course.{CourseTalk, Course, course, mark_of_gram, marked, is_settled, is_quiet, failed_by, failed, with_next, decided, with_turns, decided_if, course_turned, still, after_gram, course_after_turn, step}
use Rattle.master_log_laws.specs.Asking.Legal.{GoesByRule}
use Rattle.master_log_laws.proofs.Asking.Legal.{going}
use Rattle.master_log_laws.specs.Index.Runs.{events_of_master, with_event, course_at}
use Rattle.master_log_laws.proofs.Index.Events.{acts}
use Rattle.master_log_laws.proofs.Index.Outputs.{gram_news}
use Rattle.master_log_laws.proofs.Index.Runs.{with_at, step_gram, step_tick, step_still}
use Rattle.master_log_laws.proofs.Phases.Someone.{no_cause}
use Rattle.master_log_laws.proofs.Phases.Tags.{counted}
use Rattle.completeness_laws.specs.Moments.{cause_in}
use Rattle.completeness_laws.proofs.Delivery.Coming.{none_some, news_cause, next_same, quiet_same}

stays_mark : (limits : Limits) (m : Mark) (ms : List Mark) (c : Cause) → cause_of (m ∷ ms) ≡ cause_of ms → cause_of ms ≡ Some c → cause_of (marks_after limits m ms) ≡ Some c
stays_mark limits m ms c e h = by (reaction limits m ms) refl
  where
    off : (r : Reaction) → reaction limits m ms ≡ r → (r ≡ Wait → ⊥) → ⊥
    off r q n = none_some c (cause_of ms) (acts limits m ms (λ z. n (sym q ∙ z))) h

    by : (r : Reaction) → reaction limits m ms ≡ r → cause_of (done r (m ∷ ms)) ≡ Some c
    by Wait q = e ∙ h
    by (Ask r) q = absurd (off (Ask r) q (λ z. clash z))
      where
        clash : Ask r ≡ Wait → ⊥
        clash z = cc
    by Repeat q = absurd (off Repeat q (λ z. clash z))
      where
        clash : Repeat ≡ Wait → ⊥
        clash z = cc
    by (GiveUp d) q = absurd (off (GiveUp d) q (λ z. clash z))
      where
        clash : GiveUp d ≡ Wait → ⊥
        clash z = cc

map_stays : (f : CourseTalk → CourseTalk) (c : Cause) → ((u : CourseTalk) → cause_of u.marks ≡ Some c → cause_of (f u).marks ≡ Some c) → (talks : List CourseTalk) (i : ℕ) → cause_in (slice_get talks i) ≡ Some c → cause_in (slice_get (map f talks) i) ≡ Some c
map_stays f c h [] i e = absurd cc
map_stays f c h (u ∷ us) zero e = h u e
map_stays f c h (u ∷ us) (suc i) e = map_stays f c h us i e

fails : (phase : ℕ) (talks : List CourseTalk) (i : ℕ) (c : Cause) → cause_in (slice_get talks i) ≡ Some c → failed phase talks ≡ None → ⊥
fails phase [] i c e h = cc
fails phase (u ∷ us) zero c e h =
    let v : verdict_of u.marks ≡ verdicts.Ended c = ap (λ (o : Option Cause). verdict_by o (job_of u.marks) u.marks) e in
    let z : Some (reports.Failed u.slave.id phase c) ≡ None = sym (ap (λ x. failed_by phase u.slave x (failed phase us)) v) ∙ h in cc
fails phase (u ∷ us) (suc i) c e h = fails phase us i c e (by (verdict_of u.marks) h)
  where
    by : (v : _) → failed_by phase u.slave v (failed phase us) ≡ None → failed phase us ≡ None
    by verdicts.Going z = z
    by verdicts.Passed z = z
    by (verdicts.Ended d) z = absurd cc

module _ (setup : Setup) (i : ℕ) (c : Cause) where
  abbrev pub Ended' : Course → Type 0
  Ended' k = cause_in (slice_get k.talks i) ≡ Some c

  gram_stays : (k : Course) (from : Address) (bytes : List ℕ) → Ended' k → Ended' (after_gram setup from bytes k)
  gram_stays k from bytes h = map_stays (λ u. marked setup.limits u (mark_of_gram u from bytes)) c (λ u e. by u (mark_of_gram u from bytes) refl e) k.talks i h
    where
      by : (u : CourseTalk) (o : Option Mark) → mark_of_gram u from bytes ≡ o → cause_of u.marks ≡ Some c → cause_of (extended setup.limits o u.marks) ≡ Some c
      by u None q e = e
      by u (Some m) q e = stays_mark setup.limits m u.marks c (news_cause m u.marks (gram_news u.slave u.marks from bytes m q)) e

  turns_stay : (k : Course) (t : Bool) → Ended' k → Ended' (with_turns setup t k)
  turns_stay k t h = map_stays (λ u. marked setup.limits u (Some (Turned t))) c (λ u e. stays_mark setup.limits (Turned t) u.marks c refl e) k.talks i h

  turn_stays : (k : Course) → Ended' k → Ended' (course_after_turn setup k)
  turn_stays k h = by (k.phase == 0)
    where
      d : Course
      d = with_turns setup (list_all is_settled k.talks) k

      by : (b : Bool) → Ended' (if b then with_next setup (still k) else course_turned setup d)
      by true = next_same setup i (still k) ∙ h
      by false = quiet_same setup i d (list_all is_quiet d.talks) ∙ turns_stay k (list_all is_settled k.talks) h

  turn_phase : (k : Course) → Ended' k → (k.phase ≡ 0 → ⊥) → (course_after_turn setup k).phase ≡ k.phase
  turn_phase k h some = by (k.phase == 0) refl
    where
      d : Course
      d = with_turns setup (list_all is_settled k.talks) k

      report : (o : Option Report) → failed d.phase d.talks ≡ o → (decided setup d o).phase ≡ k.phase
      report (Some r) e = refl
      report None e = absurd (fails d.phase d.talks i c (turns_stay k (list_all is_settled k.talks) h) e)

      two : (b : Bool) → (decided_if setup b d).phase ≡ k.phase
      two true = report (failed d.phase d.talks) refl
      two false = refl

      by : (b : Bool) → (k.phase == 0) ≡ b → (if b then with_next setup (still k) else course_turned setup d).phase ≡ k.phase
      by true e = absurd (some (eqb-true k.phase 0 e))
      by false e = two (list_all is_quiet d.talks)

  -- a conversation that has ended has begun a phase
  phase_some : 1 ≤ setup.runs → (evs : List Event) → Ended' (course setup evs) → (course setup evs).phase ≡ 0 → ⊥
  phase_some runs evs h z = by (slice_get (course setup evs).talks i) refl h
    where
      by : (o : Option CourseTalk) → slice_get (course setup evs).talks i ≡ o → cause_in o ≡ Some c → ⊥
      by None e q = cc
      by (Some u) e q =
          let g = with_at (λ s m. GoesByRule setup.limits (jobs_of setup s) (course setup evs).phase m) (course setup evs).talks i u (going setup runs evs).goes e in
          two g (job_of u.marks) refl
        where
          two : GoesByRule setup.limits (jobs_of setup u.slave) (course setup evs).phase u.marks → (o : Option Job) → job_of u.marks ≡ o → ⊥
          two g None j = none_some c (cause_of u.marks) (no_cause setup.limits (jobs_of setup u.slave) u.marks g.legal j) q
          two g (Some job) j = let n = counted u.marks job j in let p = g.phase_is in let y = n.1 in omega (arith, p, y, z)

  pub record Stays' (k l : Course) : Type 0 where
    pub ended : Ended' l
    pub phase : l.phase ≡ k.phase

  step_stays : 1 ≤ setup.runs → (event : Event) (evs : List Event) → Ended' (course setup evs) → Stays' (course setup evs) (step setup event (course setup evs))
  step_stays runs event evs h = by (course setup evs).report refl
    where
      k : Course
      k = course setup evs

      P : Course → Type 0
      P l = Stays' k l

      none : (event : Event) → k.report ≡ None → Stays' k (step setup event k)
      none (Gram from bytes) r = subst P (sym (step_gram setup from bytes k r)) (record { ended = gram_stays k from bytes h; phase = refl })
      none Tick r = subst P (sym (step_tick setup k r)) (record { ended = turn_stays k h; phase = turn_phase k h (phase_some runs evs h) })

      by : (o : Option Report) → k.report ≡ o → Stays' k (step setup event k)
      by (Some report) r = subst P (sym (step_still setup event k report r)) (record { ended = h; phase = refl })
      by None r = none event r

  with_stays : 1 ≤ setup.runs → (b : Bool) (event : Event) (evs : List Event) → Ended' (course setup evs) → Stays' (course setup evs) (course setup (with_event b event evs))
  with_stays runs true event evs h = step_stays runs event evs h
  with_stays runs false event evs h = record { ended = h; phase = refl }

  pub entry_stays : 1 ≤ setup.runs → (e : LogEntry) (log : List LogEntry) → Ended' (course_at setup log) → Stays' (course_at setup log) (course_at setup (e ∷ log))
  entry_stays runs (Sent from to bytes) log h = record { ended = h; phase = refl }
  entry_stays runs (Got at from bytes) log h = with_stays runs (same_address at setup.address) (Gram from bytes) (events_of_master setup log) h
  entry_stays runs (Idle at) log h = record { ended = h; phase = refl }
  entry_stays runs (Turn at) log h = with_stays runs (same_address at setup.address) Tick (events_of_master setup log) h

  -- ---- the entry with which it ends begins no phase
  turn_ends : (k : Course) → cause_in (slice_get k.talks i) ≡ None → Ended' (course_after_turn setup k) → (course_after_turn setup k).phase ≡ k.phase
  turn_ends k n h = by (k.phase == 0) h
    where
      d : Course
      d = with_turns setup (list_all is_settled k.talks) k

      report : Ended' d → (o : Option Report) → failed d.phase d.talks ≡ o → (decided setup d o).phase ≡ k.phase
      report g (Some r) e = refl
      report g None e = absurd (fails d.phase d.talks i c g e)

      two : Ended' d → (b : Bool) → (decided_if setup b d).phase ≡ k.phase
      two g true = report g (failed d.phase d.talks) refl
      two g false = refl

      by : (b : Bool) → Ended' (if b then with_next setup (still k) else course_turned setup d) → (if b then with_next setup (still k) else course_turned setup d).phase ≡ k.phase
      by true e = absurd (none_some c (cause_in (slice_get k.talks i)) n (sym (next_same setup i (still k)) ∙ e))
      by false e = two (sym (quiet_same setup i d (list_all is_quiet d.talks)) ∙ e) (list_all is_quiet d.talks)

  step_ends : (event : Event) (k : Course) → cause_in (slice_get k.talks i) ≡ None → Ended' (step setup event k) → (step setup event k).phase ≡ k.phase
  step_ends event k n h = by k.report refl
    where
      none : (event : Event) → k.report ≡ None → Ended' (step setup event k) → (step setup event k).phase ≡ k.phase
      none (Gram from bytes) r e = ap (λ (l : Course). l.phase) (step_gram setup from bytes k r)
      none Tick r e = ap (λ (l : Course). l.phase) (step_tick setup k r) ∙ turn_ends k n (let P : Course → Type 0 = λ l. Ended' l in subst P (step_tick setup k r) e)

      by : (o : Option Report) → k.report ≡ o → (step setup event k).phase ≡ k.phase
      by (Some report) r = ap (λ (l : Course). l.phase) (step_still setup event k report r)
      by None r = none event r h

  with_ends : (b : Bool) (event : Event) (evs : List Event) → cause_in (slice_get (course setup evs).talks i) ≡ None → Ended' (course setup (with_event b event evs)) → (course setup (with_event b event evs)).phase ≡ (course setup evs).phase
  with_ends true event evs n h = step_ends event (course setup evs) n h
  with_ends false event evs n h = refl

  pub entry_ends : (e : LogEntry) (log : List LogEntry) → cause_in (slice_get (course_at setup log).talks i) ≡ None → Ended' (course_at setup (e ∷ log)) → (course_at setup (e ∷ log)).phase ≡ (course_at setup log).phase
  entry_ends (Sent from to bytes) log n h = refl
  entry_ends (Got at from bytes) log n h = with_ends (same_address at setup.address) (Gram from bytes) (events_of_master setup log) n h
  entry_ends (Idle at) log n h = refl
  entry_ends (Turn at) log n h = with_ends (same_address at setup.address) Tick (events_of_master setup log) n h
