-- In the log: a slave goes with the phases.
use Rattle.std.proofs.Common.{◌≡◌, ℕ, ◌+◌, ◌≤◌, false, ◌⊎◌, inl, inr, Option, Some, None, List, [], ◌∷◌, refl, sym, ap, ◌∙◌, subst, arith}
use Rattle.std.specs.Prelude.{slice_get}
use Rattle.dcp_ends.specs.declared.entries.LogEntry.{LogEntry}
use Rattle.log_spec.specs.Moves.{decided_exchanges}
use Rattle.lockstep_laws.specs.Steps.{BenchProgress, events_counted, view}
use Rattle.master_spec.specs.declared.causes.Cause.{Cause}
use Rattle.master_spec.specs.declared.causes.Verdict.TheVariants as verdicts
use Rattle.master_spec.specs.declared.reports.Report.{Report}
use Rattle.master_spec.specs.declared.requests.Request.{Request}
use Rattle.master_spec.specs.declared.setups.Slave.{Slave}
use Rattle.master_spec.specs.declared.setups.Setup.{Setup}
use Rattle.master_spec.specs.Course.{CourseTalk, is_quiet}
use Rattle.master_spec.specs.Marks.{Mark, Asked, Again, open_request, verdict_of}
use Rattle.master_spec.specs.Requests.{Asking, asks}
use Rattle.master_spec.specs.Setup.{jobs_of}
use Rattle.master_log_laws.specs.Asking.Legal.{GoesByRule}
use Rattle.master_log_laws.proofs.Asking.Legal.{going}
use Rattle.master_log_laws.specs.Index.Runs.{events_of_master, course_at, owed, IsRun}
use Rattle.master_log_laws.specs.Index.Index.{Placed, at, marks_of, again_at, askings_told, ReadBack, IsAsked, IsAgain, Owes}
use Rattle.master_log_laws.specs.Index.Follows.{mine, talk_with}
use Rattle.master_log_laws.specs.Index.Laws.{AreHeard}
use Rattle.master_log_laws.proofs.Index.Laws.{listens}
use Rattle.master_log_laws.proofs.Index.Late.{all_report}
use Rattle.master_log_laws.proofs.Index.Reported.{all_get, quiet_open, reported}
use Rattle.master_log_laws.proofs.Index.Runs.{followed, owes_count, with_at}
use Rattle.master_log_laws.proofs.Phases.Numbered.{ordered, legal_below}
use Rattle.master_log_laws.proofs.Phases.Tags.{verdict_passed}
use Rattle.master_laws.specs.Rows.Laws.{progress}
use Rattle.master_laws.proofs.Rows.Views.{progress_told}
use Rattle.master_laws.specs.Barrier.Laws.{events_before, StandsInPhase, ProgressGoesByPhase, RowsAreShownInTheirPhase, PassedPhasesAreDone}
use Rattle.master_laws.proofs.Barrier.Scripts.{events_of, before_next, in_place}
use Rattle.master_laws.proofs.Barrier.Counting.{stands, same_progress, late_stands}
use Rattle.master_laws.proofs.Barrier.Passing.{passed_rests}

module _ (setup : Setup) (h : AreHeard setup) (i : ℕ) (slave : Slave) (is : slice_get setup.slaves i ≡ Some slave) (log : List LogEntry) where
  pub goes_at : (marks : List Mark) → slice_get (course_at setup log).talks i ≡ Some (talk_with slave marks) → GoesByRule setup.limits (jobs_of setup slave) (course_at setup log).phase marks
  goes_at marks here = with_at (λ u m. GoesByRule setup.limits (jobs_of setup u) (course_at setup log).phase m) (course_at setup log).talks i (talk_with slave marks) (going setup h.runs (events_of_master setup log)).goes here

  asks_stand : IsRun setup log → (f : ℕ) → (course_at setup log).phase ≡ f + 1 → StandsInPhase (jobs_of setup slave) f (progress (asks setup.address slave log))
  asks_stand run f e = by (course_at setup log).report refl
    where
      by : (o : Option Report) → (course_at setup log).report ≡ o → StandsInPhase (jobs_of setup slave) f (progress (asks setup.address slave log))
      by None r =
          let k = followed setup (ReadBack slave.id) i slave (listens setup h i slave is) h.runs log run r in
          let g = goes_at k.marks k.here in
          let o = (k.tracks).owes in
          let P : List Asking → Type 0 = λ z. StandsInPhase (jobs_of setup slave) f (progress z) in
          let n = sym (owes_count (ReadBack slave.id) slave.id (mine slave.address (owed setup log)) k.marks (marks_of k.xs) o) ∙ g.phase_is ∙ e in
          subst P (sym (k.tracks).is) (stands setup.limits (jobs_of setup slave) k.xs f (legal_below setup.limits (jobs_of setup slave) (ReadBack slave.id) slave.id (mine slave.address (owed setup log)) k.marks (marks_of k.xs) o g.legal) n)
      by (Some report) r =
          let s = (reported setup (ReadBack slave.id) i slave (listens setup h i slave is) h.runs log run report r).0 in
          let g = goes_at (marks_of s.xs) s.here in
          late_stands setup.limits (jobs_of setup slave) s.xs f g.legal (g.phase_is ∙ e) s.until (asks setup.address slave log) s.late

pub progress_by_phase : ProgressGoesByPhase
progress_by_phase setup h w ps log run s is slave p f e =
    let P : BenchProgress → Type 0 = λ v. StandsInPhase (jobs_of setup slave) f v in
    subst P (sym (progress_told setup h w ps log run s is slave p)) (asks_stand setup h (p.is_in).0 slave (p.is_in).1 log run f e)

not_more : (v : BenchProgress) → v.done ≤ events_counted v
not_more v = grind arith

pub rows_in_phase : RowsAreShownInTheirPhase
rows_in_phase setup h w ps log run s is slave p f e job job_is row row_is =
    let js = jobs_of setup slave in
    let v = view (decided_exchanges w s log) in
    let k = progress_by_phase setup h w ps log run s is slave p f e in
    let least = k.least in
    let most = k.most in
    let z = (in_place setup.steps setup.runs slave.script h.runs f job job_is).row row row_is in
    let next = before_next js f job job_is in
    let one = at_most_one (events_of job) refl in
    let up = not_more v in
    (omega (arith, least, z), omega (arith, most, next, one, up, z))
  where
    at_most_one : (n : ℕ) → events_of job ≡ n → n ≤ 1
    at_most_one n e = grind arith

-- ---- a slave that has passed the phase
-- what is still to be sent is asked, and tells nothing yet
record WithOwed (marks : List Mark) (xs : List Placed) : Type 0 where
  pub ys : List Placed
  pub marks_are : marks_of ys ≡ marks
  pub tell : progress (askings_told ys) ≡ progress (askings_told xs)

with_owed : (good : Request → Type 0) (id : ℕ) (posts : List (List ℕ)) (marks : List Mark) (xs : List Placed) → Owes good id posts marks (marks_of xs) → WithOwed marks xs
with_owed good id [] marks xs o = record { ys = xs; marks_are = sym o; tell = refl }
with_owed good id (b ∷ c ∷ more) marks xs o = absurd o
with_owed good id (b ∷ []) marks xs o = by o.0 ((o.1).1).1
  where
    again : (bs : List Asking) → progress (again_at 0 bs) ≡ progress bs
    again [] = refl
    again (b ∷ bs) = refl

    by : (r : Request) → IsAsked id b marks (marks_of xs) r ⊎ IsAgain id b marks (marks_of xs) r → WithOwed marks xs
    by r (inl k) = record { ys = at 0 (Asked r) ∷ xs; marks_are = sym k.0; tell = refl }
    by r (inr k) = record { ys = at 0 Again ∷ xs; marks_are = sym k.0; tell = again (askings_told xs) }

module _ (setup : Setup) (h : AreHeard setup) (i : ℕ) (slave : Slave) (is : slice_get setup.slaves i ≡ Some slave) (log : List LogEntry) (marks : List Mark) (here : slice_get (course_at setup log).talks i ≡ Some (talk_with slave marks)) (v : verdict_of marks ≡ verdicts.Passed) where
  abbrev Done : ℕ → BenchProgress → Type 0
  Done f x = x ≡ record { done = events_before (jobs_of setup slave) (f + 1); waiting = false }

  at_marks : (f : ℕ) → (course_at setup log).phase ≡ f + 1 → (xs : List Placed) → marks_of xs ≡ marks → Done f (progress (askings_told xs))
  at_marks f e xs m =
      let g = goes_at setup h i slave is log marks here in
      let P : List Mark → Type 0 = λ z. GoesByRule setup.limits (jobs_of setup slave) (course_at setup log).phase z in
      let Q : List Mark → Type 0 = λ z. verdict_of z ≡ verdicts.Passed in
      let k = subst P (sym m) g in
      passed_rests setup.limits (jobs_of setup slave) xs f k.legal k.rests (verdict_passed (marks_of xs) (subst Q (sym m) v)) (k.phase_is ∙ e)

  same_marks : (ms : List Mark) → slice_get (course_at setup log).talks i ≡ Some (talk_with slave ms) → ms ≡ marks
  same_marks ms e = of_talk (sym e ∙ here)
    where
      of_talk : Some (talk_with slave ms) ≡ Some (talk_with slave marks) → ms ≡ marks
      of_talk z = let y : talk_with slave ms ≡ talk_with slave marks = cc in ap (λ (u : CourseTalk). u.marks) y

  asks_done : IsRun setup log → (f : ℕ) → (course_at setup log).phase ≡ f + 1 → Done f (progress (asks setup.address slave log))
  asks_done run f e = by (course_at setup log).report refl
    where
      clash : (cause : Cause) → verdicts.Passed ≡ verdicts.Ended cause → ⊥
      clash cause z = cc

      by : (o : Option Report) → (course_at setup log).report ≡ o → Done f (progress (asks setup.address slave log))
      by None r =
          let k = followed setup (ReadBack slave.id) i slave (listens setup h i slave is) h.runs log run r in
          let y = with_owed (ReadBack slave.id) slave.id (mine slave.address (owed setup log)) k.marks k.xs (k.tracks).owes in
          ap progress (k.tracks).is ∙ sym y.tell ∙ at_marks f e y.ys (y.marks_are ∙ same_marks k.marks k.here)
      by (Some report) r =
          let s = (reported setup (ReadBack slave.id) i slave (listens setup h i slave is) h.runs log run report r).0 in
          let g = goes_at setup h i slave is log (marks_of s.xs) s.here in
          let m = same_marks (marks_of s.xs) s.here in
          let q = all_get is_quiet (course_at setup log).talks i (talk_with slave marks) (all_report setup (events_of_master setup log) report r).0 here in
          same_progress s.until (asks setup.address slave log) (askings_told s.xs) s.late ((ordered setup.limits (jobs_of setup slave) s.xs g.legal).decided (ap open_request m ∙ closed (quiet_open (open_request marks) (verdict_of marks) q)))
          ∙ at_marks f e s.xs m
        where
          closed : (open_request marks ≡ None) ⊎ ((cause : Cause) × (verdict_of marks ≡ verdicts.Ended cause)) → open_request marks ≡ None
          closed (inl o) = o
          closed (inr o) = absurd (clash o.0 (sym v ∙ o.1))

pub passed_done : PassedPhasesAreDone
passed_done setup h w ps log run s is slave p f e i marks in_setup here v =
    progress_told setup h w ps log run s is slave p ∙ asks_done setup h i slave in_setup log marks here v run f e
