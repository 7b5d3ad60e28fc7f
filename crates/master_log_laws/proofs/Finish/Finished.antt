-- Of a finished run each conversation is cut into the segments of all its jobs.
use Rattle.std.proofs.Common.{◌≡◌, ℕ, suc, ◌-◌, ◌⊎◌, inl, inr, true, Option, Some, None, List, [], ◌∷◌, reverse, length, refl, sym, ap, ◌∙◌, subst, arith}
use Rattle.std.specs.Prelude.{is_some, slice_get}
use Rattle.dcp_ends.specs.declared.entries.LogEntry.{LogEntry}
use Rattle.pdu_layout.specs.Fields.{FieldValue}
use Rattle.master_spec.proofs.Phases.{phases_counted}
use Rattle.master_spec.specs.declared.causes.Verdict.TheVariants as verdicts
use Rattle.master_spec.specs.declared.reports.Report.TheVariants as reports
use Rattle.master_spec.specs.declared.setups.Slave.{Slave}
use Rattle.master_spec.specs.declared.setups.Setup.{Setup}
use Rattle.master_spec.specs.Setup.{jobs_of}
use Rattle.master_spec.specs.Jobs.{Job}
use Rattle.master_spec.specs.Marks.{Mark, count, is_begun, job_of, verdict_of}
use Rattle.master_spec.specs.Course.{phases}
use Rattle.master_spec.specs.Requests.{Asking, Decision, asks}
use Rattle.master_spec.specs.Exchanged.{in_order}
use Rattle.master_log_laws.specs.Asking.Legal.{GoesByRule}
use Rattle.master_log_laws.proofs.Asking.Legal.{IsFreeToGo, all_passed, going}
use Rattle.master_log_laws.specs.Index.Runs.{events_of_master, course_at, IsRun}
use Rattle.master_log_laws.specs.Index.Index.{marks_of, askings_told, ReadBack}
use Rattle.master_log_laws.specs.Index.Follows.{talk_with}
use Rattle.master_log_laws.specs.Index.Late.{IsLate, AreLate}
use Rattle.master_log_laws.specs.Index.Laws.{AreHeard}
use Rattle.master_log_laws.proofs.Index.Late.{all_report}
use Rattle.master_log_laws.proofs.Index.Laws.{listens}
use Rattle.master_log_laws.proofs.Index.Reported.{reported}
use Rattle.master_log_laws.proofs.Index.Runs.{all_at, with_at}
use Rattle.master_log_laws.specs.Phases.Laws.{AreDecided}
use Rattle.master_log_laws.proofs.Phases.Numbered.{ordered}
use Rattle.master_log_laws.proofs.Phases.Tags.{job_some, HasPassed, verdict_passed}
use Rattle.master_log_laws.proofs.Exchanges.Finishing.{finishes}
use Rattle.master_log_laws.proofs.Finish.Cuts.{Cuts, cut_all}

-- what is decided stays as it is
late_same : (n : ℕ) (cs bs : List Asking) → AreLate n cs bs → AreDecided bs → cs ≡ bs
late_same n [] [] l d = refl
late_same n [] (b ∷ bs) l d = absurd l
late_same n (c ∷ cs) [] l d = absurd l
late_same n (c ∷ cs) (b ∷ bs) l d = ap (λ (a : Asking). a ∷ cs) (same l.0 (by b.decision refl d.0)) ∙ ap (λ (z : List Asking). b ∷ z) l.1
  where
    by : (o : Option Decision) → b.decision ≡ o → is_some o ≡ true → c.decision ≡ b.decision
    by None e h = absurd cc
    by (Some x) e h = (l.0).kept x e ∙ sym e

    same : IsLate n c b → c.decision ≡ b.decision → c ≡ b
    same k e =
        ap (λ (x : ℕ). record { code = x; number = c.number; more = c.more; first = c.first; repeats = c.repeats; decision = c.decision }) k.code
        ∙ ap (λ (x : ℕ). record { code = b.code; number = x; more = c.more; first = c.first; repeats = c.repeats; decision = c.decision }) k.number
        ∙ ap (λ (x : List FieldValue). record { code = b.code; number = b.number; more = x; first = c.first; repeats = c.repeats; decision = c.decision }) k.more
        ∙ ap (λ (x : ℕ). record { code = b.code; number = b.number; more = b.more; first = x; repeats = c.repeats; decision = c.decision }) k.first
        ∙ ap (λ (x : List ℕ). record { code = b.code; number = b.number; more = b.more; first = b.first; repeats = x; decision = c.decision }) k.repeats
        ∙ ap (λ (x : Option Decision). record { code = b.code; number = b.number; more = b.more; first = b.first; repeats = b.repeats; decision = x }) e

module _ (setup : Setup) (h : AreHeard setup) (log : List LogEntry) (run : IsRun setup log) (steps : ℕ) (r : (course_at setup log).report ≡ Some (reports.Finished steps)) (i : ℕ) (slave : Slave) (e : slice_get setup.slaves i ≡ Some slave) where
  pub cut : Cuts setup log slave (jobs_of setup slave) 0 (in_order setup log slave)
  cut =
      let js = jobs_of setup slave in
      let c = course_at setup log in
      let s = (reported setup (ReadBack slave.id) i slave (listens setup h i slave e) h.runs log run (reports.Finished steps) r).0 in
      let g = with_at (λ u m. GoesByRule setup.limits (jobs_of setup u) c.phase m) c.talks i (talk_with slave (marks_of s.xs)) (going setup h.runs (events_of_master setup log)).goes s.here in
      let w = all_report setup (events_of_master setup log) (reports.Finished steps) r in
      let f = all_at IsFreeToGo c.talks i (talk_with slave (marks_of s.xs)) (all_passed setup h.runs c.phase c.talks w.0 w.1) s.here in
      let z = (finishes setup (events_of_master setup log) steps r).1 in
      let n : length js ≡ phases setup = phases_counted setup.steps setup.runs slave.script h.runs in
      let q = length js - 1 in
      let p = g.phase_is in
      let cnt : count is_begun (marks_of s.xs) ≡ suc q = omega (arith, p, z, n) in
      let last : length js ≡ suc q = omega (arith, n) in
      let j = job_some (marks_of s.xs) q (omega (arith, cnt)) in
      let k = passed_of (marks_of s.xs) j.0 j.1 f.1 in
      let P : List Asking → Type 0 = λ y. Cuts setup log slave js 0 (reverse y) in
      subst P (sym (late_same s.until (asks setup.address slave log) (askings_told s.xs) s.late ((ordered setup.limits js s.xs g.legal).decided f.0)))
      (cut_all setup slave log js s.xs g.legal (s.dated).dates g.rests f.0 k q cnt last)
    where
      passed_of : (marks : List Mark) (job : Job) → job_of marks ≡ Some job → (job_of marks ≡ None) ⊎ (verdict_of marks ≡ verdicts.Passed) → HasPassed marks
      passed_of marks job e (inl f) = let z : None ≡ Some job = sym f ∙ e in absurd cc
      passed_of marks job e (inr v) = verdict_passed marks v
