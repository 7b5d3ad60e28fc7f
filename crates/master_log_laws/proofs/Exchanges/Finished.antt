-- A finished run has all requests of its spines acknowledged.
use Rattle.std.proofs.Common.{◌≡◌, ℕ, ◌+◌, ◌-◌, ◌⊎◌, inl, inr, Bool, true, Option, Some, None, List, [], ◌∷◌, length, refl, sym, ap, ◌∙◌, arith, length-append}
use Rattle.std.specs.Prelude.{◌&&◌, ◌||◌, is_some, nat_le, slice_get}
use Rattle.std.specs.List.{flat_map}
use Rattle.dcp_ends.specs.declared.entries.LogEntry.{LogEntry}
use Rattle.master_spec.proofs.Phases.{phases_counted}
use Rattle.master_spec.specs.declared.causes.Verdict.TheVariants as verdicts
use Rattle.master_spec.specs.declared.reports.Report.TheVariants as reports
use Rattle.master_spec.specs.declared.setups.Slave.{Slave}
use Rattle.master_spec.specs.declared.setups.Setup.{Setup}
use Rattle.master_spec.specs.Setup.{jobs_of}
use Rattle.master_spec.specs.Jobs.{Job, asked_by, spine}
use Rattle.master_spec.specs.Marks.{Mark, count, is_begun, job_of, verdict_of}
use Rattle.master_spec.specs.Course.{phases}
use Rattle.master_spec.specs.Requests.{Asking, Decision, asks, is_main, is_acked, is_acked_by, acked}
use Rattle.master_log_laws.specs.Asking.Legal.{GoesByRule}
use Rattle.master_log_laws.proofs.Asking.Legal.{IsFreeToGo, all_passed, going}
use Rattle.master_log_laws.specs.Index.Runs.{events_of_master, course_at, IsRun}
use Rattle.master_log_laws.specs.Index.Index.{marks_of, askings_told, ReadBack}
use Rattle.master_log_laws.specs.Index.Follows.{talk_with}
use Rattle.master_log_laws.specs.Index.Late.{AreLate}
use Rattle.master_log_laws.specs.Index.Laws.{AreHeard}
use Rattle.master_log_laws.proofs.Index.Late.{all_report}
use Rattle.master_log_laws.proofs.Index.Laws.{listens}
use Rattle.master_log_laws.proofs.Index.Reported.{reported}
use Rattle.master_log_laws.proofs.Index.Runs.{all_at, with_at}
use Rattle.master_log_laws.specs.Phases.Laws.{AreDecided}
use Rattle.master_log_laws.proofs.Phases.Now.{now, past, split}
use Rattle.master_log_laws.proofs.Phases.Mains.{acked_more, acked_append, one_if}
use Rattle.master_log_laws.proofs.Phases.Numbered.{ordered}
use Rattle.master_log_laws.proofs.Phases.Stages.{stage}
use Rattle.master_log_laws.proofs.Phases.Tags.{offset, offset_next, job_phase, job_some, HasPassed, verdict_passed, passed_done, base}
use Rattle.master_log_laws.specs.Exchanges.Laws.{FinishedIsAcknowledged}
use Rattle.master_log_laws.proofs.Exchanges.Finishing.{finishes}

-- ---- the whole spine
whole_offset : (js : List Job) → offset js (length js) ≡ length (spine js)
whole_offset [] = refl
whole_offset (job ∷ js) = let h = whole_offset js in let e = length-append (asked_by job) (flat_map asked_by js) in omega (arith, h, e)

-- what is decided stays as it is
late_acked : (n : ℕ) (cs bs : List Asking) → AreLate n cs bs → AreDecided bs → acked cs ≡ acked bs
late_acked n [] [] l d = refl
late_acked n [] (b ∷ bs) l d = absurd l
late_acked n (c ∷ cs) [] l d = absurd l
late_acked n (c ∷ cs) (b ∷ bs) l d =
    let x = acked_more c cs in
    let y = acked_more b bs in
    let k : (is_main c && is_acked c) ≡ (is_main b && is_acked b) =
    ap (λ (m : ℕ). ((nat_le 1 m && nat_le m 10) || (nat_le 32 m && nat_le m 43)) && is_acked c) (l.0).code ∙ ap (λ (t : Bool). is_main b && t) (ap (λ (o : Option Decision). is_acked_by o) (by b.decision refl d.0)) in
    x ∙ ap (λ (t : Bool). one_if t + acked cs) k ∙ ap (λ (z : List Asking). one_if (is_main b && is_acked b) + acked z) l.1 ∙ sym y
  where
    by : (o : Option Decision) → b.decision ≡ o → is_some o ≡ true → c.decision ≡ b.decision
    by None e h = absurd cc
    by (Some d) e h = (l.0).kept d e ∙ sym e

module _ (setup : Setup) (h : AreHeard setup) (log : List LogEntry) (run : IsRun setup log) (steps : ℕ) (r : (course_at setup log).report ≡ Some (reports.Finished steps)) (i : ℕ) (slave : Slave) (e : slice_get setup.slaves i ≡ Some slave) where
  acknowledged : acked (asks setup.address slave log) ≡ length (spine (jobs_of setup slave))
  acknowledged =
      let js = jobs_of setup slave in
      let c = course_at setup log in
      let s = (reported setup (ReadBack slave.id) i slave (listens setup h i slave e) h.runs log run (reports.Finished steps) r).0 in
      let g = with_at (λ u m. GoesByRule setup.limits (jobs_of setup u) c.phase m) c.talks i (talk_with slave (marks_of s.xs)) (going setup h.runs (events_of_master setup log)).goes s.here in
      let w = all_report setup (events_of_master setup log) (reports.Finished steps) r in
      let f = all_at IsFreeToGo c.talks i (talk_with slave (marks_of s.xs)) (all_passed setup h.runs c.phase c.talks w.0 w.1) s.here in
      let z = (finishes setup (events_of_master setup log) steps r).1 in
      let n : length js ≡ phases setup = phases_counted setup.steps setup.runs slave.script h.runs in
      let q = length js - 1 in
      let p = g.phase_is in
      let cnt : count is_begun (marks_of s.xs) ≡ q + 1 = omega (arith, p, z, n) in
      let j = job_some (marks_of s.xs) q cnt in
      let k = passed_of (marks_of s.xs) j.0 j.1 f.1 in
      let here = job_phase setup.limits js (marks_of s.xs) g.legal k.job k.job_is q cnt in
      let full = passed_done setup.limits js k.job s.xs g.legal (stage setup.limits js s.xs g.legal g.rests k.cause_is k.job k.job_is) k.passed f.0 in
      let before = base setup.limits js s.xs g.legal q cnt in
      let parts = ap acked (split setup.limits js s.xs g.legal) ∙ acked_append (now s.xs) (askings_told (past s.xs)) in
      let next = offset_next js q k.job here in
      let last : q + 1 ≡ length js = omega (arith, n) in
      let all : acked (askings_told s.xs) ≡ offset js (q + 1) = omega (arith, full, before, parts, next) in
      late_acked s.until (asks setup.address slave log) (askings_told s.xs) s.late ((ordered setup.limits js s.xs g.legal).decided f.0) ∙ all ∙ ap (offset js) last ∙ whole_offset js
    where
      passed_of : (marks : List Mark) (job : Job) → job_of marks ≡ Some job → (job_of marks ≡ None) ⊎ (verdict_of marks ≡ verdicts.Passed) → HasPassed marks
      passed_of marks job e (inl f) = let z : None ≡ Some job = sym f ∙ e in absurd cc
      passed_of marks job e (inr v) = verdict_passed marks v

pub finished_is_acknowledged : FinishedIsAcknowledged
finished_is_acknowledged setup h log run steps r =
    record { steps_are = (finishes setup (events_of_master setup log) steps r).0; acknowledged = λ i slave e. acknowledged setup h log run steps r i slave e }
