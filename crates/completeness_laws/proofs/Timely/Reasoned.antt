-- A timely run reports what the reference gives.
use Rattle.std.proofs.Common.{◌≡◌, ℕ, Bool, true, false, inl, inr, ◌⊎◌, Option, Some, List, [], reverse, refl, sym, ap, ◌∙◌, ℤ}
use Rattle.std.specs.Prelude.{◌==◌}
use Rattle.std.proofs.lemmas.Bool.{eqb-true, eqb-false}
use Rattle.dcp_ends.specs.Events.{Event}
use Rattle.dcp_ends.specs.declared.entries.LogEntry.{LogEntry}
use Rattle.slave_desc.specs.declared.descriptions.SlaveDesc.{SlaveDesc}
use Rattle.scenario.specs.declared.scenarios.Scenario.{Scenario}
use Rattle.scenario.specs.Sound.{IsScenario}
use Rattle.lockstep.specs.declared.references.RefFault.{RefFault}
use Rattle.lockstep.specs.Lockstep.{IsReference}
use Rattle.master_spec.specs.declared.causes.Cause.{Cause}
use Rattle.master_spec.specs.declared.causes.Cause.TheVariants as causes
use Rattle.master_spec.specs.declared.reports.Report.TheVariants as reports
use Rattle.master_spec.specs.declared.setups.Slave.{Slave}
use Rattle.master_spec.specs.Setup.{setup_from}
use Rattle.master_spec.specs.Course.{course}
use Rattle.master_spec.specs.Exchanged.{IsIn}
use Rattle.master_log_laws.specs.Index.Runs.{course_at}
use Rattle.master_log_laws.proofs.Scenarios.Scenarios.{events_reverse}
use Rattle.run_laws.specs.Laws.{IsRunOf, IsRunInRounds}
use Rattle.run_laws.proofs.Rounded.{rounds_are_runs}
use Rattle.completeness_laws.specs.Reasons.{HeartbeatWasMissed, IsFaultOf}
use Rattle.completeness_laws.specs.Undelivered.{EndedInPhase}
use Rattle.completeness_laws.specs.Completes.{TimelyReportsReference}
use Rattle.completeness_laws.proofs.Causes.Heartbeat.{missed_heartbeats}
use Rattle.completeness_laws.proofs.Causes.Reference.{faults_of_reference}
use Rattle.completeness_laws.proofs.Causes.Refused.{refused_in_error}
use Rattle.completeness_laws.proofs.Causes.Unexpected.{never_unexpected}
use Rattle.completeness_laws.proofs.Delivery.InputsSent.{inputs_were_sent}
use Rattle.completeness_laws.proofs.Delivery.Reported.{reported, phase_reported}
use Rattle.completeness_laws.proofs.Delivery.Stuck.{stuck}
use Rattle.completeness_laws.proofs.Delivery.Unshown.{unshown}
use Rattle.completeness_laws.proofs.Timely.Completing.{reports_it}
use Rattle.completeness_laws.proofs.Timely.Late.{outputs_late, inputs_late}
use Rattle.completeness_laws.proofs.Timely.Reasons.{HasReason}

module _ (sc : Scenario) (other : SlaveDesc) (ok : IsScenario sc) (log : List LogEntry) (r : IsRunInRounds sc other log) where
  run : IsRunOf sc other log
  run = rounds_are_runs sc other ok log r

  -- the moment at which the conversation that is reported ended
  pub ended_then : (id phase : ℕ) (cause : Cause) → (course_at (setup_from sc) (reverse log)).report ≡ Some (reports.Failed id phase cause) → EndedInPhase sc other log id phase cause
  ended_then id phase cause e = reported sc other ok log r.master id phase cause (sym (ap (λ (z : List Event). (course (setup_from sc) z).report) (events_reverse (setup_from sc) log)) ∙ e)

  has_reason : (rows : List (List ℤ)) (fault : Option RefFault) → IsReference sc rows fault → (slave : Slave) → IsIn (setup_from sc) slave → (phase : ℕ) (cause : Cause)
      → (course_at (setup_from sc) (reverse log)).report ≡ Some (reports.Failed slave.id phase cause) → HasReason sc other fault (reverse log) slave phase cause
  has_reason rows fault ref slave i phase (causes.NoAnswer q) e = tt
  has_reason rows fault ref slave i phase (causes.Unexpected q y t) e = never_unexpected sc other ok log run [] (reverse log) refl slave.id phase (causes.Unexpected q y t) e
  has_reason rows fault ref slave i phase (causes.Refused q c) e = (refused_in_error sc other ok log run [] (reverse log) refl slave.id phase (causes.Refused q c) e).missed
  has_reason rows fault ref slave i phase (causes.InputsMissing q k) e =
      λ s. inputs_late sc other (reverse log) slave phase q k s (inputs_were_sent sc other ok log r slave i phase q k (phase_reported (setup_from sc) (reverse log) slave.id phase (causes.InputsMissing q k) e) s)
  has_reason rows fault ref slave i phase (causes.DataMissing k) e =
      let m = ended_then slave.id phase (causes.DataMissing k) e in
      outputs_late sc other log m.later m.sofar m.entry m.split slave.id k (unshown sc other ok log r slave.id m.is k m.later m.sofar m.entry m.split m.ends)
  has_reason rows fault ref slave i phase (causes.Stuck q t) e =
      let m = ended_then slave.id phase (causes.Stuck q t) e in
      stuck sc other ok log r slave.id m.is q t m.later m.sofar m.entry m.split m.ends
  has_reason rows fault ref slave i phase (causes.Faulted q c) e = by (c == 35) refl
    where
      by : (b : Bool) → (c == 35) ≡ b → IsFaultOf sc fault slave.id phase c ⊎ HeartbeatWasMissed sc other slave.id (reverse log)
      by true z = inr (missed_heartbeats sc other ok log run [] (reverse log) refl slave.id phase (causes.Faulted q c) e (eqb-true c 35 z))
      by false z = inl (faults_of_reference sc other ok log run [] (reverse log) refl slave.id phase (causes.Faulted q c) e (eqb-false c 35 z) rows fault ref)

pub completes : TimelyReportsReference
completes sc other ok roomy rows fault ref log r t =
    reports_it sc other ok roomy rows fault ref log r t (λ slave i phase cause e. has_reason sc other ok log r rows fault ref slave i phase cause e)
