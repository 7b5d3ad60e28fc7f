-- Every cause that is reported has its reason.
use Rattle.std.proofs.Common.{◌≡◌, ℕ, Some, List, [], reverse, refl}
use Rattle.dcp_ends.specs.declared.entries.LogEntry.{LogEntry}
use Rattle.slave_desc.specs.declared.descriptions.SlaveDesc.{SlaveDesc}
use Rattle.scenario.specs.declared.scenarios.Scenario.{Scenario}
use Rattle.scenario.specs.Sound.{IsScenario}
use Rattle.master_spec.specs.declared.causes.Cause.{Cause}
use Rattle.master_spec.specs.declared.causes.Cause.TheVariants as causes
use Rattle.master_spec.specs.declared.reports.Report.TheVariants as reports
use Rattle.master_spec.specs.Setup.{setup_from}
use Rattle.master_log_laws.specs.Index.Runs.{course_at}
use Rattle.master_log_laws.proofs.Index.ByEntry.{entry_by_entry}
use Rattle.master_log_laws.proofs.Failures.First.{failed_is_first}
use Rattle.master_log_laws.proofs.Scenarios.Heard.{setups_heard}
use Rattle.run_laws.specs.Laws.{IsRunOf, IsRunInRounds}
use Rattle.run_laws.proofs.Rounded.{rounds_are_runs}
use Rattle.completeness_laws.specs.Honest.{AreInputsMissing, HasHonestReason, CausesAreHonest}
use Rattle.completeness_laws.specs.Undelivered.{EndedInPhase}
use Rattle.completeness_laws.proofs.Causes.Heartbeat.{missed_heartbeats}
use Rattle.completeness_laws.proofs.Causes.Reference.{faults_of_reference}
use Rattle.completeness_laws.proofs.Causes.Refused.{refused_in_error}
use Rattle.completeness_laws.proofs.Causes.Unexpected.{never_unexpected}
use Rattle.completeness_laws.proofs.Delivery.InputsSent.{inputs_were_sent}
use Rattle.completeness_laws.proofs.Delivery.Reported.{phase_reported}
use Rattle.completeness_laws.proofs.Delivery.Stuck.{stuck}
use Rattle.completeness_laws.proofs.Delivery.Unanswered.{unanswered}
use Rattle.completeness_laws.proofs.Delivery.Unshown.{unshown}
use Rattle.completeness_laws.proofs.Timely.Reasoned.{ended_then}

module _ (sc : Scenario) (other : SlaveDesc) (ok : IsScenario sc) (log : List LogEntry) (r : IsRunInRounds sc other log) where
  run : IsRunOf sc other log
  run = rounds_are_runs sc other ok log r

  -- where it is for want of inputs, the log shows the refusals
  inputs_missing : (id phase q k : ℕ) → (course_at (setup_from sc) (reverse log)).report ≡ Some (reports.Failed id phase (causes.InputsMissing q k)) → AreInputsMissing sc other (reverse log) id phase q k
  inputs_missing id phase q k e =
      let w = failed_is_first (setup_from sc) (setups_heard sc ok) (reverse log) (entry_by_entry sc log r.master) id phase (causes.InputsMissing q k) e in
      let f = (w.1).1 in
      record {
        slave = w.0;
        is_in = f.is_in;
        id_is = (w.1).0;
        shown = f.shown;
        sent = inputs_were_sent sc other ok log r w.0 f.is_in phase q k (phase_reported (setup_from sc) (reverse log) id phase (causes.InputsMissing q k) e) f.shown;
      }

  honest_reason : (id phase : ℕ) (cause : Cause) → (course_at (setup_from sc) (reverse log)).report ≡ Some (reports.Failed id phase cause) → (m : EndedInPhase sc other log id phase cause) → HasHonestReason sc other (reverse log) m.sofar m.entry id phase cause
  honest_reason id phase (causes.Unexpected q y t) e m = never_unexpected sc other ok log run [] (reverse log) refl id phase (causes.Unexpected q y t) e
  honest_reason id phase (causes.NoAnswer q) e m = unanswered sc other ok log r id m.is q m.later m.sofar m.entry m.split m.ends
  honest_reason id phase (causes.Refused q c) e m = refused_in_error sc other ok log run [] (reverse log) refl id phase (causes.Refused q c) e
  honest_reason id phase (causes.InputsMissing q k) e m = inputs_missing id phase q k e
  honest_reason id phase (causes.DataMissing k) e m = unshown sc other ok log r id m.is k m.later m.sofar m.entry m.split m.ends
  honest_reason id phase (causes.Stuck q t) e m = stuck sc other ok log r id m.is q t m.later m.sofar m.entry m.split m.ends
  honest_reason id phase (causes.Faulted q c) e m =
      (missed_heartbeats sc other ok log run [] (reverse log) refl id phase (causes.Faulted q c) e, faults_of_reference sc other ok log run [] (reverse log) refl id phase (causes.Faulted q c) e)

pub causes_honest : CausesAreHonest
causes_honest sc other ok log r id phase cause e = let m = ended_then sc other ok log r id phase cause e in record { ended = m; reason = honest_reason sc other ok log r id phase cause e m }
