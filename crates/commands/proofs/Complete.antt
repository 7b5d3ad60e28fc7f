-- A run of all ends over an honest network reports a failure for a reason, and what the reference gives where nothing is lost or late.
use Rattle.std.proofs.Common.{◌≡◌, ℕ, suc, Some, None, List, [], ◌∷◌, refl, sym, ap, ◌∙◌, subst, Option, reverse, arith, length, ◌≤◌}
use Rattle.std.specs.Prelude.{ℤ, IfSome, MatchOption}
use Rattle.dcp_ends.specs.declared.entries.LogEntry.{LogEntry}
use Rattle.slave_desc.specs.declared.descriptions.SlaveDesc.{SlaveDesc}
use Rattle.scenario.specs.declared.scenarios.Scenario.{Scenario}
use Rattle.lockstep.specs.declared.references.RefFault.{RefFault}
use Rattle.lockstep.specs.Lockstep.{IsReference}
use Rattle.master_spec.specs.declared.reports.Report.{Report}
use Rattle.master_spec.specs.declared.reports.Report.TheVariants as reports
use Rattle.run_text.specs.Closings.{report_text}
use Rattle.host.specs.Views.{HostView}
use Rattle.completeness_laws.specs.Completes.{ReportsEnd}
use Rattle.completeness_laws.proofs.Honest.{causes_honest}
use Rattle.completeness_laws.proofs.Timely.Reasoned.{completes}
use Rattle.commands.specs.Complete.{FailsForReasonIfHonest, IsCompleteIfTimely}
use Rattle.commands.specs.SaysRun.{report_after, run_text}
use Rattle.commands.proofs.InStep.{HasRounds, is_run, report_is, text_is}

pub fails_for_reason : (host : HostView) → HasRounds host → (report : Report) → report_after host ≡ Some report → FailsForReasonIfHonest host.scenario host.log report
fails_for_reason host has (reports.Finished steps) reported other honest = tt
fails_for_reason host has (reports.Failed id phase cause) reported other honest =
    causes_honest host.scenario other has.sound host.log (is_run host has other honest) id phase cause (report_is host (reports.Failed id phase cause) reported)

pub complete_if_timely : (host : HostView) → HasRounds host → (report : Report) → report_after host ≡ Some report → IsCompleteIfTimely host.scenario host.log report (run_text host report)
complete_if_timely host has report reported other honest roomy timely rows fault reference =
    let whole = completes host.scenario other has.sound roomy rows fault reference host.log (is_run host has other honest) timely in
    let Ends : Option Report → Type 0 = ReportsEnd host.scenario fault in
    record {
      ends = subst Ends (report_is host report reported) whole.ends;
      text_is = text_is host report reported ∙ ap (λ (printed : List (List ℤ)). report_text printed report) whole.whole;
    }
