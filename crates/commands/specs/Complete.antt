-- What a run reports, where the network was honest: a cause that has its reason; and where nothing was lost or late, what the reference gives.
use Rattle.std.specs.Prelude.{◌≡◌, ℕ, ℤ, Option, Some, List, reverse}
use Rattle.dcp_ends.specs.declared.entries.LogEntry.{LogEntry}
use Rattle.slave_desc.specs.declared.descriptions.SlaveDesc.{SlaveDesc}
use Rattle.scenario.specs.declared.scenarios.Scenario.{Scenario}
use Rattle.lockstep.specs.declared.references.RefFault.{RefFault}
use Rattle.lockstep.specs.Lockstep.{IsReference}
use Rattle.log_spec.specs.Oldest.{Honest}
use Rattle.master_spec.specs.declared.causes.Cause.{Cause}
use Rattle.master_spec.specs.declared.reports.Report.{Report}
use Rattle.master_spec.specs.declared.reports.Report.TheVariants as reports
use Rattle.master_spec.specs.Setup.{setup_from}
use Rattle.run_text.specs.Closings.{report_text}
use Rattle.run_laws.specs.Laws.{parties}
use Rattle.completeness_laws.specs.Completes.{ReportsEnd}
use Rattle.completeness_laws.specs.Honest.{IsHonestFailure}
use Rattle.completeness_laws.specs.Timely.{Roomy, Timely}

-- the cause of a failure has its reason in the log; other stands for slaves that are not there
abbrev pub FailsForReason : Scenario → (other : SlaveDesc) → List LogEntry → Report → Type 0
FailsForReason sc other log (reports.Finished steps) = Unit {0}
FailsForReason sc other log (reports.Failed id phase cause) = IsHonestFailure sc other log id phase cause

-- so it is, if each datagram that was got had been sent so not long before
abbrev pub FailsForReasonIfHonest : Scenario → List LogEntry → Report → Type 0
FailsForReasonIfHonest sc log report = (other : SlaveDesc) → Honest (parties sc other) log → FailsForReason sc other log report

-- The report is that the run finished, where the reference has no fault, and else that the slave of this fault failed by it, in the phase of its step; and the text has all rows of the reference, and this report.
pub record GivesReference (sc : Scenario) (rows : List (List ℤ)) (fault : Option RefFault) (report : Report) (text : List ℕ) : Type 0 where
  pub ends : ReportsEnd sc fault (Some report)
  pub text_is : text ≡ report_text rows report

-- so it is for the scenario's reference
abbrev pub GivesItsReference : Scenario → Report → (text : List ℕ) → Type 0
GivesItsReference sc report text = (rows : List (List ℤ)) (fault : Option RefFault) → IsReference sc rows fault → GivesReference sc rows fault report text

-- and that for a scenario that leaves time, if moreover nothing was lost or late
abbrev pub IsCompleteIfTimely : Scenario → List LogEntry → Report → (text : List ℕ) → Type 0
IsCompleteIfTimely sc log report text = (other : SlaveDesc) → Honest (parties sc other) log → Roomy sc → Timely (setup_from sc) (reverse log) → GivesItsReference sc report text
