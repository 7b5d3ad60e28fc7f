-- What the report of a host of all ends says, where its network was honest and no fault stopped it.
use Rattle.std.specs.Prelude.{◌≡◌, ℕ, ℤ, Option, None, Some, List, reverse}
use Rattle.log_spec.specs.Oldest.{Honest}
use Rattle.slave_desc.specs.declared.descriptions.SlaveDesc.{SlaveDesc}
use Rattle.lockstep.specs.declared.references.RefFault.{RefFault}
use Rattle.lockstep.specs.Lockstep.{IsReference}
use Rattle.master_spec.specs.declared.causes.Cause.{Cause}
use Rattle.master_spec.specs.declared.reports.Report.TheVariants.{Failed}
use Rattle.master_spec.specs.Setup.{setup_from}
use Rattle.run_laws.specs.Laws.{parties}
use Rattle.completeness_laws.specs.Completes.{ReportsReference}
use Rattle.completeness_laws.specs.Honest.{IsHonestFailure}
use Rattle.completeness_laws.specs.Timely.{Roomy, Timely}
use Rattle.host.specs.Views.{HostView, report_in}

-- The cause of a failure has its reason in the log. What stands for slaves that are not there does not matter.
abbrev pub HostFailsForReason : HostView → Type 0
HostFailsForReason host = host.fault ≡ None → (other : SlaveDesc) → Honest (parties host.scenario other) host.log → (id phase : ℕ) (cause : Cause) → report_in host ≡ Some (Failed id phase cause) → IsHonestFailure host.scenario other host.log id phase cause

-- Where the scenario leaves time, and nothing was lost or late, the report and the rows are what the reference gives.
abbrev pub HostIsComplete : HostView → Type 0
HostIsComplete host = host.fault ≡ None → (other : SlaveDesc) → Honest (parties host.scenario other) host.log → Roomy host.scenario → Timely (setup_from host.scenario) (reverse host.log)
    → (rows : List (List ℤ)) (fault : Option RefFault) → IsReference host.scenario rows fault → ReportsReference host.scenario rows fault host.log
