-- The exit status of each answer, which answer follows a judgement and its delivery, and when it comes.
use Rattle.std.specs.Prelude.{ℕ}
use Rattle.commands.specs.declared.statuses.Status.{Status}
use Rattle.commands.specs.declared.statuses.Status.TheVariants.{Done, Usage, BadInput, RunFailed, ReadFault, WriteFault, NetFault, OutOfMemory, Differs}
use Rattle.commands.specs.declared.statuses.Judgement.{Judgement}
use Rattle.commands.specs.declared.statuses.Judgement.TheVariants.{Good, Failed, Refused}
use Rattle.commands.specs.declared.statuses.Judgement.TheVariants as judged
use Rattle.master_spec.specs.declared.reports.Report.{Report}
use Rattle.master_spec.specs.declared.reports.Report.TheVariants.{Finished}
use Rattle.master_spec.specs.declared.reports.Report.TheVariants as reports
use Rattle.dcp_io.specs.declared.outputs.Delivery.{Delivery}
use Rattle.dcp_io.specs.declared.outputs.Delivery.TheVariants.{Whole, Cut}

abbrev pub status_code : Status → ℕ
status_code Done = 0
status_code Usage = 1
status_code BadInput = 2
status_code RunFailed = 3
status_code ReadFault = 4
status_code WriteFault = 5
status_code NetFault = 6
status_code OutOfMemory = 7
status_code Differs = 8

-- a refusal stays one where its line could not be written
-- a run that finished is good
abbrev pub judgement_of_report : Report → Judgement
judgement_of_report (Finished steps) = Good
judgement_of_report (reports.Failed slave phase cause) = Failed

abbrev pub status_after : Judgement → Delivery → Status
status_after Good Whole = Done
status_after Good Cut = WriteFault
status_after Failed Whole = RunFailed
status_after Failed Cut = WriteFault
status_after judged.Differs Whole = Differs
status_after judged.Differs Cut = WriteFault
status_after Refused Whole = BadInput
status_after Refused Cut = BadInput

-- the answers that come before anything is written
abbrev pub ComesBeforeWriting : Status → Type 0
ComesBeforeWriting ReadFault = Unit {0}
ComesBeforeWriting NetFault = Unit {0}
ComesBeforeWriting OutOfMemory = Unit {0}
ComesBeforeWriting _ = ⊥

-- the answers for which the network is not called
abbrev pub ComesWithoutNet : Status → Type 0
ComesWithoutNet Usage = Unit {0}
ComesWithoutNet BadInput = Unit {0}
ComesWithoutNet ReadFault = Unit {0}
ComesWithoutNet _ = ⊥
