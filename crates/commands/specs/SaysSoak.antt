-- What `soak` says of the text of a number's scenario.
use Rattle.std.specs.Prelude.{◌≡◌, ℕ, ℤ, List}
use Rattle.master_spec.specs.declared.causes.Cause.{Cause}
use Rattle.master_spec.specs.declared.reports.Report.{Report}
use Rattle.master_spec.specs.declared.reports.Report.TheVariants as reports
use Rattle.master_spec.specs.Course.{course}
use Rattle.master_spec.specs.Setup.{setup_from}
use Rattle.host.specs.Views.{HostView}
use Rattle.soaks.specs.Summaries.{summary}
use Rattle.commands.specs.declared.statuses.Judgement.{Judgement}
use Rattle.commands.specs.declared.statuses.Judgement.TheVariants as judged
use Rattle.commands.specs.Refusals.{OfText}
use Rattle.commands.specs.SaysReference.{SaysReference}
use Rattle.commands.specs.SaysRun.{NetTold, RunsTo, master_events}

-- the rows of the scenario's master after its events in the log
abbrev pub rows_after : HostView → List (List ℤ)
rows_after host = (course (setup_from host.scenario) (master_events host)).rows

-- There is a run of the scenario that the text is, as `run` has it; what it would print and trace is not written. What is written instead is the line of its report and the sum of its rows.
pub record SoaksTo (number : ℕ) (net : NetTold) (input : List ℕ) (report : Report) (text : List ℕ) : Type 0 where
  pub printed : List ℕ
  pub traced : List ℕ
  pub run : RunsTo net input report printed traced
  pub text_is : text ≡ summary number report (rows_after run.host)

-- A run that finished is good. Were the text no scenario, it would be refused as `reference` refuses it.
abbrev pub SaysSoak : (number : ℕ) → NetTold → List ℕ → Judgement → List ℕ → Type 0
SaysSoak number net input judged.Good text = (steps : ℕ) × SoaksTo number net input (reports.Finished steps) text
SaysSoak number net input judged.Failed text = (slave : ℕ) × (phase : ℕ) × (cause : Cause) × SoaksTo number net input (reports.Failed slave phase cause) text
SaysSoak number net input judged.Differs text = ⊥
SaysSoak number net input judged.Refused text = OfText SaysReference input judged.Refused text
