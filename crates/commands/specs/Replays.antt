-- What there is of a replay before anything is written.
use Rattle.std.specs.Prelude.{◌≡◌, ℕ, List, Option, reverse}
use Rattle.dcp_ends.specs.Logs.{events_at}
use Rattle.dcp_ends.specs.declared.entries.LogEntry.{LogEntry}
use Rattle.dcp_io.specs.declared.outputs.Delivery.{Delivery}
use Rattle.dcp_io.specs.Outputs.{Delivers}
use Rattle.dcp_record.specs.Words.{trace_word}
use Rattle.dcp_record.specs.declared.faults.TraceWhy.TheVariants.{Header}
use Rattle.scenario.specs.declared.scenarios.Scenario.{Scenario}
use Rattle.scenario.specs.Sound.{IsScenario}
use Rattle.host.specs.declared.hosted.Hosted.{Hosted}
use Rattle.host.specs.Hosting.{master_of, slaves_of}
use Rattle.master_spec.specs.declared.reports.Report.{Report}
use Rattle.master_spec.specs.Setup.{setup_from}
use Rattle.run_text.specs.Runs.{text_after}
use Rattle.replays.specs.declared.faults.ReplayFault.{ReplayFault}
use Rattle.replays.specs.declared.faults.ReplayFault.TheVariants.{Differs, Unended, OutOfMemory}
use Rattle.replays.specs.declared.replays.Replayed as replays
use Rattle.replays.specs.Differences.{IsEnded}
use Rattle.replays.specs.Expected.{AreRight}
use Rattle.replays.specs.Replays.{IsReplayed}
use Rattle.commands.specs.declared.answers.CommandAnswer.{CommandAnswer}
use Rattle.commands.specs.declared.answers.CommandAnswer.TheVariants as answers
use Rattle.commands.specs.declared.said.Statement.{Statement}
use Rattle.commands.specs.declared.says.traces.Opened.{Opened}
use Rattle.commands.specs.declared.says.traces.Opened.TheVariants.{Trace, Refused}
use Rattle.commands.specs.declared.statuses.Judgement.TheVariants as judged
use Rattle.commands.specs.declared.statuses.Status.{Status}
use Rattle.commands.specs.Refusals.{Refuses, byte_refusal}
use Rattle.commands.specs.Said.{text_of}
use Rattle.commands.specs.SaysReplay.{IsTraceOf, RefusesTrace, SaysReplay, differs_line, unended_line}
use Rattle.commands.specs.Statuses.{judgement_of_report, status_after}

-- the header is refused at this place
abbrev pub RefusesHeader : (at : ℕ) → Opened → Type 0
RefusesHeader at (Trace scenario hosted entries) = ⊥
RefusesHeader at (Refused said) = Refuses (byte_refusal at (trace_word Header)) said

-- what the bytes are the trace of, or how they are refused
abbrev pub IsOpened : (input : List ℕ) → Opened → Type 0
IsOpened input (Trace scenario hosted entries) = IsScenario scenario × IsTraceOf input scenario hosted entries
IsOpened input (Refused said) = (said.judgement ≡ judged.Refused) × RefusesTrace input (text_of said.text)

-- the line of a trace that does not go through; want of memory has none
abbrev pub SaysStop : ReplayFault → Statement → Type 0
SaysStop (Differs at) said = (said.judgement ≡ judged.Differs) × (text_of said.text ≡ differs_line at)
SaysStop (Unended entries) said = (said.judgement ≡ judged.Differs) × (text_of said.text ≡ unended_line entries)
SaysStop OutOfMemory said = ⊥

-- the trace of a scenario goes through, to this master with its report
pub record GoesThrough (input : List ℕ) (scenario : Scenario) (replayed : replays.Replayed) : Type 0 where
  pub hosted : Hosted
  pub entries : List LogEntry
  pub trace : IsTraceOf input scenario hosted entries
  pub right : AreRight (master_of scenario hosted) (slaves_of scenario hosted) entries
  pub ended : IsEnded (master_of scenario hosted) (slaves_of scenario hosted) entries
  pub stands : IsReplayed scenario entries replayed

abbrev pub GivesReplay : (input : List ℕ) → CommandAnswer → Type 0
GivesReplay input (answers.Said said) = SaysReplay input said.judgement (text_of said.text)
GivesReplay input (answers.Ran host) = ⊥
GivesReplay input (answers.Soaked number host) = ⊥
GivesReplay input (answers.Replayed scenario replayed) = IsScenario scenario × GoesThrough input scenario replayed

-- the status follows from a report and its delivery
abbrev pub FollowsReport : Report → Status → Type 0
FollowsReport report status = (delivery : Delivery) × (status ≡ status_after (judgement_of_report report) delivery)

-- the rows and the report were delivered, and the status follows
pub record ReplayDelivered (held holds : Option (List ℕ)) (before now : ℕ) (scenario : Scenario) (entries : List LogEntry) (replayed : replays.Replayed) (status : Status) : Type 0 where
  pub delivery : Delivery
  pub delivered : Delivers held holds before now (text_after (setup_from scenario) (reverse (events_at scenario.master entries)) replayed.report) delivery
  pub status_is : status ≡ status_after (judgement_of_report replayed.report) delivery
