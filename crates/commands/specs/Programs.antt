-- How the program ends over a reader and two writers.
use Rattle.std.specs.Prelude.{◌≡◌, ℕ, List, [], ◌++◌, reverse, Option, Some, MatchOption}
use Rattle.std.specs.Io.KnownBytes.{Appends}
use Rattle.dcp_io.specs.declared.outputs.Delivery.TheVariants.{Whole}
use Rattle.dcp_ends.specs.declared.entries.LogEntry.{LogEntry}
use Rattle.slave_desc.specs.declared.descriptions.SlaveDesc.{SlaveDesc}
use Rattle.master_spec.specs.declared.reports.Report.{Report}
use Rattle.master_spec.specs.Setup.{setup_from}
use Rattle.net_world.specs.Calls.{AllRecent, GivesDue}
use Rattle.soaks.specs.Summaries.{first_line, sum_text}
use Rattle.soaks.specs.Sums.{whole_sum}
use Rattle.soaks.specs.Texts.{soak_text}
use Rattle.commands.specs.declared.statuses.Status.{Status}
use Rattle.commands.specs.Changes.{RunChange, NetChange}
use Rattle.commands.specs.Complete.{FailsForReason, GivesItsReference}
use Rattle.commands.specs.InStep.{KeepsInStep, SumsInStep}
use Rattle.commands.specs.Inputs.{TakesInput}
use Rattle.commands.specs.Limits.{input_limit}
use Rattle.commands.specs.Outcomes.{Outcome}
use Rattle.commands.specs.SaysRun.{NetTold, RunsTo}
use Rattle.commands.specs.SaysSoak.{SoaksTo, rows_after}
use Rattle.commands.specs.Statuses.{judgement_of_report, status_after, status_code}
use Rattle.completeness_laws.specs.Timely.{Roomy, Timely}
use Rattle.completeness_laws.specs.Quiet.{IsQuietPlan}
use Rattle.completeness_laws.specs.Rounded.{IsPatient}

-- an object that has had no fault before
abbrev pub change_of : Option (List ℕ) → Option (List ℕ) → ℕ → RunChange
change_of was is faults = record { was = was; is = is; before = 0; now = faults }

-- a network of which no call fails
abbrev pub sure_change : NetTold → NetChange
sure_change told = record { told = told; before = 0; now = 0 }

-- What a network in memory tells: no call before it is opened, and then calls of which each take gave what was due by the plan that it was opened with. What was got had been sent so not long before.
pub record ToldInMemory (net : NetTold) : Type 0 where
  pub calls : List LogEntry
  pub told : net.calls ≡ Some calls
  pub due : MatchOption net.opening (calls ≡ []) (λ opening. GivesDue opening [] calls)
  pub recent : AllRecent [] calls

-- the exit status is that of an outcome of the words, over a source and two sinks that have had no fault before, and a network in memory
abbrev pub ExitsWith : List (List ℕ) → (left rest held holds kept keeps : Option (List ℕ)) → ℕ → Type 0
ExitsWith words left rest held holds kept keeps code =
    (status : Status) × (read_faults : ℕ) × (write_faults : ℕ) × (trace_faults : ℕ) × (told : NetTold)
    × (code ≡ status_code status) × Outcome words (change_of left rest read_faults) (change_of held holds write_faults) (change_of kept keeps trace_faults) (sure_change told) status
    × ToldInMemory told

-- The input that was taken is a scenario, of which there is a run over a network in memory. Its text was written to the one writer and its trace to the other, and the status is that of its report. It keeps to the lockstep of the scenario's reference, and prints the rows of that. The cause of a failure has its reason. Where the scenario leaves time and nothing was lost or late, the text is what the reference gives; so it is where its plan does nothing to the messages and its master is patient.
pub record RunsInStep (left rest held holds kept keeps : Option (List ℕ)) (code : ℕ) : Type 0 where
  pub input : List ℕ
  pub net : NetTold
  pub report : Report
  pub text : List ℕ
  pub trace : List ℕ
  pub taken : TakesInput input_limit left rest input
  pub memory : ToldInMemory net
  pub run : RunsTo net input report text trace
  pub printed : Appends held holds text
  pub traced : Appends kept keeps trace
  pub status : code ≡ status_code (status_after (judgement_of_report report) Whole)
  pub in_step : (other : SlaveDesc) → KeepsInStep run.host.scenario other run.host.log report text
  pub reasons : (other : SlaveDesc) → FailsForReason run.host.scenario other run.host.log report
  pub complete : Roomy run.host.scenario → Timely (setup_from run.host.scenario) (reverse run.host.log) → GivesItsReference run.host.scenario report text
  pub quiet : IsQuietPlan run.host.scenario.net → IsPatient run.host.scenario.limits → Roomy run.host.scenario → GivesItsReference run.host.scenario report text

-- There is a run of the scenario of this number over a network in memory. The reader and the writer of the trace are as they were, the line of its report and the sum of its rows were written to the other writer, and the status is that of its report. It keeps to the lockstep of the scenario's reference, whose rows it sums, and the sum that is written is the whole number that it is.
pub record SoaksInStep (number : ℕ) (left rest held holds kept keeps : Option (List ℕ)) (code : ℕ) : Type 0 where
  pub net : NetTold
  pub report : Report
  pub text : List ℕ
  pub unread : rest ≡ left
  pub memory : ToldInMemory net
  pub soak : SoaksTo number net (soak_text number) report text
  pub printed : Appends held holds text
  pub untraced : keeps ≡ kept
  pub status : code ≡ status_code (status_after (judgement_of_report report) Whole)
  pub in_step : (other : SlaveDesc) → SumsInStep soak.run.host.scenario other soak.run.host.log report (rows_after soak.run.host)
  pub exact : text ≡ first_line number report ++ sum_text (whole_sum (rows_after soak.run.host))
