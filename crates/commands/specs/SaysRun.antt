-- What `run` says of a text.
use Rattle.std.specs.Prelude.{◌≡◌, ℕ, ◌≤◌, List, [], length, reverse, Option, Some, IfSome, All}
use Rattle.dcp_io.specs.Faults.{Rose}
use Rattle.dcp_ends.specs.Events.{Event}
use Rattle.dcp_ends.specs.Logs.{events_at}
use Rattle.dcp_ends.specs.declared.entries.LogEntry.{LogEntry}
use Rattle.dcp_net.specs.declared.openings.Opening.{Opening}
use Rattle.dcp_record.specs.Traces.{trace_bytes}
use Rattle.scenario.specs.declared.scenarios.Scenario.{Scenario}
use Rattle.scenario.specs.Sound.{IsScenario}
use Rattle.scenario_text.specs.Reads.{ReadsAsScenario}
use Rattle.master_spec.specs.declared.causes.Cause.{Cause}
use Rattle.master_spec.specs.declared.reports.Report.{Report}
use Rattle.master_spec.specs.declared.reports.Report.TheVariants as reports
use Rattle.master_spec.specs.declared.setups.Slave.{Slave}
use Rattle.master_spec.specs.Exchanged.{AllExchanged}
use Rattle.master_spec.specs.Shown.{First}
use Rattle.master_spec.specs.Course.{course}
use Rattle.master_spec.specs.Setup.{setup_from}
use Rattle.master_log_laws.specs.Exchanges.Laws.{IsFinished}
use Rattle.run_text.specs.Runs.{all_bits, text_after}
use Rattle.rounds.specs.Told.{Follows}
use Rattle.host.specs.Hosting.{all_ends, opening_of}
use Rattle.host.specs.Views.{HostView, Tells, master_in, slaves_in}
use Rattle.host.specs.Runs.{IsWhole}
use Rattle.commands.specs.declared.answers.Unsaid.{Unsaid}
use Rattle.commands.specs.declared.answers.Unsaid.TheVariants.{NetFault, OutOfMemory}
use Rattle.commands.specs.declared.statuses.Judgement.{Judgement}
use Rattle.commands.specs.declared.statuses.Judgement.TheVariants as judged
use Rattle.commands.specs.Complete.{FailsForReasonIfHonest, IsCompleteIfTimely}
use Rattle.commands.specs.InStep.{IsInStepIfHonest}
use Rattle.commands.specs.Limits.{input_limit}
use Rattle.commands.specs.Refusals.{OfText}
use Rattle.commands.specs.SaysReference.{SaysReference}

-- what a network tells after a call, where it tells it: the sends and takes since it was opened, and what it was opened with
pub record NetTold : Type 0 where
  pub calls : Option (List LogEntry)
  pub opening : Option Opening

-- The host of all ends of a scenario has run whole rounds to the master's report. Where the network tells them, it was opened for these ends with the scenario's plan, and its calls are the host's log without its turns.
pub record IsNetRun (net : NetTold) (host : HostView) : Type 0 where
  pub hosted : host.hosted ≡ all_ends
  pub whole : IsWhole host
  pub opened : IfSome net.opening (λ opening. opening ≡ opening_of host.scenario all_ends)
  pub told : Tells net.calls host.log

-- the run of the scenario that this text is
pub record HasEnded (net : NetTold) (input : List ℕ) (host : HostView) : Type 0 where
  pub short : length input ≤ input_limit
  pub reads : ReadsAsScenario input host.scenario
  pub run : IsNetRun net host

-- what happened to the master of a run, the newest first
abbrev pub master_events : HostView → List Event
master_events host = reverse (events_at host.scenario.master host.log)

-- the report of the scenario's master after its events in the log
abbrev pub report_after : HostView → Option Report
report_after host = (course (setup_from host.scenario) (master_events host)).report

-- the rows of the scenario's master after its events in the log, and the line of this report
abbrev pub run_text : HostView → Report → List ℕ
run_text host report = text_after (setup_from host.scenario) (master_events host) report

-- the trace of all ends, the input and the log
abbrev pub run_trace : (input : List ℕ) → HostView → List ℕ
run_trace input host = trace_bytes (all_bits (length host.scenario.slaves)) input host.log

-- What the log of a run shows of its end. Where it finished, it had all steps of the scenario, each slave acknowledged as many requests as its spine has, and every step was exchanged whole with every slave, run by run. Where a slave failed, the log shows that it ended so, and nothing of the kind of any lesser slave.
abbrev pub ShowsEnd : Scenario → List LogEntry → Report → Type 0
ShowsEnd sc log (reports.Finished steps) = IsFinished (setup_from sc) (reverse log) steps × AllExchanged (setup_from sc) (reverse log)
ShowsEnd sc log (reports.Failed id phase cause) = (slave : Slave) × ((slave.id ≡ id) × First (setup_from sc) (reverse log) slave phase cause)

-- There is a run of the scenario that the text is, which is a sound one, in whose log each end follows its rules, and after which its master has this report, which the log shows. The text is its rows and the report, and the trace is that of the run. Over an honest network it keeps to the lockstep of the scenario's reference, the cause of a failure has its reason, and where nothing was lost or late, the text is what the reference gives.
pub record RunsTo (net : NetTold) (input : List ℕ) (report : Report) (text trace : List ℕ) : Type 0 where
  pub host : HostView
  pub ended : HasEnded net input host
  pub sound : IsScenario host.scenario
  pub master : IfSome (master_in host) (λ rules. Follows rules host.log)
  pub slaves : All (λ rules. Follows rules host.log) (slaves_in host)
  pub reported : report_after host ≡ Some report
  pub shows : ShowsEnd host.scenario host.log report
  pub text_is : text ≡ run_text host report
  pub trace_is : trace ≡ run_trace input host
  pub in_step : IsInStepIfHonest host.scenario host.log report text
  pub reasons : FailsForReasonIfHonest host.scenario host.log report
  pub complete : IsCompleteIfTimely host.scenario host.log report text

-- a run that finished is good; a text that is no scenario is refused as `reference` refuses it
abbrev pub SaysRun : NetTold → List ℕ → Judgement → (text trace : List ℕ) → Type 0
SaysRun net input judged.Good text trace = (steps : ℕ) × RunsTo net input (reports.Finished steps) text trace
SaysRun net input judged.Failed text trace = (slave : ℕ) × (phase : ℕ) × (cause : Cause) × RunsTo net input (reports.Failed slave phase cause) text trace
SaysRun net input judged.Differs text trace = ⊥
SaysRun net input judged.Refused text trace = OfText SaysReference input judged.Refused text × (trace ≡ [])

-- a run has no end only for want of memory, or where the network's count of faults rose; its text is a scenario then
abbrev pub StopsRun : (input : List ℕ) → (before now : ℕ) → Unsaid → Type 0
StopsRun input before now NetFault = ((scenario : Scenario) × ReadsAsScenario input scenario) × Rose before now
StopsRun input before now OutOfMemory = now ≡ before
