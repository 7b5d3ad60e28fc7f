-- What a command over sockets says of a text.
use Rattle.std.specs.Prelude.{◌≡◌, ◌⊎◌, ℕ, ◌≤◌, List, [], length, Option, None, Some, IfSome, All, codes}
use Rattle.dcp_types.specs.declared.fault_codes.FaultCode.{FaultCode}
use Rattle.dcp_ends.specs.Logs.{events_at}
use Rattle.dcp_record.specs.Traces.{trace_bytes}
use Rattle.slave_desc.specs.declared.descriptions.SlaveDesc.{SlaveDesc}
use Rattle.scenario.specs.declared.scenarios.Scenario.{Scenario}
use Rattle.scenario.specs.Lookups.{slave_at}
use Rattle.scenario_text.specs.Reads.{ReadsAsScenario}
use Rattle.slave_spec.specs.Slaves.{fault_after, state_after, steps_after}
use Rattle.master_spec.specs.declared.reports.Report.{Report}
use Rattle.rounds.specs.Told.{Follows}
use Rattle.host.specs.Hosting.{opening_of, slave_setup}
use Rattle.host.specs.Views.{HostView, Tells, master_in, slaves_in}
use Rattle.commands.specs.declared.statuses.Judgement.{Judgement}
use Rattle.commands.specs.declared.statuses.Judgement.TheVariants as judged
use Rattle.commands.specs.Complete.{FailsForReasonIfHonest, IsCompleteIfTimely}
use Rattle.commands.specs.InStep.{IsInStepIfHonest}
use Rattle.commands.specs.Limits.{input_limit}
use Rattle.commands.specs.Statuses.{judgement_of_report}
use Rattle.commands.specs.Externals.{LacksModel}
use Rattle.commands.specs.Refusals.{OfText, line_refusal}
use Rattle.commands.specs.SaysReference.{SaysUnread}
use Rattle.commands.specs.SaysRun.{ShowsEnd, report_after, run_text}
use Rattle.socket_commands.specs.declared.parts.Part.{Part}
use Rattle.socket_commands.specs.declared.parts.Part.TheVariants as parts
use Rattle.socket_commands.specs.Changes.{LiveChange}
use Rattle.socket_commands.specs.Lines.{slave_line}
use Rattle.socket_commands.specs.Lives.{HasRun, stays}
use Rattle.socket_commands.specs.Parts.{HasNoPart, NamesPart, bits_in, hosted_of}

-- The ends that the words name, of the scenario that the text is, have run until they were done, and a slave without its master until its last request could not come again. Where the network tells them, it was opened for these ends with the scenario's plan, and its calls are the host's log without its turns.
pub record HasLived (words : List (List ℕ)) (net : LiveChange) (input : List ℕ) (part : Part) (host : HostView) : Type 0 where
  pub short : length input ≤ input_limit
  pub reads : ReadsAsScenario input host.scenario
  pub named : NamesPart words host.scenario part
  pub hosted : host.hosted ≡ hosted_of part
  pub run : HasRun net.waits_before net.waits_now (stays part host.scenario.limits) host
  pub opened : IfSome net.told.opening (λ opening. opening ≡ opening_of host.scenario (hosted_of part))
  pub told : Tells net.told.calls host.log

-- a slave that has a fault has failed
abbrev pub judgement_of_fault : Option FaultCode → Judgement
judgement_of_fault None = judged.Good
judgement_of_fault (Some fault) = judged.Failed

-- the report of the master after its events in the log; the text is its rows and the report
abbrev pub ReportsOn : HostView → Judgement → List ℕ → Type 0
ReportsOn host judgement text = (report : Report) × (report_after host ≡ Some report) × (judgement ≡ judgement_of_report report) × (text ≡ run_text host report)

-- the steps, the state and the fault of the slave after its events in the log; the text is their line
abbrev pub LinesOf : HostView → (s : ℕ) → Judgement → List ℕ → Type 0
LinesOf host s judgement text =
    (d : SlaveDesc) × (slave_at host.scenario.slaves s ≡ Some d)
    × (judgement ≡ judgement_of_fault (fault_after (slave_setup host.scenario d) (events_at d.address host.log)))
    × (text ≡ slave_line d.name (steps_after (slave_setup host.scenario d) (events_at d.address host.log))
    (state_after (slave_setup host.scenario d) (events_at d.address host.log)) (fault_after (slave_setup host.scenario d) (events_at d.address host.log)))

-- what the ends came to, and the text that says so
abbrev pub ComesTo : Part → HostView → Judgement → List ℕ → Type 0
ComesTo parts.All host judgement text = ReportsOn host judgement text
ComesTo parts.Master host judgement text = ReportsOn host judgement text
ComesTo (parts.Slave s) host judgement text = LinesOf host s judgement text

-- the master is one of the ends
abbrev pub HostsMaster : Part → Type 0
HostsMaster parts.All = Unit {0}
HostsMaster parts.Master = Unit {0}
HostsMaster (parts.Slave s) = ⊥

-- There is a run of the ends that the words name, in whose log each of them follows its rules, and it came to this. The trace is that of the run. The report of a hosted master is shown by the log, on every network. Where all ends are hosted, it keeps over an honest network to the lockstep of the scenario's reference, the cause of a failure has its reason, and where nothing was lost or late, the text is what the reference gives.
pub record LivesTo (words : List (List ℕ)) (net : LiveChange) (input : List ℕ) (judgement : Judgement) (text trace : List ℕ) : Type 0 where
  pub part : Part
  pub host : HostView
  pub lived : HasLived words net input part host
  pub master : IfSome (master_in host) (λ rules. Follows rules host.log)
  pub slaves : All (λ rules. Follows rules host.log) (slaves_in host)
  pub comes : ComesTo part host judgement text
  pub trace_is : trace ≡ trace_bytes (bits_in part (length host.scenario.slaves)) input host.log
  pub shows : HostsMaster part → (report : Report) → report_after host ≡ Some report → ShowsEnd host.scenario host.log report
  pub in_step : part ≡ parts.All → (report : Report) → report_after host ≡ Some report → IsInStepIfHonest host.scenario host.log report text
  pub reasons : part ≡ parts.All → (report : Report) → report_after host ≡ Some report → FailsForReasonIfHonest host.scenario host.log report
  pub complete : part ≡ parts.All → (report : Report) → report_after host ≡ Some report → IsCompleteIfTimely host.scenario host.log report text

-- the text is a scenario that has no slave of the name
abbrev pub NoSlave : List (List ℕ) → List ℕ → List ℕ → Type 0
NoSlave words input text =
    (length input ≤ input_limit) × ((sc : Scenario) × ReadsAsScenario input sc × HasNoPart words sc) × (text ≡ line_refusal 0 (codes "UNKNOWN_SLAVE"))

-- the text is a scenario in which a slave that the words name has a model that is not this program's
pub record NoModel (words : List (List ℕ)) (input text : List ℕ) : Type 0 where
  pub short : length input ≤ input_limit
  pub part : Part
  pub lacks : LacksModel (hosted_of part) input text
  pub named : NamesPart words lacks.scenario part

-- a text that is no scenario is refused at its first line that is refused
abbrev pub SaysLive : List (List ℕ) → LiveChange → List ℕ → Judgement → (text trace : List ℕ) → Type 0
SaysLive words net input judged.Good text trace = LivesTo words net input judged.Good text trace
SaysLive words net input judged.Failed text trace = LivesTo words net input judged.Failed text trace
SaysLive words net input judged.Differs text trace = ⊥
SaysLive words net input judged.Refused text trace = (OfText SaysUnread input judged.Refused text ⊎ (NoSlave words input text ⊎ NoModel words input text)) × (trace ≡ [])
