-- What `replay` says of a trace.
use Rattle.std.specs.Prelude.{◌≡◌, ◌⊎◌, ℕ, ◌+◌, ◌/◌, ◌%◌, ◌^◌, ◌<◌, ◌≤◌, ◌==◌, List, ◌++◌, length, reverse, Some, codes, decimal}
use Rattle.dcp_ends.specs.Logs.{events_at}
use Rattle.dcp_ends.specs.declared.entries.LogEntry.{LogEntry}
use Rattle.dcp_record.specs.Traces.{IsTrace}
use Rattle.dcp_record.specs.Refusals.{TraceRefusal}
use Rattle.dcp_record.specs.Words.{trace_word}
use Rattle.dcp_record.specs.declared.faults.TraceWhy.{TraceWhy}
use Rattle.dcp_record.specs.declared.faults.TraceWhy.TheVariants.{Header}
use Rattle.text_lines.specs.Readings.{FirstBad}
use Rattle.text_lines.specs.declared.reasons.TextWhy.{TextWhy}
use Rattle.scenario.specs.declared.scenarios.Scenario.{Scenario}
use Rattle.scenario_text.specs.Reads.{ReadsAsScenario}
use Rattle.scenario_text.specs.Judging.{scenario_why_at}
use Rattle.host.specs.declared.hosted.Hosted.{Hosted}
use Rattle.host.specs.Hosting.{master_of, slaves_of}
use Rattle.host.specs.Externals.{external_in}
use Rattle.master_spec.specs.declared.causes.Cause.{Cause}
use Rattle.master_spec.specs.declared.reports.Report.{Report}
use Rattle.master_spec.specs.declared.reports.Report.TheVariants as reports
use Rattle.master_spec.specs.Course.{course}
use Rattle.master_spec.specs.Setup.{setup_from}
use Rattle.run_text.specs.Runs.{text_after}
use Rattle.replays.specs.Expected.{AreRight}
use Rattle.replays.specs.Differences.{FirstDiffers, IsEnded}
use Rattle.commands.specs.declared.statuses.Judgement.{Judgement}
use Rattle.commands.specs.declared.statuses.Judgement.TheVariants as judged
use Rattle.commands.specs.Limits.{trace_limit}
use Rattle.commands.specs.Refusals.{byte_refusal}

-- the ends that these bits name: bit 0 the master, bit s slave s
abbrev pub named_by : (bits : ℕ) → Hosted
named_by bits = record { master = bits % 2 == 1; slaves = bits / 2 }

-- each bit names the master or a slave that is there
abbrev pub AreThere : Scenario → (bits : ℕ) → Type 0
AreThere sc bits = bits < 2 ^ (length sc.slaves + 1)

-- the trace of a scenario, of ends that it has, and of their log
pub record IsTraceOf (input : List ℕ) (sc : Scenario) (hosted : Hosted) (entries : List LogEntry) : Type 0 where
  pub short : length input ≤ trace_limit
  pub bits : ℕ
  pub text : List ℕ
  pub trace : IsTrace input bits text entries
  pub reads : ReadsAsScenario text sc
  pub there : AreThere sc bits
  pub named : hosted ≡ named_by bits

-- Nothing in the trace differs from what its ends do, and the master of its scenario then has this report. The text is its rows after its events in the trace, and the report.
pub record ReplaysTo (input : List ℕ) (report : Report) (text : List ℕ) : Type 0 where
  pub scenario : Scenario
  pub hosted : Hosted
  pub entries : List LogEntry
  pub trace : IsTraceOf input scenario hosted entries
  pub right : AreRight (master_of scenario hosted) (slaves_of scenario hosted) entries
  pub ended : IsEnded (master_of scenario hosted) (slaves_of scenario hosted) entries
  pub reported : (course (setup_from scenario) (reverse (events_at scenario.master entries))).report ≡ Some report
  pub text_is : text ≡ text_after (setup_from scenario) (reverse (events_at scenario.master entries)) report

-- from 0
abbrev pub differs_line : (at : ℕ) → List ℕ
differs_line at = codes "differs at " ++ (decimal at ++ codes "\n")

abbrev pub unended_line : (entries : ℕ) → List ℕ
unended_line entries = codes "unended " ++ (decimal entries ++ codes "\n")

-- an entry is the first that differs from what the ends do; or none differs, and the trace breaks off
pub record StopsShort (input text : List ℕ) : Type 0 where
  pub scenario : Scenario
  pub hosted : Hosted
  pub entries : List LogEntry
  pub trace : IsTraceOf input scenario hosted entries
  pub place : ((at : ℕ) × FirstDiffers (master_of scenario hosted) (slaves_of scenario hosted) entries at × (text ≡ differs_line at))
      ⊎ (AreRight (master_of scenario hosted) (slaves_of scenario hosted) entries × (IsEnded (master_of scenario hosted) (slaves_of scenario hosted) entries → ⊥) × (text ≡ unended_line (length entries)))

-- the bytes are no trace
pub record IsNoTrace (input text : List ℕ) : Type 0 where
  pub at : ℕ
  pub why : TraceWhy
  pub refusal : TraceRefusal input at why
  pub text_is : text ≡ byte_refusal at (trace_word why)

-- the bytes are a trace whose scenario does not read
pub record HasNoScenario (input text : List ℕ) : Type 0 where
  pub bits : ℕ
  pub scenario : List ℕ
  pub entries : List LogEntry
  pub trace : IsTrace input bits scenario entries
  pub line : ℕ
  pub why : TextWhy
  pub bad : FirstBad scenario_why_at scenario line why
  pub text_is : text ≡ byte_refusal 13 (trace_word Header)

-- the bytes are a trace that names a slave which its scenario lacks
pub record NamesNone (input text : List ℕ) : Type 0 where
  pub bits : ℕ
  pub text_in : List ℕ
  pub entries : List LogEntry
  pub trace : IsTrace input bits text_in entries
  pub scenario : Scenario
  pub reads : ReadsAsScenario text_in scenario
  pub lacks : AreThere scenario bits → ⊥
  pub text_is : text ≡ byte_refusal 5 (trace_word Header)

-- the bytes are a trace of ends of which a slave has a model that is not this program's: it cannot be made anew
pub record HostsExternal (input text : List ℕ) : Type 0 where
  pub scenario : Scenario
  pub hosted : Hosted
  pub entries : List LogEntry
  pub trace : IsTraceOf input scenario hosted entries
  pub slave : ℕ
  pub first : external_in scenario hosted ≡ Some slave
  pub text_is : text ≡ byte_refusal 5 (trace_word Header)

abbrev pub RefusesTrace : (input text : List ℕ) → Type 0
RefusesTrace input text = IsNoTrace input text ⊎ (HasNoScenario input text ⊎ NamesNone input text)

-- a trace that goes to Finished is good
abbrev pub SaysReplay : List ℕ → Judgement → List ℕ → Type 0
SaysReplay input judged.Good text = (steps : ℕ) × ReplaysTo input (reports.Finished steps) text
SaysReplay input judged.Failed text = (slave : ℕ) × (phase : ℕ) × (cause : Cause) × ReplaysTo input (reports.Failed slave phase cause) text
SaysReplay input judged.Differs text = StopsShort input text
SaysReplay input judged.Refused text =
    ((length input ≤ trace_limit) × (RefusesTrace input text ⊎ HostsExternal input text)) ⊎ ((trace_limit < length input) × (text ≡ byte_refusal 0 (codes "LIMIT")))
