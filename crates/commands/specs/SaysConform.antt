-- What `conform` says of a trace and of the name of a slave.
use Rattle.std.specs.Prelude.{◌≡◌, ◌≢◌, ◌⊎◌, ℕ, ◌<◌, ◌≤◌, List, ◌++◌, length, Some, All, codes, decimal}
use Rattle.dcp_ends.specs.declared.entries.LogEntry.{LogEntry}
use Rattle.slave_desc.specs.declared.descriptions.SlaveDesc.{SlaveDesc}
use Rattle.scenario.specs.declared.scenarios.Scenario.{Scenario}
use Rattle.scenario.specs.Lookups.{slave_at}
use Rattle.host.specs.declared.hosted.Hosted.{Hosted}
use Rattle.conform.specs.declared.answers.BadWhy.{BadWhy}
use Rattle.conform.specs.declared.answers.BadWhy.TheVariants as whys
use Rattle.conform.specs.declared.answers.Conformance.{Conformance}
use Rattle.conform.specs.declared.answers.Conformance.TheVariants.{Follows, Bad}
use Rattle.conform.specs.Checks.{Judges}
use Rattle.commands.specs.declared.statuses.Judgement.{Judgement}
use Rattle.commands.specs.declared.statuses.Judgement.TheVariants as judged
use Rattle.commands.specs.Limits.{trace_limit}
use Rattle.commands.specs.Refusals.{byte_refusal, line_refusal}
use Rattle.commands.specs.SaysReplay.{IsTraceOf, RefusesTrace}

abbrev pub conforms_line : (name : List ℕ) (events : ℕ) → List ℕ
conforms_line name events = codes "conforms " ++ (name ++ (codes " events " ++ (decimal events ++ codes "\n")))

abbrev pub bad_why_word : BadWhy → List ℕ
bad_why_word whys.Send = codes "SEND"
bad_why_word whys.Missing = codes "MISSING"

-- from 0
abbrev pub bad_entry_line : (at : ℕ) → BadWhy → List ℕ
bad_entry_line at why = codes "bad entry " ++ (decimal at ++ (codes " " ++ (bad_why_word why ++ codes "\n")))

-- The input is a trace, in whose scenario a slave has this name; of its entries those of this slave are so, for a slave of its description with any model.
pub record IsJudgedSo (name input : List ℕ) (answer : Conformance) : Type 0 where
  pub scenario : Scenario
  pub hosted : Hosted
  pub entries : List LogEntry
  pub trace : IsTraceOf input scenario hosted entries
  pub slave : ℕ
  pub desc : SlaveDesc
  pub is : slave_at scenario.slaves slave ≡ Some desc
  pub named : desc.name ≡ name
  pub judged : Judges desc entries answer

-- the input is a trace whose scenario has no slave of the name
pub record NamesNoSlave (name input : List ℕ) : Type 0 where
  pub scenario : Scenario
  pub hosted : Hosted
  pub entries : List LogEntry
  pub trace : IsTraceOf input scenario hosted entries
  pub none : All (λ d. d.name ≢ name) scenario.slaves

-- entries that such a slave may have are good; others break at a place
abbrev pub SaysConform : (name : List ℕ) → List ℕ → Judgement → List ℕ → Type 0
SaysConform name input judged.Good text = (events : ℕ) × IsJudgedSo name input (Follows events) × (text ≡ conforms_line name events)
SaysConform name input judged.Failed text = ⊥
SaysConform name input judged.Differs text = (at : ℕ) × (why : BadWhy) × IsJudgedSo name input (Bad at why) × (text ≡ bad_entry_line at why)
SaysConform name input judged.Refused text =
    ((length input ≤ trace_limit) × RefusesTrace input text)
    ⊎ (((trace_limit < length input) × (text ≡ byte_refusal 0 (codes "LIMIT")))
    ⊎ (NamesNoSlave name input × (text ≡ line_refusal 0 (codes "UNKNOWN_SLAVE"))))
