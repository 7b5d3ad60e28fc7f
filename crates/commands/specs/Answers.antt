-- What an answer holds, and what is delivered of it.
use Rattle.std.specs.Prelude.{◌≡◌, ◌≢◌, ℕ, ◌≤◌, List, [], length, Option, Some, None, IfSome, All}
use Rattle.dcp_io.specs.declared.outputs.Delivery.{Delivery}
use Rattle.dcp_io.specs.Outputs.{Delivers}
use Rattle.scenario.specs.Sound.{IsScenario}
use Rattle.master_spec.specs.declared.reports.Report.{Report}
use Rattle.rounds.specs.Told.{Follows}
use Rattle.host.specs.Views.{HostView, master_in, slaves_in}
use Rattle.host.specs.Hosting.{all_ends}
use Rattle.run_text.specs.Runs.{DeliversBoth}
use Rattle.soaks.specs.Summaries.{summary}
use Rattle.commands.specs.declared.answers.CommandAnswer.{CommandAnswer}
use Rattle.commands.specs.declared.answers.CommandAnswer.TheVariants.{Said, Ran, Replayed, Soaked}
use Rattle.commands.specs.declared.command_words.Command.{Command}
use Rattle.commands.specs.declared.command_words.Command.TheVariants.{Run, Replay, Soak}
use Rattle.commands.specs.declared.statuses.Judgement.{Judgement}
use Rattle.commands.specs.declared.statuses.Judgement.TheVariants.{Refused}
use Rattle.commands.specs.declared.statuses.Status.{Status}
use Rattle.commands.specs.Limits.{input_limit}
use Rattle.commands.specs.Said.{text_of}
use Rattle.commands.specs.Says.{Says}
use Rattle.commands.specs.SaysRun.{HasEnded, NetTold, report_after, run_text, run_trace}
use Rattle.commands.specs.SaysSoak.{rows_after}
use Rattle.commands.specs.Replays.{GoesThrough}
use Rattle.commands.specs.Statuses.{judgement_of_report, status_after}

-- what the command says of the input is in this answer
abbrev pub GivesAnswer : Command → NetTold → (input : List ℕ) → CommandAnswer → Type 0
GivesAnswer command net input (Said said) = Says command net input said.judgement (text_of said.text) []
GivesAnswer command net input (Ran host) = (command ≡ Run) × HasEnded net input host
GivesAnswer command net input (Replayed scenario replayed) = (command ≡ Replay) × GoesThrough input scenario replayed
GivesAnswer command net input (Soaked number host) = (command ≡ Soak number) × HasEnded net input host

-- the scenario is sound, all its ends are hosted, no fault stopped them, and the master has its report
pub record IsWritable (input : List ℕ) (host : HostView) : Type 0 where
  pub sound : IsScenario host.scenario
  pub hosted : host.hosted ≡ all_ends
  pub unfaulted : host.fault ≡ None
  pub reported : report_after host ≢ None
  pub short : length input ≤ input_limit

abbrev pub IsWritableAnswer : (input : List ℕ) → CommandAnswer → Type 0
IsWritableAnswer input (Said said) = Unit {0}
IsWritableAnswer input (Ran host) = IsWritable input host
IsWritableAnswer input (Replayed scenario replayed) = IsScenario scenario
IsWritableAnswer input (Soaked number host) = IsWritable input host

-- nothing is left for the trace
abbrev pub IsAlone : CommandAnswer → Type 0
IsAlone (Said said) = Unit {0}
IsAlone (Ran host) = ⊥
IsAlone (Replayed scenario replayed) = Unit {0}
IsAlone (Soaked number host) = Unit {0}

abbrev pub IsRefusal : CommandAnswer → Type 0
IsRefusal (Said said) = said.judgement ≡ Refused
IsRefusal (Ran host) = ⊥
IsRefusal (Replayed scenario replayed) = ⊥
IsRefusal (Soaked number host) = ⊥

-- a run, or the refusal of its text
abbrev pub RanOrRefused : CommandAnswer → Type 0
RanOrRefused (Said said) = said.judgement ≡ Refused
RanOrRefused (Ran host) = Unit {0}
RanOrRefused (Replayed scenario replayed) = ⊥
RanOrRefused (Soaked number host) = ⊥

-- the two sinks told and tell this, with their counts of faults
module _ (held holds : Option (List ℕ)) (before now : ℕ) (kept keeps : Option (List ℕ)) (began ends : ℕ) where
  -- what the command says of the input was delivered, and the status follows from it
  abbrev pub Delivered : Command → NetTold → (input : List ℕ) → Status → Type 0
  Delivered command net input status =
      (judgement : Judgement) × (delivery : Delivery) × (text : List ℕ) × (traced : List ℕ)
      × Says command net input judgement text traced × DeliversBoth held holds before now kept keeps began ends text traced delivery × (status ≡ status_after judgement delivery)

  -- what a run leaves was delivered: the rows and the report of the scenario's master, and the trace of ends that followed their rules
  pub record RunDelivered (input : List ℕ) (host : HostView) (status : Status) : Type 0 where
    pub report : Report
    pub delivery : Delivery
    pub sound : IsScenario host.scenario
    pub hosted : host.hosted ≡ all_ends
    pub master : IfSome (master_in host) (λ rules. Follows rules host.log)
    pub slaves : All (λ rules. Follows rules host.log) (slaves_in host)
    pub reported : report_after host ≡ Some report
    pub delivered : DeliversBoth held holds before now kept keeps began ends (run_text host report) (run_trace input host) delivery
    pub status_is : status ≡ status_after (judgement_of_report report) delivery

-- what a run of a number's scenario leaves was delivered to a sink: the line of its report and the sum of its rows
pub record SoakDelivered (held holds : Option (List ℕ)) (before now : ℕ) (number : ℕ) (host : HostView) (status : Status) : Type 0 where
  pub report : Report
  pub delivery : Delivery
  pub sound : IsScenario host.scenario
  pub hosted : host.hosted ≡ all_ends
  pub master : IfSome (master_in host) (λ rules. Follows rules host.log)
  pub slaves : All (λ rules. Follows rules host.log) (slaves_in host)
  pub reported : report_after host ≡ Some report
  pub delivered : Delivers held holds before now (summary number report (rows_after host)) delivery
  pub status_is : status ≡ status_after (judgement_of_report report) delivery
