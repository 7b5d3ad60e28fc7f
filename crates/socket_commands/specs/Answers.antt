-- What an answer holds, and what is delivered of it.
use Rattle.std.specs.Prelude.{◌≡◌, ◌⊎◌, ℕ, ◌≤◌, List, [], length, true, Option, None, IfSome, All}
use Rattle.dcp_io.specs.declared.outputs.Delivery.{Delivery}
use Rattle.dcp_record.specs.Traces.{trace_bytes}
use Rattle.scenario.specs.Sound.{IsScenario}
use Rattle.rounds.specs.Told.{Follows}
use Rattle.host.specs.Views.{HostView, master_in, slaves_in}
use Rattle.run_text.specs.Runs.{DeliversBoth}
use Rattle.commands.specs.declared.statuses.Judgement.{Judgement}
use Rattle.commands.specs.declared.statuses.Judgement.TheVariants as judged
use Rattle.commands.specs.declared.statuses.Status.{Status}
use Rattle.commands.specs.Limits.{input_limit}
use Rattle.commands.specs.Said.{text_of}
use Rattle.commands.specs.SaysRun.{run_text}
use Rattle.commands.specs.Statuses.{status_after}
use Rattle.socket_commands.specs.declared.answers.LiveAnswer.{LiveAnswer}
use Rattle.socket_commands.specs.declared.answers.LiveAnswer.TheVariants.{Refused, Ran}
use Rattle.socket_commands.specs.declared.answers.Ending.{Ending}
use Rattle.socket_commands.specs.declared.answers.Ending.TheVariants.{Report, Line}
use Rattle.socket_commands.specs.declared.answers.Run.{Run}
use Rattle.socket_commands.specs.Changes.{LiveChange}
use Rattle.socket_commands.specs.Parts.{IsPart, bits_in}
use Rattle.socket_commands.specs.Says.{ComesTo, HasLived, SaysLive}

-- the text of a run
abbrev pub ended_text : HostView → Ending → List ℕ
ended_text host (Report report) = run_text host report
ended_text host (Line line) = line.items

-- rows need their master
abbrev pub HasMaster : HostView → Ending → Type 0
HasMaster host (Report report) = host.hosted.master ≡ true
HasMaster host (Line line) = Unit {0}

-- what the run came to, and its text
abbrev pub IsRunEnded : Run → Type 0
IsRunEnded run = ComesTo run.part run.host run.judgement (ended_text run.host run.ending)

-- what the command says of the input is in this answer
abbrev pub GivesLive : List (List ℕ) → LiveChange → (input : List ℕ) → LiveAnswer → Type 0
GivesLive words net input (Refused said) = (said.judgement ≡ judged.Refused) × SaysLive words net input said.judgement (text_of said.text) []
GivesLive words net input (Ran run) = HasLived words net input run.part run.host × IsRunEnded run

-- the scenario is sound, no fault stopped the ends, and what they came to is known
pub record IsWritableRun (input : List ℕ) (run : Run) : Type 0 where
  pub sound : IsScenario run.host.scenario
  pub part : IsPart run.part
  pub unfaulted : run.host.fault ≡ None
  pub master : HasMaster run.host run.ending
  pub ended : IsRunEnded run
  pub short : length input ≤ input_limit

abbrev pub IsWritableLive : (input : List ℕ) → LiveAnswer → Type 0
IsWritableLive input (Refused said) = said.judgement ≡ judged.Refused
IsWritableLive input (Ran run) = IsWritableRun input run

abbrev pub IsLiveRefusal : LiveAnswer → Type 0
IsLiveRefusal (Refused said) = Unit {0}
IsLiveRefusal (Ran run) = ⊥

-- the two sinks told and tell this, with their counts of faults
module _ (held holds : Option (List ℕ)) (before now : ℕ) (kept keeps : Option (List ℕ)) (began ends : ℕ) where
  -- what the command says of the input was delivered, and the status follows from it
  abbrev pub Delivered : List (List ℕ) → LiveChange → (input : List ℕ) → Status → Type 0
  Delivered words net input status =
      (judgement : Judgement) × (delivery : Delivery) × (text : List ℕ) × (traced : List ℕ)
      × SaysLive words net input judgement text traced × DeliversBoth held holds before now kept keeps began ends text traced delivery × (status ≡ status_after judgement delivery)

  -- what a run of a sound scenario leaves was delivered: its text, and the trace of ends that followed their rules
  pub record RunDelivered (input : List ℕ) (run : Run) (status : Status) : Type 0 where
    pub delivery : Delivery
    pub sound : IsScenario run.host.scenario
    pub master : IfSome (master_in run.host) (λ rules. Follows rules run.host.log)
    pub slaves : All (λ rules. Follows rules run.host.log) (slaves_in run.host)
    pub delivered : DeliversBoth held holds before now kept keeps began ends (ended_text run.host run.ending) (trace_bytes (bits_in run.part (length run.host.scenario.slaves)) input run.host.log) delivery
    pub status_is : status ≡ status_after run.judgement delivery
