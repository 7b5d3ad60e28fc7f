-- What a call over sockets answers, by its status: why, what of the source was taken, and what was written.
use Rattle.std.specs.Prelude.{◌≡◌, ◌⊎◌, ℕ, List, [], codes}
use Rattle.dcp_io.specs.Faults.{Rose}
use Rattle.dcp_io.specs.declared.outputs.Delivery.{Delivery}
use Rattle.dcp_io.specs.declared.outputs.Delivery.TheVariants.{Whole, Cut}
use Rattle.scenario.specs.declared.scenarios.Scenario.{Scenario}
use Rattle.scenario_text.specs.Reads.{ReadsAsScenario}
use Rattle.run_text.specs.Runs.{DeliversBoth}
use Rattle.commands.specs.declared.statuses.Status.{Status}
use Rattle.commands.specs.declared.statuses.Status.TheVariants.{Done, Usage, BadInput, RunFailed, ReadFault, WriteFault, NetFault, OutOfMemory, Differs}
use Rattle.commands.specs.declared.statuses.Judgement.{Judgement}
use Rattle.commands.specs.declared.statuses.Judgement.TheVariants.{Good, Failed, Refused}
use Rattle.commands.specs.Changes.{RunChange, HasFailed, HasNotFailed, IsUntouched}
use Rattle.commands.specs.Inputs.{TakesInput, TakesSome}
use Rattle.commands.specs.Limits.{input_limit}
use Rattle.socket_commands.specs.Changes.{LiveChange}
use Rattle.socket_commands.specs.Parts.{IsLive}
use Rattle.socket_commands.specs.Says.{SaysLive}

-- neither the network nor a wait has failed
abbrev pub NetStands : LiveChange → Type 0
NetStands net = (net.now ≡ net.before) × (net.failed_now ≡ net.failed_before)

-- the network or a wait has failed
abbrev pub NetFailed : LiveChange → Type 0
NetFailed net = Rose net.before net.now ⊎ Rose net.failed_before net.failed_now

-- these words were given, and this happened to the source, the two sinks, the network and the waits
module _ (words : List (List ℕ)) (source out trace : RunChange) (net : LiveChange) where
  -- the text was written to the one sink, and then the trace to the other
  abbrev pub Wrote : (text traced : List ℕ) → Delivery → Type 0
  Wrote = DeliversBoth out.was out.is out.before out.now trace.was trace.is trace.before trace.now

  -- nothing was written to either sink
  abbrev pub WritesNothing : Type 0
  WritesNothing = IsUntouched out × IsUntouched trace

  -- the words name ends, the whole input was taken, nothing failed but perhaps a write, the command judged the input so, and what it says of it was written so
  abbrev pub Answered : Judgement → Delivery → Type 0
  Answered judgement delivery =
      (input : List ℕ) × (text : List ℕ) × (traced : List ℕ)
      × IsLive words × TakesInput input_limit source.was source.is input × HasNotFailed source
      × SaysLive words net input judgement text traced × Wrote text traced delivery × NetStands net

  abbrev pub Outcome : Status → Type 0
  Outcome Done = Answered Good Whole
  Outcome RunFailed = Answered Failed Whole
  Outcome WriteFault = Answered Good Cut ⊎ Answered Failed Cut
  Outcome BadInput = (delivery : Delivery) × Answered Refused delivery
  Outcome Usage = (delivery : Delivery) × (IsLive words → ⊥) × HasNotFailed source × Wrote (codes "usage\n") [] delivery
  Outcome ReadFault = IsLive words × TakesSome input_limit source.was source.is × HasFailed source × WritesNothing
  Outcome NetFault =
      (input : List ℕ) × IsLive words × TakesInput input_limit source.was source.is input × HasNotFailed source
      × ((scenario : Scenario) × ReadsAsScenario input scenario) × NetFailed net × WritesNothing
  Outcome OutOfMemory = IsLive words × TakesSome input_limit source.was source.is × HasNotFailed source × WritesNothing × NetStands net
  Outcome Differs = ⊥
