-- What the command answers, by its status: why, what of the source was taken, and what was written.
use Rattle.std.specs.Prelude.{◌≡◌, ◌⊎◌, ℕ, List, codes}
use Rattle.dcp_io.specs.declared.outputs.Delivery.{Delivery}
use Rattle.dcp_io.specs.Outputs.{Delivers}
use Rattle.commands.specs.declared.statuses.Status.{Status}
use Rattle.commands.specs.declared.statuses.Status.TheVariants.{Done, Usage, BadInput, RunFailed, ReadFault, WriteFault, NetFault, OutOfMemory, Differs}
use Rattle.commands.specs.Changes.{RunChange, HasFailed, HasNotFailed}
use Rattle.commands.specs.Inputs.{TakesInput, TakesSome}
use Rattle.commands.specs.Limits.{input_limit}
use Rattle.socket_commands.specs.declared.bridge_stops.Stop.TheVariants as stops
use Rattle.socket_commands.specs.Bridge.Numbers.{IsBridge, NamesBridge}
use Rattle.socket_commands.specs.Bridge.Says.{BridgeStands, RefusalLine}
use Rattle.socket_commands.specs.Bridge.Standing.{BridgeChange, HasNotBegun, StopCause}

-- these words were given, and this happened to the source, the sink, the two networks and the waits
module _ {P : Type 0} (words : List (List ℕ)) (source out : RunChange) (nets : BridgeChange P) where
  abbrev pub Writes : (text : List ℕ) → Delivery → Type 0
  Writes = Delivers out.was out.is out.before out.now

  -- the words say how many slaves live on UDP, and this input was taken whole
  abbrev pub Judged : (n : ℕ) → (input : List ℕ) → Type 0
  Judged n input = NamesBridge words n × TakesInput input_limit source.was source.is input × HasNotFailed source

  -- the bridge stood until it was stopped so, and nothing was written
  abbrev pub BridgeOutcome : Status → Type 0
  BridgeOutcome Done = ⊥
  BridgeOutcome RunFailed = ⊥
  BridgeOutcome WriteFault = ⊥
  BridgeOutcome Differs = ⊥
  BridgeOutcome Usage = (delivery : Delivery) × (IsBridge words → ⊥) × HasNotFailed source × Writes (codes "usage\n") delivery
  BridgeOutcome BadInput = (n : ℕ) × (input : List ℕ) × (text : List ℕ) × (delivery : Delivery) × Judged n input × RefusalLine n input text × Writes text delivery
  BridgeOutcome ReadFault = IsBridge words × TakesSome input_limit source.was source.is × HasFailed source × HasNotFailed out
  BridgeOutcome NetFault = (n : ℕ) × (input : List ℕ) × Judged n input × BridgeStands n input nets × StopCause nets stops.Net × HasNotFailed out
  BridgeOutcome OutOfMemory =
      IsBridge words × TakesSome input_limit source.was source.is × HasNotFailed source × HasNotFailed out × StopCause nets stops.OutOfMemory
      × (((n : ℕ) × (input : List ℕ) × Judged n input × BridgeStands n input nets) ⊎ HasNotBegun nets)
