-- What a call of the program answers, by its status: why, what of the source was taken, and what was written.
use Rattle.std.specs.Prelude.{◌≡◌, ◌⊎◌, ℕ, true, List, [], codes}
use Rattle.command_line.specs.Lines.{is_line}
use Rattle.commands.specs.declared.command_words.Command.{Command}
use Rattle.commands.specs.declared.answers.Unsaid.TheVariants as unsaid
use Rattle.commands.specs.declared.statuses.Status.{Status}
use Rattle.commands.specs.declared.statuses.Status.TheVariants.{Done, Usage, BadInput, RunFailed, ReadFault, WriteFault, NetFault, OutOfMemory, Differs}
use Rattle.commands.specs.declared.statuses.Judgement.{Judgement}
use Rattle.commands.specs.declared.statuses.Judgement.TheVariants.{Good, Failed, Refused}
use Rattle.commands.specs.declared.statuses.Judgement.TheVariants as judged
use Rattle.dcp_io.specs.declared.outputs.Delivery.{Delivery}
use Rattle.dcp_io.specs.declared.outputs.Delivery.TheVariants.{Whole, Cut}
use Rattle.run_text.specs.Runs.{DeliversBoth}
use Rattle.commands.specs.Changes.{RunChange, NetChange, HasFailed, HasNotFailed, IsUntouched}
use Rattle.commands.specs.CommandWords.{Names, IsCommand}
use Rattle.commands.specs.Given.{TakesFor, TakesSomeFor}
use Rattle.commands.specs.Says.{Says, Stops}

-- these words were given, and this happened to the source, the two sinks and the network
module _ (words : List (List ℕ)) (source out trace : RunChange) (net : NetChange) where
  -- the text was written to the one sink, and then the trace to the other
  abbrev pub Wrote : (text traced : List ℕ) → Delivery → Type 0
  Wrote = DeliversBoth out.was out.is out.before out.now trace.was trace.is trace.before trace.now

  -- nothing was written to either sink
  abbrev pub WritesNothing : Type 0
  WritesNothing = IsUntouched out × IsUntouched trace

  -- the words name a command, the whole input was taken or made and neither a read nor the network failed, the command judged it so, and what it says of it was written so
  abbrev pub Answered : Judgement → Delivery → Type 0
  Answered judgement delivery =
      (command : Command) × (input : List ℕ) × (text : List ℕ) × (traced : List ℕ)
      × Names words command × TakesFor source.was source.is command input × HasNotFailed source
      × Says command net.told input judgement text traced × Wrote text traced delivery × (net.now ≡ net.before)

  -- to read these words wanted memory, which comes only where there are one or two and none begins with `-`; nothing was taken, written or called
  abbrev pub IsUnread : Type 0
  IsUnread = (is_line words ≡ true) × (source.is ≡ source.was) × HasNotFailed source × WritesNothing × (net.now ≡ net.before)

  abbrev pub Outcome : Status → Type 0
  Outcome Done = Answered Good Whole
  Outcome RunFailed = Answered Failed Whole
  Outcome WriteFault = Answered Good Cut ⊎ (Answered Failed Cut ⊎ Answered judged.Differs Cut)
  Outcome BadInput = (delivery : Delivery) × Answered Refused delivery
  Outcome Usage = (delivery : Delivery) × (IsCommand words → ⊥) × HasNotFailed source × Wrote (codes "usage\n") [] delivery
  Outcome ReadFault = (command : Command) × Names words command × TakesSomeFor source.was source.is command × HasFailed source × WritesNothing
  Outcome NetFault =
      (command : Command) × (input : List ℕ) × Names words command × TakesFor source.was source.is command input × HasNotFailed source
      × Stops command input net.before net.now unsaid.NetFault × WritesNothing
  Outcome OutOfMemory = IsUnread ⊎ ((command : Command) × Names words command × TakesSomeFor source.was source.is command × HasNotFailed source × WritesNothing × (net.now ≡ net.before))
  Outcome Differs = Answered judged.Differs Whole

-- the answers to a command whose objects do not fail
abbrev pub IsFree : Status → Type 0
IsFree Done = Unit {0}
IsFree RunFailed = Unit {0}
IsFree BadInput = Unit {0}
IsFree Differs = Unit {0}
IsFree OutOfMemory = Unit {0}
IsFree _ = ⊥
