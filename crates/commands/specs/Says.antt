-- What each command says of an input: the judgement, the text that is written, and the trace.
use Rattle.std.specs.Prelude.{◌≡◌, ℕ, List, []}
use Rattle.commands.specs.declared.command_words.Command.{Command}
use Rattle.commands.specs.declared.command_words.Command.TheVariants.{Decode, Encode, Describe, Reference, Talk, Run, Replay, Soak, Conform}
use Rattle.commands.specs.declared.statuses.Judgement.{Judgement}
use Rattle.commands.specs.Refusals.{OfText}
use Rattle.commands.specs.SaysDecoded.{SaysDecoded}
use Rattle.commands.specs.SaysEncoded.{SaysEncoded}
use Rattle.commands.specs.SaysDescribed.{SaysDescribed}
use Rattle.commands.specs.SaysReference.{SaysReference}
use Rattle.commands.specs.SaysTalk.{SaysTalk}
use Rattle.commands.specs.SaysReplay.{SaysReplay}
use Rattle.commands.specs.SaysConform.{SaysConform}
use Rattle.commands.specs.SaysRun.{NetTold, SaysRun, StopsRun}
use Rattle.commands.specs.SaysSoak.{SaysSoak}
use Rattle.commands.specs.declared.answers.Unsaid.{Unsaid}
use Rattle.commands.specs.declared.answers.Unsaid.TheVariants.{OutOfMemory}

-- a text alone, and no trace
abbrev pub Alone : (List ℕ → Judgement → List ℕ → Type 0) → List ℕ → Judgement → (text trace : List ℕ) → Type 0
Alone Judges input judgement text trace = Judges input judgement text × (trace ≡ [])

abbrev pub Says : Command → NetTold → List ℕ → Judgement → (text trace : List ℕ) → Type 0
Says Decode net = Alone SaysDecoded
Says Encode net = Alone (OfText SaysEncoded)
Says Describe net = Alone (OfText SaysDescribed)
Says Reference net = Alone (OfText SaysReference)
Says Talk net = Alone (OfText SaysTalk)
Says Run net = SaysRun net
Says Replay net = Alone SaysReplay
Says (Soak number) net = Alone (SaysSoak number net)
Says (Conform name) net = Alone (SaysConform name.now)

-- why a command says nothing: only one that runs a scenario has another reason than want of memory
abbrev pub Stops : Command → (input : List ℕ) → (before now : ℕ) → Unsaid → Type 0
Stops Run input before now reason = StopsRun input before now reason
Stops (Soak number) input before now reason = StopsRun input before now reason
Stops _ input before now reason = (reason ≡ OutOfMemory) × (now ≡ before)
