-- What is said of a slave's entries before it is written.
use Rattle.std.specs.Prelude.{◌≡◌, ℕ, List}
use Rattle.conform.specs.declared.answers.Conformance.{Conformance}
use Rattle.conform.specs.declared.answers.Conformance.TheVariants.{Follows, Bad}
use Rattle.commands.specs.declared.said.Statement.{Statement}
use Rattle.commands.specs.declared.statuses.Judgement.TheVariants as judged
use Rattle.commands.specs.Said.{text_of}
use Rattle.commands.specs.SaysConform.{SaysConform, bad_entry_line, conforms_line}

-- the line of an answer
abbrev pub SaysAnswer : (name : List ℕ) → Conformance → Statement → Type 0
SaysAnswer name (Follows events) said = (said.judgement ≡ judged.Good) × (text_of said.text ≡ conforms_line name events)
SaysAnswer name (Bad at why) said = (said.judgement ≡ judged.Differs) × (text_of said.text ≡ bad_entry_line at why)

abbrev pub SaysOfSlave : (name input : List ℕ) → Statement → Type 0
SaysOfSlave name input said = SaysConform name input said.judgement (text_of said.text)
