-- What reading, refusing and printing have in common.
use Rattle.std.specs.Prelude.{◌≡◌, ◌⊎◌, ℕ, List, Some}
use Rattle.pdu_layout.specs.Message.{Message, HasSpelling}
use Rattle.pdu_layout.specs.Table.{Row, row_of}
use Rattle.pdu_text.specs.Lines.{code_named}
use Rattle.pdu_text.specs.Printed.{line_of_message}
use Rattle.pdu_text.specs.Reading.{ReadsMessage}
use Rattle.pdu_text.specs.Refusals.{RefusedFor}
use Rattle.pdu_text.specs.declared.reasons.PduTextWhy.{PduTextWhy}

-- each text reads as a message or breaks some rule first
abbrev pub ReadsOrBreaks : Type 0
ReadsOrBreaks = (text : List ℕ) → ((p : Message) × ReadsMessage text p) ⊎ ((why : PduTextWhy) × RefusedFor text why)

-- no text does both
abbrev pub NeverBoth : Type 0
NeverBoth = (text : List ℕ) (p : Message) (why : PduTextWhy) → ReadsMessage text p → RefusedFor text why → ⊥

-- no text reads as two messages
abbrev pub OneMessage : Type 0
OneMessage = (text : List ℕ) (p q : Message) → ReadsMessage text p → ReadsMessage text q → p ≡ q

-- no text breaks two rules first
abbrev pub OneCause : Type 0
OneCause = (text : List ℕ) (v w : PduTextWhy) → RefusedFor text v → RefusedFor text w → v ≡ w

-- what a text reads as is a message with a spelling
abbrev pub SpelledMessages : Type 0
SpelledMessages = (text : List ℕ) (p : Message) → ReadsMessage text p → HasSpelling p

-- the line of a message that has a spelling reads as the message
abbrev pub PrintedReads : Type 0
PrintedReads = (p : Message) → HasSpelling p → ReadsMessage (line_of_message p) p

-- the name of a message names its type code, so no two messages have one name
abbrev pub NamesDiffer : Type 0
NamesDiffer = (code : ℕ) (row : Row) → row_of code ≡ Some row → code_named row.name ≡ Some code
