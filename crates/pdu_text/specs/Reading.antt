-- Which texts read as which message.
use Rattle.std.specs.Prelude.{◌≡◌, ℕ, true, false, List, [], ◌∷◌, Some, Ok}
use Rattle.std.specs.Str.{is_utf8}
use Rattle.pdu_layout.specs.Fields.{FieldValue}
use Rattle.pdu_layout.specs.Table.{FieldRow, Row, row_of}
use Rattle.pdu_layout.specs.Message.{Message, HasSpelling}
use Rattle.pdu_text.specs.Words.{word_said, type_said}
use Rattle.pdu_text.specs.Lines.{first_words, goes_on, code_named}

-- Each word says the value of its field.
abbrev pub SayEach : List FieldRow → ℕ → List (List ℕ) → List FieldValue → Type 0
SayEach [] t [] [] = Unit {0}
SayEach (f ∷ fs) t (w ∷ ws) (v ∷ vs) = (word_said f t w ≡ Ok v) × SayEach fs (type_said f.kind t v) ws vs
SayEach _ t _ _ = ⊥

-- The text is one line of words, the first names the message, and the others say what its fields hold, in their order; and the message has a spelling.
pub record ReadsMessage (text : List ℕ) (p : Message) : Type 0 where
  pub name : List ℕ
  pub given : List (List ℕ)
  pub row : Row
  pub utf8 : is_utf8 text ≡ true
  pub line : first_words text ≡ name ∷ given
  pub named : code_named name ≡ Some p.code
  pub listed : row_of p.code ≡ Some row
  pub said : SayEach row.fields 0 given p.values
  pub spelled : HasSpelling p
  pub alone : goes_on text ≡ false
