-- The reading of a text word by word, as the code does it.
use Rattle.std.specs.Prelude.{◌≡◌, ℕ, ◌-◌, Bool, List, [], ◌∷◌, drop, if◌then◌else◌, Option, Some, None, Result, Ok, Err}
use Rattle.std.specs.List.{list_any}
use Rattle.std.specs.Str.{is_utf8}
use Rattle.std.specs.Str.Lines.{lines}
use Rattle.text_lines.specs.Texts.{words}
use Rattle.pdu_layout.specs.Fields.{FieldValue}
use Rattle.pdu_layout.specs.Table.{FieldRow, Row, row_of}
use Rattle.pdu_layout.specs.Message.{Message}
use Rattle.pdu_text.specs.Reasons.{◌>>=◌}
use Rattle.pdu_text.specs.Words.{field_said, size_of, type_said}
use Rattle.pdu_text.specs.Lines.{leading_word, has_words, code_named}
use Rattle.pdu_text.specs.declared.reasons.PduTextWhy.{PduTextWhy}
use Rattle.pdu_text.specs.declared.reasons.PduTextWhy.TheVariants as why

abbrev pub fields_said : List FieldRow → ℕ → ℕ → Bool → List (List ℕ) → Result (List FieldValue) PduTextWhy
fields_said [] room t more [] = if more then Err why.Words else Ok []
fields_said [] room t more (w ∷ ws) = Err why.Words
fields_said (f ∷ fs) room t more [] = Err why.Words
fields_said (f ∷ fs) room t more (w ∷ ws) = do
  value ← field_said f room t w
  others ← fields_said fs (room - size_of f.kind t value) (type_said f.kind t value) more ws
  Ok (value ∷ others)

abbrev pub row_said : Option Row → Bool → List (List ℕ) → Result (List FieldValue) PduTextWhy
row_said None more ws = Err why.UnknownKey
row_said (Some row) more ws = fields_said row.fields 1023 0 more ws

abbrev pub code_said : Option ℕ → Bool → List (List ℕ) → Result Message PduTextWhy
code_said None more ws = Err why.UnknownKey
code_said (Some code) more ws = do
  values ← row_said (row_of code) more ws
  Ok (record { code = code; values = values })

abbrev pub line_said : Bool → List (List ℕ) → Result Message PduTextWhy
line_said more [] = Err why.Words
line_said more (name ∷ ws) = code_said (code_named name) more ws

abbrev pub lines_said : List (List ℕ) → Result Message PduTextWhy
lines_said ls = line_said (list_any has_words (drop 1 ls)) (words (leading_word ls))

abbrev pub text_said : List ℕ → Result Message PduTextWhy
text_said text = if is_utf8 text then lines_said (lines text) else Err why.NotUtf8

-- Each word says the value of its field, and the bytes of all of them have room.
abbrev pub SayInRoom : List FieldRow → ℕ → ℕ → List (List ℕ) → List FieldValue → Type 0
SayInRoom [] room t [] [] = Unit {0}
SayInRoom (f ∷ fs) room t (w ∷ ws) (v ∷ vs) = (field_said f room t w ≡ Ok v) × SayInRoom fs (room - size_of f.kind t v) (type_said f.kind t v) ws vs
SayInRoom _ room t _ _ = ⊥
