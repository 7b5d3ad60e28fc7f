-- Which rule a text breaks first, word by word from the left.
use Rattle.std.specs.Prelude.{◌≡◌, ◌⊎◌, ℕ, ◌-◌, Bool, true, MatchBool, List, [], ◌∷◌, Option, Some, None, Ok, Err}
use Rattle.std.specs.Str.{is_utf8}
use Rattle.pdu_layout.specs.Fields.{FieldValue}
use Rattle.pdu_layout.specs.Table.{FieldRow, Row, row_of}
use Rattle.pdu_text.specs.Words.{field_said, size_of, type_said}
use Rattle.pdu_text.specs.Lines.{first_words, goes_on, code_named}
use Rattle.pdu_text.specs.declared.reasons.PduTextWhy.{PduTextWhy}
use Rattle.pdu_text.specs.declared.reasons.PduTextWhy.TheVariants.{NotUtf8, UnknownKey, Words}

-- The words break a rule of the fields: at the first field, or after its word has said its value. A word is missing or left over, or a later line has one.
abbrev pub Breaks : List FieldRow → ℕ → ℕ → Bool → List (List ℕ) → PduTextWhy → Type 0
Breaks [] room t more [] why = (more ≡ true) × (why ≡ Words)
Breaks [] room t more (w ∷ ws) why = why ≡ Words
Breaks (f ∷ fs) room t more [] why = why ≡ Words
Breaks (f ∷ fs) room t more (w ∷ ws) why = (field_said f room t w ≡ Err why)
    ⊎ ((v : FieldValue) × (field_said f room t w ≡ Ok v) × Breaks fs (room - size_of f.kind t v) (type_said f.kind t v) more ws why)

abbrev pub BreaksRow : Option Row → Bool → List (List ℕ) → PduTextWhy → Type 0
BreaksRow None more ws why = why ≡ UnknownKey
BreaksRow (Some row) more ws why = Breaks row.fields 1023 0 more ws why

abbrev pub BreaksCode : Option ℕ → Bool → List (List ℕ) → PduTextWhy → Type 0
BreaksCode None more ws why = why ≡ UnknownKey
BreaksCode (Some code) more ws why = BreaksRow (row_of code) more ws why

abbrev pub BreaksLine : Bool → List (List ℕ) → PduTextWhy → Type 0
BreaksLine more [] why = why ≡ Words
BreaksLine more (name ∷ ws) why = BreaksCode (code_named name) more ws why

-- the first rule that the text breaks
abbrev pub RefusedFor : List ℕ → PduTextWhy → Type 0
RefusedFor text why = MatchBool (is_utf8 text) (BreaksLine (goes_on text) (first_words text) why) (why ≡ NotUtf8)
