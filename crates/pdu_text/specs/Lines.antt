-- The one line of a text, and the message that its first word names.
use Rattle.std.specs.Prelude.{ℕ, Bool, nat_lt, List, [], ◌∷◌, length, drop, if◌then◌else◌, Option, Some, None}
use Rattle.std.specs.List.{list_any}
use Rattle.std.specs.Str.{bytes_eq}
use Rattle.std.specs.Str.Lines.{lines}
use Rattle.text_lines.specs.Texts.{words}
use Rattle.pdu_layout.specs.Table.{Row, table}

abbrev pub leading_word : List (List ℕ) → List ℕ
leading_word [] = []
leading_word (l ∷ ls) = l

-- the words of line 1
abbrev pub first_words : List ℕ → List (List ℕ)
first_words text = words (leading_word (lines text))

abbrev pub has_words : List ℕ → Bool
has_words line = nat_lt 0 (length (words line))

-- a later line has a word
abbrev pub goes_on : List ℕ → Bool
goes_on text = list_any has_words (drop 1 (lines text))

-- the type code of the first row with this name
abbrev pub code_in_rows : List Row → List ℕ → Option ℕ
code_in_rows [] w = None
code_in_rows (row ∷ rows) w = if bytes_eq w row.name then Some row.code else code_in_rows rows w

-- the type code of the message with this name
unfoldable pub code_named : List ℕ → Option ℕ
code_named w = code_in_rows table w
