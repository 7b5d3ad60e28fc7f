-- How the code finds the message with a name: it goes through all type codes that a byte can be.
use Rattle.std.specs.Prelude.{ℕ, zero, suc, ◌+◌, Bool, false, List, if◌then◌else◌, Option, Some, None}
use Rattle.std.specs.Str.{bytes_eq}
use Rattle.pdu_layout.specs.Table.{Row, row_of}

abbrev pub has_name : Option Row → List ℕ → Bool
has_name None w = false
has_name (Some row) w = bytes_eq w row.name

-- the message with this type code has this name
unfoldable pub is_named : ℕ → List ℕ → Bool
is_named code w = has_name (row_of code) w

-- the first of so many type codes, from this one on, whose message has this name
unfoldable pub code_among : ℕ → ℕ → List ℕ → Option ℕ
code_among zero code w = None
code_among (suc n) code w = if is_named code w then Some code else code_among n (code + 1) w
