-- Names as words.
use Rattle.std.specs.Prelude.{ℕ, List, if◌then◌else◌, Result, Ok, Err}
use Rattle.dcp_types.specs.Names.{is_name}
use Rattle.text_lines.specs.declared.reasons.TextWhy.{TextWhy}
use Rattle.text_lines.specs.declared.reasons.TextWhy.TheVariants.{BadName}

abbrev pub name : List ℕ → Result (List ℕ) TextWhy
name w = if is_name w then Ok w else Err BadName
