-- The bytes of what is to be written.
use Rattle.std.specs.Prelude.{ℕ, List, codes}
use Rattle.commands.specs.declared.said.Text.{Text}
use Rattle.commands.specs.declared.said.Text.TheVariants.{Whole, PastLimit, Rows}
use Rattle.run_text.specs.Closings.{reference_text}

-- the line of a text that is longer than an input may be
abbrev pub past_limit : List ℕ
past_limit = codes "input: line 0 LIMIT\n"

abbrev pub text_of : Text → List ℕ
text_of (Whole bytes) = bytes.items
text_of PastLimit = past_limit
text_of (Rows steps reference) = reference_text steps reference.rows reference.fault
