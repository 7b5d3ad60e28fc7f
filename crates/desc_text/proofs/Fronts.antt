-- Numbers, read one after another.
use Rattle.std.proofs.Common.{ℤ, List, ◌++◌, Result, Ok}
use Rattle.text_lines.specs.Causes.{◌>>=◌}
use Rattle.text_lines.specs.declared.reasons.TextWhy.{TextWhy}

abbrev pub with_front : List ℤ → Result (List ℤ) TextWhy → Result (List ℤ) TextWhy
with_front front rest = rest >>= λ x. Ok (front ++ x)
