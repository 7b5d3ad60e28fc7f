-- Identities as words, in any form that the crate `uuid` reads.
use Rattle.std.specs.Prelude.{ℕ, List, Result, Ok}
use Rattle.std.specs.Int.{w128, from_be_bytes}
use Rattle.uuid.specs.Text.{parsed}
use Rattle.text_lines.specs.Causes.{◌>>=◌, or_why}
use Rattle.text_lines.specs.declared.reasons.TextWhy.{TextWhy}
use Rattle.text_lines.specs.declared.reasons.TextWhy.TheVariants.{BadUuid}

abbrev pub identity : List ℕ → Result ℕ TextWhy
identity w = do
  bytes ← or_why (parsed w) BadUuid
  Ok (from_be_bytes w128 bytes)
