-- Addresses as words.
use Rattle.std.specs.Prelude.{ℕ, ◌+◌, ◌*◌, ◌==◌, nat_le, List, [], ◌∷◌, if◌then◌else◌, Option, Some, None, Result, Ok, Err}
use Rattle.std.specs.List.{slice_split}
use Rattle.std.specs.Option.{option_and_then}
use Rattle.dcp_types.specs.declared.addresses.Address.{Address}
use Rattle.text_lines.specs.Causes.{◌>>=◌, or_why}
use Rattle.text_lines.specs.Numbers.{decimal_number, number_from}
use Rattle.text_lines.specs.Counts.{two_words}
use Rattle.text_lines.specs.declared.reasons.TextWhy.{TextWhy}
use Rattle.text_lines.specs.declared.reasons.TextWhy.TheVariants.{BadNumber}

-- a number from 0 to 255
abbrev pub ip_part : List ℕ → Option ℕ
ip_part w = option_and_then (λ n. if nat_le n 255 then Some n else None) (decimal_number w)

-- four of them, the first the most significant
abbrev pub ip_of_parts : List (List ℕ) → Result ℕ TextWhy
ip_of_parts (a ∷ b ∷ c ∷ d ∷ []) = do
  a ← or_why (ip_part a) BadNumber
  b ← or_why (ip_part b) BadNumber
  c ← or_why (ip_part c) BadNumber
  d ← or_why (ip_part d) BadNumber
  Ok (((a * 256 + b) * 256 + c) * 256 + d)
ip_of_parts _ = Err BadNumber

-- with dots between them
abbrev pub ip : List ℕ → Result ℕ TextWhy
ip w = ip_of_parts (slice_split (λ b. b == 46) w)

-- an ip and a port
abbrev pub address : List (List ℕ) → Result Address TextWhy
address args = do
  w ← two_words args
  ip ← ip w.0
  port ← number_from 1 65535 w.1
  Ok (record { ip = ip; port = port })
