-- Numbers as words.
use Rattle.std.specs.Prelude.{ℕ, ℤ, pos, neg_ℤ, drop, ◌-◌, ◌^◌, Bool, ◌&&◌, ◌==◌, nat_lt, nat_le, List, length, slice_index, if◌then◌else◌, Option, Some, None, Result, Ok, Err}
use Rattle.std.specs.List.{list_all}
use Rattle.std.specs.Option.{option_and_then}
use Rattle.std.specs.Char.{is_ascii_digit}
use Rattle.std.specs.Str.Parse.{digits_value}
use Rattle.text_lines.specs.Causes.{◌>>=◌, or_why}
use Rattle.text_lines.specs.declared.reasons.TextWhy.{TextWhy}
use Rattle.text_lines.specs.declared.reasons.TextWhy.TheVariants.{BadNumber, Limit}

-- one to twenty decimal digits
abbrev pub decimal_number : List ℕ → Option ℕ
decimal_number w = if nat_lt 0 (length w) && nat_le (length w) 20 && list_all is_ascii_digit w then Some (digits_value 10 w) else None

-- a number from low to high
abbrev pub number_from : ℕ → ℕ → List ℕ → Result ℕ TextWhy
number_from low high w = do
  n ← or_why (decimal_number w) BadNumber
  if nat_le low n && nat_le n high then Ok n else Err Limit

-- the word begins with a minus sign
abbrev pub has_minus : List ℕ → Bool
has_minus w = slice_index w 0 == 45

-- a number, behind a minus sign where signed lets it
abbrev pub signed_number : Bool → List ℕ → Option ℤ
signed_number signed w = if signed && has_minus w
    then option_and_then (λ n. Some (neg_ℤ (pos n))) (decimal_number (drop 1 w))
    else option_and_then (λ n. Some (pos n)) (decimal_number w)

-- a signed number of 64 bits
abbrev pub int64 : List ℕ → Result ℤ TextWhy
int64 w = if has_minus w
    then (number_from 0 (2 ^ 63) (drop 1 w) >>= λ n. Ok (neg_ℤ (pos n)))
    else (number_from 0 (2 ^ 63 - 1) w >>= λ n. Ok (pos n))
