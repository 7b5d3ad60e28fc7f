-- Words of digits.
use Rattle.std.proofs.Common.{◌≡◌, ℕ, ◌-◌, ◌<◌, ◌≤◌, true, List, length, get_or, arith}
use Rattle.std.specs.Char.{is_ascii_digit, digit_value}
use Rattle.std.specs.List.{list_all}
use Rattle.std.proofs.lemmas.List.Sums.{AllPass-from_list_all}
use Rattle.std.proofs.lemmas.Bool.Decides.{nat_tests}

digit_byte : (c : ℕ) → is_ascii_digit c ≡ true → (48 ≤ c) × (c ≤ 57) × (digit_value c ≡ c - 48)
digit_byte c h = grind (arith, nat_tests)

pub digit_at : (w : List ℕ) (i : ℕ) → list_all is_ascii_digit w ≡ true → i < length w → (48 ≤ get_or w i 0) × (get_or w i 0 ≤ 57) × (digit_value (get_or w i 0) ≡ get_or w i 0 - 48)
digit_at w i all below = digit_byte _ (AllPass-from_list_all is_ascii_digit w all i 0 below)
