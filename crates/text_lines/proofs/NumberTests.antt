-- What a test of numbers says, and what it answers.
use Rattle.std.proofs.Common.{◌≡◌, ℕ, ◌<◌, ◌≤◌, true, false, eqb, ltb, arith}
use Rattle.std.proofs.lemmas.Bool.Decides.{nat_tests}

pub equal_numbers : (m n : ℕ) → eqb m n ≡ true → m ≡ n
equal_numbers m n e = grind (arith, nat_tests)

pub is_equal : (m n : ℕ) → m ≡ n → eqb m n ≡ true
is_equal m n e = grind (arith, nat_tests)

pub not_above : (m n : ℕ) → ltb m n ≡ false → n ≤ m
not_above m n e = grind (arith, nat_tests)

pub is_below : (m n : ℕ) → m < n → ltb m n ≡ true
is_below m n e = grind (arith, nat_tests)
