-- Names.
use Rattle.std.specs.Prelude.{ℕ, Bool, ◌&&◌, ◌||◌, ◌==◌, nat_le, List, length, slice_index}
use Rattle.std.specs.List.{list_all}
use Rattle.std.specs.Char.{is_ascii_digit, is_ascii_alphabetic}

-- a letter, a digit, `_` or `-`
abbrev pub is_name_byte : ℕ → Bool
is_name_byte b = is_ascii_alphabetic b || is_ascii_digit b || (b == 95) || (b == 45)

-- 1 to 32 of these, the first a letter
abbrev pub is_name : List ℕ → Bool
is_name w = is_ascii_alphabetic (slice_index w 0) && nat_le (length w) 32 && list_all is_name_byte w
