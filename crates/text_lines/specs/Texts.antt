-- The words of a line. Its lines are those of `lines`, on any bytes: a line feed ends a line, a carriage return before it is dropped, and the last line may lack it.
use Rattle.std.specs.Prelude.{ℕ, Bool, true, ◌||◌, ◌==◌, nat_lt, List, [], ◌∷◌, length, filter, slice_index}
use Rattle.std.specs.List.{slice_split}

-- a space or a tab
abbrev pub is_blank : ℕ → Bool
is_blank b = (b == 32) || (b == 9)

-- some byte stands between the blanks
abbrev pub is_word : List ℕ → Bool
is_word w = nat_lt 0 (length w)

-- the words of a line
abbrev pub words : List ℕ → List (List ℕ)
words line = filter is_word (slice_split is_blank line)

-- a line without words, or with a comment
abbrev pub is_skipped : List (List ℕ) → Bool
is_skipped [] = true
is_skipped (w ∷ ws) = slice_index w 0 == 35
