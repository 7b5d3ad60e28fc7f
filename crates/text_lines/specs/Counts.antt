-- The words after a key, by their number.
use Rattle.std.specs.Prelude.{ℕ, List, [], ◌∷◌, Result, Ok, Err}
use Rattle.text_lines.specs.declared.reasons.TextWhy.{TextWhy}
use Rattle.text_lines.specs.declared.reasons.TextWhy.TheVariants.{Words}

abbrev pub one_word : List (List ℕ) → Result (List ℕ) TextWhy
one_word (w ∷ []) = Ok w
one_word _ = Err Words

abbrev pub two_words : List (List ℕ) → Result (List ℕ × List ℕ) TextWhy
two_words (v ∷ w ∷ []) = Ok (v, w)
two_words _ = Err Words

abbrev pub three_words : List (List ℕ) → Result (List ℕ × List ℕ × List ℕ) TextWhy
three_words (u ∷ v ∷ w ∷ []) = Ok (u, v, w)
three_words _ = Err Words

abbrev pub four_words : List (List ℕ) → Result (List ℕ × List ℕ × List ℕ × List ℕ) TextWhy
four_words (t ∷ u ∷ v ∷ w ∷ []) = Ok (t, u, v, w)
four_words _ = Err Words
