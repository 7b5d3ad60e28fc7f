-- A line of a text is itself a text of this one line, so that its words are those of its first line.
use Rattle.std.proofs.Common.{◌≡◌, ℕ, zero, suc, ◌-◌, Bool, true, false, cond, eqb, List, [], ◌∷◌, length, take, refl, ap, ◌∙◌, arith}
use Rattle.std.specs.Prelude.{slice_index}
use Rattle.std.specs.List.{AllByRecursion, slice_split, onto_first}
use Rattle.std.specs.Str.Lines.{lines, lines_of_parts}
use Rattle.std.proofs.lemmas.Bool.Decides.{nat_tests}
use Rattle.std.proofs.lemmas.List.Elements.{All-from_recursion}
use Rattle.std.proofs.lemmas.List.Splits.{slice_split_none}
use Rattle.text_lines.specs.Texts.{words}
use Rattle.pdu_text.specs.Lines.{leading_word, first_words}

-- the byte that ends a line
abbrev is_feed : ℕ → Bool
is_feed b = eqb b 10

-- no byte of the line ends a line
abbrev pub IsLine : List ℕ → Type 0
IsLine line = AllByRecursion (λ b. is_feed b ≡ false) line

abbrev pub AreLines : List (List ℕ) → Type 0
AreLines ls = AllByRecursion IsLine ls

begun : (x : ℕ) (parts : List (List ℕ)) → is_feed x ≡ false → AreLines parts → AreLines (onto_first x parts)
begun x [] e h = ((e, tt), tt)
begun x (part ∷ parts) e h = ((e, h.0), h.1)

part_more : (x : ℕ) (b : Bool) (parts : List (List ℕ)) → is_feed x ≡ b → AreLines parts → AreLines (cond b ([] ∷ parts) (onto_first x parts))
part_more x true parts e h = (tt, h)
part_more x false parts e h = begun x parts e h

parts_are : (text : List ℕ) → AreLines (slice_split is_feed text)
parts_are [] = (tt, tt)
parts_are (x ∷ text) = part_more x (is_feed x) (slice_split is_feed text) refl (parts_are text)

taken : (n : ℕ) (line : List ℕ) → IsLine line → IsLine (take n line)
taken zero line h = tt
taken (suc n) [] h = tt
taken (suc n) (b ∷ line) h = (h.0, taken n line h.1)

stripped : (b : Bool) (line : List ℕ) → IsLine line → IsLine (cond b (take (length line - 1) line) line)
stripped true line h = taken (length line - 1) line h
stripped false line h = h

last_part : (b : Bool) (part : List ℕ) → IsLine part → AreLines (cond b [] (part ∷ []))
last_part true part h = tt
last_part false part h = (h, tt)

of_parts : (parts : List (List ℕ)) → AreLines parts → AreLines (lines_of_parts parts)
of_parts [] h = tt
of_parts (part ∷ []) h = last_part (eqb (length part) 0) part h.0
of_parts (part ∷ next ∷ more) h = (stripped (eqb (slice_index part (length part - 1)) 13) part h.0, of_parts (next ∷ more) h.1)

-- the lines of a text
pub are_lines : (text : List ℕ) → AreLines (lines text)
are_lines text = of_parts (slice_split is_feed text) (parts_are text)

not_empty : (n : ℕ) → eqb (suc n) 0 ≡ false
not_empty n = grind (arith, nat_tests)

alone : (line : List ℕ) → words (leading_word (lines_of_parts (line ∷ []))) ≡ words line
alone [] = refl
alone (b ∷ line) = ap (λ (none : Bool). words (leading_word (cond none [] ((b ∷ line) ∷ [])))) (not_empty (length line))

-- the words of a line are those of the first line of it
pub one_line : (line : List ℕ) → IsLine line → first_words line ≡ words line
one_line line h =
    ap (λ (parts : List (List ℕ)). words (leading_word (lines_of_parts parts))) (slice_split_none is_feed line (All-from_recursion (λ b. is_feed b ≡ false) line h))
    ∙ alone line
