-- Words without blanks, in lines and texts.
use Rattle.std.proofs.Common.{◌≡◌, ◌≢◌, ℕ, ◌-◌, ◌<◌, Bool, true, false, ◌&&◌, cond, eqb, ltb, leb, List, [], ◌∷◌, ◌++◌, map, length, get_or, take, refl, ap, ◌∙◌, arith, ⊎_elim, append_assoc}
use Rattle.std.specs.Prelude.{All, filter}
use Rattle.std.specs.List.{list_all, slice_split, join_with_byte, flat_map}
use Rattle.std.specs.Str.{is_utf8}
use Rattle.std.specs.Str.Lines.{lines, lines_of_parts, strip_carriage_return}
use Rattle.std.proofs.str.Laws.{order}
use Rattle.std.proofs.lemmas.Bool.{false≢true}
use Rattle.std.proofs.lemmas.Bool.Decides.{nat_tests}
use Rattle.std.proofs.lemmas.List.{get_or_past}
use Rattle.std.proofs.lemmas.List.Sums.{AllPass-from_list_all}
use Rattle.std.proofs.lemmas.List.Folds.{list_all-append}
use Rattle.std.proofs.lemmas.List.Splits.{slice_split_at, slice_split_none, length-slice_split}
use Rattle.std.proofs.lemmas.Str.{IsUtf8-from_ascii, is_utf8-from_IsUtf8}
use Rattle.text_lines.specs.Texts.{is_blank, is_word, words}
use Rattle.text_lines.specs.Printed.{line_of}

-- a byte that is no blank and ends no line
abbrev pub is_plain_byte : ℕ → Bool
is_plain_byte b = leb 33 b && ltb b 128

abbrev pub is_plain : List ℕ → Bool
is_plain w = ltb 0 (length w) && list_all is_plain_byte w

-- a byte of a line of such words
abbrev pub is_line_byte : ℕ → Bool
is_line_byte b = leb 32 b && ltb b 128

pub and_both : (a b : Bool) → (a && b) ≡ true → (a ≡ true) × (b ≡ true)
and_both true true e = (refl, refl)
and_both true false e = absurd (false≢true e)
and_both false b e = absurd (false≢true e)

pub both : {a b : Bool} → a ≡ true → b ≡ true → (a && b) ≡ true
both {a} {b} e f = rw (e, f) refl

no_blank_byte : (b : ℕ) → is_plain_byte b ≡ true → (is_blank b ≡ false) × (is_line_byte b ≡ true)
no_blank_byte b e = (grind (arith, nat_tests), grind (arith, nat_tests))

no_end_byte : (b : ℕ) → is_line_byte b ≡ true → (eqb b 10 ≡ false) × (b ≢ 13) × (b < 128)
no_end_byte b e = (grind (arith, nat_tests), grind (arith, nat_tests), grind (arith, nat_tests))

pub all_by : (p q : ℕ → Bool) → ((b : ℕ) → p b ≡ true → q b ≡ true) → (xs : List ℕ) → list_all p xs ≡ true → list_all q xs ≡ true
all_by p q h [] e = refl
all_by p q h (x ∷ xs) e = let t = and_both (p x) (list_all p xs) e in both (h x t.0) (all_by p q h xs t.1)

pub all_index : (p : ℕ → Bool) (P : ℕ → Type 0) → ((b : ℕ) → p b ≡ true → P b) → (xs : List ℕ) → list_all p xs ≡ true → All P xs
all_index p P h xs e k d below = h _ (AllPass-from_list_all p xs e k d below)

no_blanks : (w : List ℕ) → is_plain w ≡ true → All (λ b. is_blank b ≡ false) w
no_blanks w e = all_index is_plain_byte (λ b. is_blank b ≡ false) (λ b h. (no_blank_byte b h).0) w (and_both _ _ e).1

-- the words of a joined line
pub split_joined : (w : List ℕ) (ws : List (List ℕ)) → list_all is_plain (w ∷ ws) ≡ true → slice_split is_blank (join_with_byte 32 (w ∷ ws)) ≡ w ∷ ws
split_joined w [] e = slice_split_none is_blank w (no_blanks w (and_both _ _ e).0)
split_joined w (v ∷ ws) e =
    let t = and_both (is_plain w) (list_all is_plain (v ∷ ws)) e in
    slice_split_at is_blank w 32 (join_with_byte 32 (v ∷ ws)) (no_blanks w t.0) refl ∙ ap (λ l. w ∷ l) (split_joined v ws t.1)

filter_words : (ws : List (List ℕ)) → list_all is_plain ws ≡ true → filter is_word ws ≡ ws
filter_words [] e = refl
filter_words (w ∷ ws) e =
    let t = and_both (is_plain w) (list_all is_plain ws) e in
    let some : is_word w ≡ true = (and_both _ _ t.0).0 in
    ap (λ b. cond b (w ∷ filter is_word ws) (filter is_word ws)) some ∙ ap (λ l. w ∷ l) (filter_words ws t.1)

pub words_joined : (w : List ℕ) (ws : List (List ℕ)) → list_all is_plain (w ∷ ws) ≡ true → words (join_with_byte 32 (w ∷ ws)) ≡ w ∷ ws
words_joined w ws e = ap (filter is_word) (split_joined w ws e) ∙ filter_words (w ∷ ws) e

-- its bytes
pub line_bytes : (ws : List (List ℕ)) → list_all is_plain ws ≡ true → list_all is_line_byte (join_with_byte 32 ws) ≡ true
line_bytes [] e = refl
line_bytes (w ∷ []) e = all_by is_plain_byte is_line_byte (λ b h. (no_blank_byte b h).1) w (and_both _ _ (and_both _ _ e).0).1
line_bytes (w ∷ v ∷ ws) e =
    let t = and_both (is_plain w) (list_all is_plain (v ∷ ws)) e in
    list_all-append is_line_byte w (32 ∷ join_with_byte 32 (v ∷ ws)) ∙ both (all_by is_plain_byte is_line_byte (λ b h. (no_blank_byte b h).1) w (and_both _ _ t.0).1) (line_bytes (v ∷ ws) t.1)

pub line_is_utf8 : (l : List ℕ) → list_all is_line_byte l ≡ true → is_utf8 l ≡ true
line_is_utf8 l e = is_utf8-from_IsUtf8 l (IsUtf8-from_ascii l (λ i. ⊎_elim (λ below. (no_end_byte _ (AllPass-from_list_all is_line_byte l e i 0 below)).2) (λ past. let z : get_or l i 0 ≡ 0 = get_or_past l i 0 past in omega arith) (order i (length l))))

last_byte : (l : List ℕ) → list_all is_line_byte l ≡ true → eqb (get_or l (length l - 1) 0) 13 ≡ false
last_byte l e = ⊎_elim (λ below. other _ (no_end_byte _ (AllPass-from_list_all is_line_byte l e (length l - 1) 0 below)).1) (λ past. let z : get_or l (length l - 1) 0 ≡ 0 = get_or_past l (length l - 1) 0 past in rw z refl) (order (length l - 1) (length l))
  where
    other : (b : ℕ) → b ≢ 13 → eqb b 13 ≡ false
    other b h = grind (arith, nat_tests)

whole_line : (l : List ℕ) → list_all is_line_byte l ≡ true → strip_carriage_return l ≡ l
whole_line l e = ap (λ b. cond b (take (length l - 1) l) l) (last_byte l e)

more_parts : (front : List ℕ) (parts : List (List ℕ)) → 0 < length parts → lines_of_parts (front ∷ parts) ≡ strip_carriage_return front ∷ lines_of_parts parts
more_parts front [] some = absurd (omega arith)
more_parts front (x ∷ more) some = refl

-- the lines of a text of such lines
pub lines_joined : (es : List (List (List ℕ))) → list_all (list_all is_plain) es ≡ true → lines (flat_map line_of es) ≡ map (join_with_byte 32) es
unfolding line_of
lines_joined [] e = refl
lines_joined (ws ∷ es) e =
    let t = and_both (list_all is_plain ws) (list_all (list_all is_plain) es) e in
    let l = join_with_byte 32 ws in
    let bytes = line_bytes ws t.0 in
    let rest = flat_map line_of es in
    let is_end : ℕ → Bool = λ b. eqb b 10 in
    let cut : slice_split is_end ((l ++ 10 ∷ []) ++ rest) ≡ l ∷ slice_split is_end rest =
    ap (slice_split is_end) (append_assoc l (10 ∷ []) rest) ∙ slice_split_at is_end l 10 rest (all_index is_line_byte (λ b. is_end b ≡ false) (λ b h. (no_end_byte b h).0) l bytes) refl in
    ap lines_of_parts cut ∙ more_parts l (slice_split is_end rest) (omega (arith, length-slice_split is_end rest)) ∙ ap (λ x. x ∷ lines rest) (whole_line l bytes) ∙ ap (λ x. l ∷ x) (lines_joined es t.1)
