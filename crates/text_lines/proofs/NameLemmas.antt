-- Names are ASCII.
use Rattle.std.proofs.Common.{◌≡◌, ℕ, ◌<◌, ◌≤◌, Bool, true, false, ◌&&◌, List, [], ◌∷◌, length, slice_index, ltb, leb, get_or, IsUtf8, arith, ⊎_elim}
use Rattle.std.proofs.lemmas.List.{get_or_past}
use Rattle.std.specs.List.{list_all}
use Rattle.std.specs.Str.{IsAscii}
use Rattle.std.proofs.str.Laws.{order}
use Rattle.std.proofs.lemmas.Bool.{false≢true}
use Rattle.std.proofs.lemmas.Bool.Decides.{nat_tests}
use Rattle.std.proofs.lemmas.List.Sums.{AllPass-from_list_all}
use Rattle.std.proofs.lemmas.Str.{IsUtf8-from_ascii}
use Rattle.std.specs.Char.{is_ascii_alphabetic}
use Rattle.text_lines.proofs.PlainWords.{is_plain, is_plain_byte, both, and_both, all_by}
use Rattle.dcp_types.specs.Names.{is_name_byte, is_name}

name_byte : (b : ℕ) → is_name_byte b ≡ true → (33 ≤ b) × (b < 128)
name_byte b e = grind (arith, nat_tests)

pub name_bytes : (w : List ℕ) → list_all is_name_byte w ≡ true → (i : ℕ) (d : ℕ) → i < length w → (33 ≤ get_or w i d) × (get_or w i d < 128)
name_bytes w all i d below = name_byte _ (AllPass-from_list_all is_name_byte w all i d below)

ascii : (w : List ℕ) → list_all is_name_byte w ≡ true → IsAscii w
ascii w all i = ⊎_elim (λ below. (name_bytes w all i 0 below).1) (λ past. let e : get_or w i 0 ≡ 0 = get_or_past w i 0 past in omega arith) (order i (length w))

and_last : (a b : Bool) → (a && b) ≡ true → b ≡ true
and_last true b e = e
and_last false b e = absurd (false≢true e)

pub name_is_utf8 : (w : List ℕ) → is_name w ≡ true → IsUtf8 w
name_is_utf8 w e = IsUtf8-from_ascii w (ascii w (and_last _ _ e))

name_plain_byte : (b : ℕ) → is_name_byte b ≡ true → is_plain_byte b ≡ true
name_plain_byte b e = grind (arith, nat_tests)

some_letter : (w : List ℕ) → is_ascii_alphabetic (slice_index w 0) ≡ true → ltb 0 (length w) ≡ true
some_letter [] e = cc
some_letter (x ∷ xs) e = grind (arith, nat_tests)

pub plain_name : (w : List ℕ) → is_name w ≡ true → is_plain w ≡ true
plain_name w e =
    let t = and_both (is_ascii_alphabetic (slice_index w 0) && leb (length w) 32) (list_all is_name_byte w) e in
    let u = and_both (is_ascii_alphabetic (slice_index w 0)) (leb (length w) 32) t.0 in
    both (some_letter w u.0) (all_by is_name_byte is_plain_byte name_plain_byte w t.1)
