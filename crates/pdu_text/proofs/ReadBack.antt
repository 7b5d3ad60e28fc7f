-- The printed line of a message reads as the message.
use Rattle.std.proofs.Common.{◌≡◌, ◌⊎◌, inl, inr, ⊎_elim, ℕ, suc, ◌+◌, ◌-◌, ◌<◌, ◌≤◌, Bool, true, false, ◌&&◌, cond, ltb, leb, eqb, not, List, [], ◌∷◌, ◌++◌, length, take, drop, get_or, Option, Some, None, Result, Ok, refl, sym, ap, ◌∙◌, subst, arith, append-nil, append_assoc, length-append}
use Rattle.std.specs.List.{list_all, list_any, position, position_or_len, join_with_byte}
use Rattle.std.specs.Option.{option_and_then}
use Rattle.std.specs.Str.{bytes_eq, is_utf8}
use Rattle.std.specs.Str.Lines.{lines}
use Rattle.std.proofs.str.Laws.{order}
use Rattle.std.proofs.Math.Seq.{take-append_seam, drop-append-add, get_or-append_seam}
use Rattle.std.proofs.lemmas.Bool.{false≢true, eqb-true}
use Rattle.std.proofs.lemmas.Bool.Decides.{nat_tests}
use Rattle.std.proofs.lemmas.List.{get_or_append_left, get_or_past}
use Rattle.std.proofs.lemmas.List.Folds.{list_all-append}
use Rattle.std.proofs.lemmas.List.Sums.{AllPass-from_list_all, position_or_len_is}
use Rattle.std.proofs.lemmas.Slice.Eq.{bytes_eq-Decides}
use Rattle.std.proofs.lemmas.Str.{IsUtf8-from_ascii, is_utf8-from_IsUtf8}
use Rattle.text_lines.specs.Texts.{words}
use Rattle.text_lines.specs.Printed as printed
use Rattle.text_lines.proofs.PlainWords.{is_plain_byte, is_plain, is_line_byte, and_both, both, all_by, words_joined, line_bytes, lines_joined}
use Rattle.pdu_layout.specs.declared.fields.FieldKind.{FieldKind}
use Rattle.pdu_layout.specs.declared.fields.FieldKind.TheVariants.{Rest}
use Rattle.pdu_layout.specs.Fields.{FieldValue, Fits, FitEach, bytes_of, type_after, spelled}
use Rattle.pdu_layout.specs.Fields.FieldValue.{Number, Signed, Bytes}
use Rattle.pdu_layout.specs.Table.{FieldRow, Row, table, row_in, row_of, kinds_in}
use Rattle.pdu_layout.specs.Message.{Message, HasSpelling}
use Rattle.pdu_text.specs.Reasons.{◌>>=◌, or_why}
use Rattle.pdu_text.specs.Words.{value_said, text_behind, word_said, type_said}
use Rattle.pdu_text.specs.Lines.{leading_word, has_words, code_named}
use Rattle.pdu_text.specs.Printed.{value_text, fields_text, printed_row, line_of_message}
use Rattle.pdu_text.specs.Reading.{SayEach, ReadsMessage}
use Rattle.pdu_text.specs.declared.reasons.PduTextWhy.{PduTextWhy}
use Rattle.pdu_text.specs.declared.reasons.PduTextWhy.TheVariants as why
use Rattle.pdu_text.proofs.Fitting.{stands, kinds, Room}
use Rattle.pdu_text.proofs.ReadBackValues.{are_plain, value_back, less}

-- ---- the names of the table

-- a byte that may stand in a name
abbrev is_name_byte : ℕ → Bool
is_name_byte b = is_plain_byte b && not (eqb b 61)

abbrev has_name : FieldRow → Bool
has_name f = list_all is_name_byte f.name

is_code : Option ℕ → ℕ → Bool
is_code None n = false
is_code (Some m) n = eqb m n

-- the name is a word, and names this row and no earlier one
abbrev is_told : Row → Bool
is_told row = is_plain row.name && list_all has_name row.fields && is_code (code_named row.name) row.code

table_told : list_all is_told table ≡ true
unfolding is_code code_named
table_told = refl

code_is : (o : Option ℕ) (n : ℕ) → is_code o n ≡ true → o ≡ Some n
unfolding is_code
code_is None n h = absurd (false≢true h)
code_is (Some m) n h = ap (λ k. Some k) (eqb-true m n h)

picked : (b : Bool) (r row : Row) (o : Option Row) → cond b (Some r) o ≡ Some row → ((b ≡ true) × (r ≡ row)) ⊎ (o ≡ Some row)
picked true r row o e = inl (refl, cc)
picked false r row o e = inr e

found_in : (rows : List Row) (code : ℕ) (row : Row) → row_in rows code ≡ Some row → list_all is_told rows ≡ true → (is_told row ≡ true) × (row.code ≡ code)
found_in [] code row e h = cc
found_in (r ∷ rows) code row e h =
    let t = and_both (is_told r) (list_all is_told rows) h in
    ⊎_elim (λ here. subst (λ (q : Row). (is_told q ≡ true) × (q.code ≡ code)) here.1 (t.0, eqb-true r.code code here.0)) (λ later. found_in rows code row later t.1) (picked (eqb r.code code) r row (row_in rows code) e)

-- the name of a message names its type code
pub named_back : (code : ℕ) (row : Row) → row_of code ≡ Some row → code_named row.name ≡ Some code
named_back code row listed =
    let f = found_in table code row listed table_told in
    let t = and_both (is_plain row.name && list_all has_name row.fields) (is_code (code_named row.name) row.code) f.0 in
    code_is (code_named row.name) row.code t.1 ∙ ap (λ k. Some k) f.1

listed_row : (o : Option Row) (ks : List FieldKind) → kinds_in o ≡ Some ks → (row : Row) × (o ≡ Some row) × (kinds row.fields ≡ ks)
listed_row None ks e = cc
listed_row (Some row) ks e = (row, refl, cc)

-- ---- one field

name_byte : (b : ℕ) → is_name_byte b ≡ true → (is_plain_byte b ≡ true) × (eqb b 61 ≡ false)
name_byte b h = let t = and_both (is_plain_byte b) (not (eqb b 61)) h in (t.0, other (eqb b 61) t.1)
  where
    other : (c : Bool) → not c ≡ true → c ≡ false
    other true e = absurd (false≢true e)
    other false e = refl

at_most : (m n : ℕ) → m ≤ n → leb m n ≡ true
at_most m n h = grind (arith, nat_tests)

abbrev is_equals : ℕ → Bool
is_equals b = eqb b 61

-- what stands behind the name of a field
text_back : (name x : List ℕ) → list_all is_name_byte name ≡ true → text_behind name (name ++ (61 ∷ x)) ≡ Some x
text_back name x h =
    let w = name ++ (61 ∷ x) in
    let longer : length name < length w = omega (arith, length-append name (61 ∷ x)) in
    let place : position_or_len is_equals w ≡ length name =
    position_or_len_is is_equals w (length name) 0 (omega (arith, longer)) (λ k below. ap is_equals (get_or_append_left name (61 ∷ x) 0 k below) ∙ (name_byte _ (AllPass-from_list_all is_name_byte name h k 0 below)).1) (λ _. ap is_equals (get_or-append_seam name 61 x 0)) in
    let found : position is_equals w ≡ Some (length name) =
    ap (λ (k : ℕ). cond (ltb k (length w)) (Some k) None) place ∙ ap (λ (b : Bool). cond b (Some (length name)) None) (less (length name) (length w) longer) in
    let same : bytes_eq (take (length name) w) name ≡ true = (bytes_eq-Decides (take (length name) w) name).1 (take-append_seam name (61 ∷ x)) in
    ap (option_and_then (λ at. cond (bytes_eq (take at w) name) (Some (drop (at + 1) w)) None)) found ∙ ap (λ (b : Bool). cond b (Some (drop (length name + 1) w)) None) same ∙ ap (λ (l : List ℕ). Some l) (drop-append-add name (61 ∷ x) 1)

-- a field's word
abbrev word : FieldRow → FieldValue → List ℕ
word f v = f.name ++ (61 ∷ value_text f.kind v)

field_back : (f : FieldRow) (t : ℕ) (v : FieldValue) → has_name f ≡ true → Fits f.kind t v → word_said f t (word f v) ≡ Ok v
unfolding word_said
field_back f t v named fits =
    ap (λ (o : Option (List ℕ)). or_why o why.UnknownKey >>= λ text. value_said f.kind t text) (text_back f.name (value_text f.kind v) named)
    ∙ (value_back f.kind t v fits).said

plain_word : (f : FieldRow) (t : ℕ) (v : FieldValue) → has_name f ≡ true → Fits f.kind t v → is_plain (word f v) ≡ true
plain_word f t v named fits =
    let x = value_text f.kind v in
    let bytes : are_plain (word f v) ≡ true = list_all-append is_plain_byte f.name (61 ∷ x) ∙ both {a = are_plain f.name} {b = are_plain (61 ∷ x)} (all_by is_name_byte is_plain_byte (λ b h. (name_byte b h).0) f.name named) (value_back f.kind t v fits).plain in
    both (less 0 (length (word f v)) (omega (arith, length-append f.name (61 ∷ x)))) bytes

-- ---- all fields

given : List FieldRow → List FieldValue → List (List ℕ)
given [] vs = []
given (f ∷ fs) [] = []
given (f ∷ fs) (v ∷ vs) = word f v ∷ given fs vs

-- the words are plain and say the values
fields_back : (fs : List FieldRow) (t : ℕ) (vs : List FieldValue) → list_all has_name fs ≡ true → FitEach (kinds fs) t vs → SayEach fs t (given fs vs) vs × (list_all is_plain (given fs vs) ≡ true)
unfolding given
fields_back [] t [] named r = (tt, refl)
fields_back [] t (v ∷ vs) named r = absurd r
fields_back (f ∷ fs) t [] named r = absurd r
fields_back (f ∷ fs) t (v ∷ vs) named r =
    let n = and_both (has_name f) (list_all has_name fs) named in
    let here = stands f.kind t v r.0 in
    let others = fields_back fs (type_said f.kind t v) vs n.1 (subst (λ (u : ℕ). FitEach (kinds fs) u vs) here.type r.1) in
    ((field_back f t v n.0 r.0, others.0), both (plain_word f t v n.0 r.0) others.1)

-- ---- the line

-- the line as its words
line_words : (w : List ℕ) (fs : List FieldRow) (vs : List FieldValue) → w ++ fields_text fs vs ≡ printed.line_of (w ∷ given fs vs)
unfolding given printed.line_of
line_words w [] vs = refl
line_words w (f ∷ fs) [] = refl
line_words w (f ∷ fs) (v ∷ vs) =
    ap (λ (l : List ℕ). w ++ (32 ∷ l)) (sym (append_assoc f.name (61 ∷ value_text f.kind v) (fields_text fs vs)) ∙ line_words (word f v) fs vs) ∙ sym (append_assoc w (32 ∷ join_with_byte 32 (word f v ∷ given fs vs)) (10 ∷ []))

abbrev is_text_byte : ℕ → Bool
is_text_byte b = ltb b 128

text_is_utf8 : (l : List ℕ) → list_all is_text_byte l ≡ true → is_utf8 l ≡ true
text_is_utf8 l e = is_utf8-from_IsUtf8 l (IsUtf8-from_ascii l (λ i. ⊎_elim (λ below. small _ (AllPass-from_list_all is_text_byte l e i 0 below)) (λ past. let z : get_or l i 0 ≡ 0 = get_or_past l i 0 past in omega arith) (order i (length l))))
  where
    small : (b : ℕ) → is_text_byte b ≡ true → b < 128
    small b h = grind (arith, nat_tests)

utf8_line : (ws : List (List ℕ)) → list_all is_plain ws ≡ true → is_utf8 (printed.line_of ws) ≡ true
unfolding printed.line_of
utf8_line ws h =
    let l = join_with_byte 32 ws in
    text_is_utf8 (l ++ 10 ∷ []) (list_all-append is_text_byte l (10 ∷ []) ∙ both {a = list_all is_text_byte l} {b = list_all is_text_byte (10 ∷ [])} (all_by is_line_byte is_text_byte (λ b h. (and_both (leb 32 b) (ltb b 128) h).1) l (line_bytes ws h)) refl)

one_line : (ws : List (List ℕ)) → list_all is_plain ws ≡ true → lines (printed.line_of ws) ≡ join_with_byte 32 ws ∷ []
one_line ws h = ap lines (sym (append-nil (printed.line_of ws))) ∙ lines_joined (ws ∷ []) (both h refl)

-- ---- the message

words_read : (p : Message) (row : Row) → row_of p.code ≡ Some row → FitEach (kinds row.fields) 0 p.values → HasSpelling p → ReadsMessage (printed.line_of (row.name ∷ given row.fields p.values)) p
words_read p row listed fit spelling =
    let ws = row.name ∷ given row.fields p.values in
    let f = found_in table p.code row listed table_told in
    let t = and_both (is_plain row.name && list_all has_name row.fields) (is_code (code_named row.name) row.code) f.0 in
    let n = and_both (is_plain row.name) (list_all has_name row.fields) t.0 in
    let each = fields_back row.fields 0 p.values n.1 fit in
    let plain = both n.0 each.1 in
    let cut = one_line ws plain in
    record {
      name = row.name;
      given = given row.fields p.values;
      row = row;
      utf8 = utf8_line ws plain;
      line = ap (λ (ls : List (List ℕ)). words (leading_word ls)) cut ∙ words_joined row.name (given row.fields p.values) plain;
      named = code_is (code_named row.name) row.code t.1 ∙ ap (λ k. Some k) f.1;
      listed = listed;
      said = each.0;
      spelled = spelling;
      alone = ap (λ (ls : List (List ℕ)). list_any has_words (drop 1 ls)) cut;
    }

-- what is printed of a message that has a spelling reads as the message
pub printed_reads : (p : Message) → HasSpelling p → ReadsMessage (line_of_message p) p
unfolding line_of_message
printed_reads p h =
    let s = h.1 in
    let r = listed_row (row_of p.code) s.kinds s.listed in
    let row = r.0 in
    let fit : FitEach (kinds row.fields) 0 p.values = subst (λ ks. FitEach ks 0 p.values) (sym r.2) s.fits in
    let text : line_of_message p ≡ printed.line_of (row.name ∷ given row.fields p.values) = ap (λ (o : Option Row). printed_row o p.values) r.1 ∙ line_words row.name row.fields p.values in
    subst (λ (l : List ℕ). ReadsMessage l p) (sym text) (words_read p row r.1 fit h)
