-- Writing one field after the other: what has been written, and what is left to write.
use Rattle.std.proofs.Common.{◌≡◌, ℕ, zero, suc, ◌+◌, ◌/◌, ◌%◌, ◌^◌, ◌<◌, ◌≤◌, List, [], ◌∷◌, ◌++◌, length, take, drop, set, reverse, refl, sym, ap, subst, ◌∙◌, arith}
use Rattle.std.specs.Int.{byte_at, bytes_high_first}
use Rattle.std.proofs.Math.Nat.{pow-suc, mul_comm, div-div-eq-div-mul}
use Rattle.std.proofs.lemmas.List.{append_assoc, append-nil, length-append, length-take, length-drop, take_at, drop_at, drop-drop, drop_all, reverse-append}
use Rattle.dcp_types.specs.Values.{digits}
use Rattle.pdu_layout.specs.declared.fields.FieldKind.{FieldKind}
use Rattle.std.specs.Prelude.{ℤ}
use Rattle.pdu_layout.specs.declared.fields.FieldKind.TheVariants.{Value}
use Rattle.pdu_layout.specs.declared.message_parts.FieldContent.{FieldContent}
use Rattle.pdu_layout.specs.declared.message_parts.FieldContent.TheVariants as contents
use Rattle.pdu_layout.specs.declared.message_parts.Parts.{Parts}
use Rattle.pdu_layout.specs.Parts.{value_of, values_of, AreParts}
use Rattle.pdu_layout.specs.Table.{kinds_of}
use Rattle.pdu_layout.specs.Message.{Message, Spells}
use Rattle.pdu_layout.proofs.Spellings.{kinds_listed}
use Rattle.pdu_layout.specs.Fields.{field_width, limit, Fits, bytes_of, type_after, spelled, FieldValue}
use Rattle.pdu_layout.specs.Ranges.{Fill}
use Rattle.pdu_layout.proofs.Contents.{length-number, length-signed, Judged, judged_start, judged_more, fit_here, size_here}

-- ---- the bytes of an identity

-- the highest digit stands last
digits-last : (w n : ℕ) → digits (suc w) n ≡ digits w n ++ (byte_at w n ∷ [])
unfolding digits
digits-last zero n = refl
digits-last (suc zero) n = refl
digits-last (suc (suc w)) n =
    let next : n / 256 / 256 ^ suc w ≡ n / 256 ^ suc (suc w) = div-div-eq-div-mul n 256 (256 ^ suc w) ∙ ap (λ (m : ℕ). n / m) (mul_comm 256 (256 ^ suc w) ∙ sym (pow-suc 256 (suc w))) in
    rw (digits-last (suc w) (n / 256)) (ap (λ (m : ℕ). n % 256 ∷ (digits (suc w) (n / 256) ++ (m % 256 ∷ []))) next)

pub high_first : (w n : ℕ) → bytes_high_first w n ≡ reverse (digits w n)
unfolding digits
high_first zero n = refl
high_first (suc w) n = ap (λ l. byte_at w n ∷ l) (high_first w n) ∙ sym (ap reverse (digits-last w n) ∙ reverse-append (digits w n) (byte_at w n ∷ []))

-- ---- one field

pub set_first : (n : ℕ) (room : List ℕ) → n < 256 → 1 ≤ length room → set room 0 n ≡ digits 1 n ++ drop 1 room
unfolding digits
set_first n [] lt e = absurd (omega arith)
set_first n (c ∷ room) lt e = let same : n % 256 ≡ n = omega arith in rw same refl

-- ---- all fields

pub record Written (kinds : List FieldKind) (values : List FieldValue) (t at i : ℕ) (code : ℕ) (old room : List ℕ) : Type 0 where
  pub judged : Judged kinds values t at i
  pub size : length room ≡ 1024
  pub bytes : take at room ++ spelled (drop i kinds) t (drop i values) ≡ code ∷ spelled kinds 0 values
  pub rest : drop at room ≡ drop at old

pub written_start : (kinds : List FieldKind) (values : List FieldValue) (code : ℕ) (old room : List ℕ) → length old ≡ 1024 → room ≡ set old 0 code → Written kinds values 0 1 0 code old room
written_start kinds values code [] room e w = absurd (omega arith)
written_start kinds values code (c ∷ old) room e w = subst (Written kinds values 0 1 0 code (c ∷ old)) (sym w) (record { judged = judged_start kinds values; size = omega (arith, e); bytes = refl; rest = refl })

module _ (kinds : List FieldKind) (values : List FieldValue) (t at i code : ℕ) (old room : List ℕ) (k : FieldKind) (v : FieldValue) (ks : drop i kinds ≡ k ∷ drop (i + 1) kinds) (vs : drop i values ≡ v ∷ drop (i + 1) values) (w : Written kinds values t at i code old room) (fill : Fill kinds values) where
  pub fits_now : Fits k t v
  fits_now = (fit_here kinds values t at i k v ks vs w.judged fill.0).0

  pub room_now : at + length (bytes_of k t v) ≤ 1024
  room_now = let small = fill.1 in omega (arith, w.judged.size, size_here kinds values t at i k v ks vs w.judged)

  pub written_more : (t' n : ℕ) (room' : List ℕ) → n ≡ length (bytes_of k t v) → t' ≡ type_after k t (bytes_of k t v) → room' ≡ take at room ++ (bytes_of k t v ++ drop n (drop at room)) → Written kinds values t' (at + n) (i + 1) code old room'
  written_more t' n room' en et er =
      let x = bytes_of k t v in
      let front : length (take at room) ≡ at = omega (arith, length-take at room, w.size, w.judged.at_most) in
      let whole : length (take at room ++ x) ≡ at + n = omega (arith, length-append (take at room) x, front, en) in
      let again : room' ≡ (take at room ++ x) ++ drop n (drop at room) = er ∙ sym (append_assoc (take at room) x (drop n (drop at room))) in
      let taken : take (at + n) room' ≡ take at room ++ x = ap (take (at + n)) again ∙ take_at (take at room ++ x) (drop n (drop at room)) (at + n) whole in
      let left : drop (at + n) room' ≡ drop n (drop at room) = ap (drop (at + n)) again ∙ drop_at (take at room ++ x) (drop n (drop at room)) (at + n) whole in
      let more = spelled (drop (i + 1) kinds) (type_after k t x) (drop (i + 1) values) in
      let here : spelled (drop i kinds) t (drop i values) ≡ x ++ more = ap (λ l. spelled l t (drop i values)) ks ∙ ap (λ l. spelled (k ∷ drop (i + 1) kinds) t l) vs in
      let judged : Judged kinds values t' (at + n) (i + 1) = subst (λ (m : ℕ). Judged kinds values t' (at + m) (i + 1)) (sym en) (judged_more kinds values t at i k v ks vs w.judged t' fits_now et room_now) in
      record {
        judged = judged;
        size = omega (arith, ap length again, length-append (take at room ++ x) (drop n (drop at room)), whole, length-drop n (drop at room), length-drop at room, w.size, en, room_now);
        bytes = ap (λ (u : ℕ). take (at + n) room' ++ spelled (drop (i + 1) kinds) u (drop (i + 1) values)) et ∙ ap (λ l. l ++ more) taken ∙ append_assoc (take at room) x more ∙ ap (λ l. take at room ++ l) (sym here) ∙ w.bytes;
        rest = left ∙ ap (drop n) w.rest ∙ drop-drop n at old;
      }

pub written_all : (kinds : List FieldKind) (values : List FieldValue) (t at i code : ℕ) (old room : List ℕ) → Written kinds values t at i code old room → length kinds ≤ i → take at room ≡ code ∷ spelled kinds 0 values
written_all kinds values t at i code old room w past =
    let none : spelled (drop i kinds) t (drop i values) ≡ [] = ap (λ l. spelled l t (drop i values)) (drop_all i kinds past) in
    sym (append-nil (take at room)) ∙ ap (λ l. take at room ++ l) (sym none) ∙ w.bytes

-- ---- a message by its parts

pub spells_parts : (p : Message) (parts : Parts) → AreParts p parts → Fill (kinds_of parts.fields.now) (values_of parts) → Spells p (parts.code ∷ spelled (kinds_of parts.fields.now) 0 (values_of parts))
spells_parts p parts a f =
    let kinds = kinds_of parts.fields.now in
    subst (λ (q : Message). Spells q (parts.code ∷ spelled kinds 0 (values_of parts))) (sym a.message) (record { kinds = kinds; listed = kinds_listed p parts a; fits = f.0; bytes = refl; at_most = omega (arith, f.1) })

-- ---- numbers

width_same : (k : FieldKind) (t n : ℕ) → n < limit k → field_width k t ≡ field_width k 0
width_same Value t n lt = absurd (omega arith)
width_same k t n lt = refl

pub number_length : (k : FieldKind) (t : ℕ) (d : FieldContent) (n : ℕ) → d ≡ contents.Number n → Fits k t (value_of d) → field_width k 0 ≡ length (bytes_of k t (value_of d))
number_length k t d n is f =
    let lt : n < limit k = subst (λ (e : FieldContent). Fits k t (value_of e)) is f in
    sym (width_same k t n lt) ∙ sym (length-number k t n) ∙ ap (λ (e : FieldContent). length (bytes_of k t (value_of e))) (sym is)

pub signed_length : (k : FieldKind) (t : ℕ) (d : FieldContent) (z : ℤ) → d ≡ contents.Signed z → Fits k t (value_of d) → field_width k t ≡ length (bytes_of k t (value_of d))
signed_length k t d z is f =
    sym (length-signed k t z (subst (λ (e : FieldContent). Fits k t (value_of e)) is f)) ∙ ap (λ (e : FieldContent). length (bytes_of k t (value_of e))) (sym is)
