-- No two messages have the same bytes.
use Rattle.std.proofs.Common.{◌≡◌, ℕ, inl, inr, List, [], ◌∷◌, length, get_or, drop, reverse, refl, sym, ap, subst, ◌∙◌, arith, Some}
use Rattle.std.specs.Prelude.{ℤ}
use Rattle.std.proofs.lemmas.List.{reverse-reverse, append-nil}
use Rattle.dcp_types.specs.Values.{digits}
use Rattle.dcp_types.specs.declared.data_types.DataType.TheVariants as types
use Rattle.dcp_types.proofs.Digits.{same_number}
use Rattle.dcp_types.proofs.Residues.{one_value}
use Rattle.pdu_layout.specs.declared.fields.FieldKind.{FieldKind}
use Rattle.pdu_layout.specs.declared.fields.FieldKind.TheVariants.{U8, U16, U32, U64, I64, StateCode, TypeCode, Value, Uuid, Ip, Rest}
use Rattle.pdu_layout.specs.Fields.{type_from, Fits, bytes_of, type_after, spelled, FitEach, FieldValue}
use Rattle.pdu_layout.specs.Fields.FieldValue.{Number, Signed, Bytes}
use Rattle.pdu_layout.specs.Table.{kinds_for}
use Rattle.pdu_layout.specs.Message.{Message, Spells}
use Rattle.pdu_codec.specs.Pieces.{IsSized}
use Rattle.pdu_codec.proofs.Values.{length-bytes_of}
use Rattle.pdu_codec.proofs.Suffix.{same_cut}
use Rattle.pdu_codec.proofs.Walk.{rest_is_last, row_passes, sized_or_rest}
use Rattle.std.proofs.Common.{true}
use Rattle.std.proofs.lemmas.Bool.{and_parts}
use Rattle.std.proofs.Common.{ltb}
use Rattle.pdu_layout.proofs.Spellings.{same_kinds}

number_once : (k : FieldKind) (t m n : ℕ) → Fits k t (Number m) → Fits k t (Number n) → bytes_of k t (Number m) ≡ bytes_of k t (Number n) → m ≡ n
number_once U8 t m n f g e = same_number 1 m n f g e
number_once U16 t m n f g e = same_number 2 m n f g e
number_once U32 t m n f g e = same_number 4 m n f g e
number_once U64 t m n f g e = same_number 8 m n f g e
number_once Ip t m n f g e = same_number 4 m n f g e
number_once StateCode t m n f g e = same_number 1 m n (omega (arith, f)) (omega (arith, g)) e
number_once TypeCode t m n f g e = same_number 1 m n (omega (arith, f)) (omega (arith, g)) e
number_once Uuid t m n f g e = same_number 16 m n f g (sym (reverse-reverse (digits 16 m)) ∙ ap reverse e ∙ reverse-reverse (digits 16 n))
number_once I64 t m n f g e = absurd (omega (arith, f))
number_once Value t m n f g e = absurd (omega (arith, f))
number_once Rest t m n f g e = absurd (omega (arith, f))

field_once : (k : FieldKind) (t : ℕ) (v w : FieldValue) → Fits k t v → Fits k t w → bytes_of k t v ≡ bytes_of k t w → v ≡ w
field_once U8 t (Number m) (Number n) f g e = ap (λ (x : ℕ). Number x) (number_once U8 t m n f g e)
field_once U8 t (Number m) (Signed z) f g e = absurd g
field_once U8 t (Number m) (Bytes y) f g e = absurd g
field_once U8 t (Signed y) w f g e = absurd f
field_once U8 t (Bytes x) w f g e = absurd f
field_once U16 t (Number m) (Number n) f g e = ap (λ (x : ℕ). Number x) (number_once U16 t m n f g e)
field_once U16 t (Number m) (Signed z) f g e = absurd g
field_once U16 t (Number m) (Bytes y) f g e = absurd g
field_once U16 t (Signed y) w f g e = absurd f
field_once U16 t (Bytes x) w f g e = absurd f
field_once U32 t (Number m) (Number n) f g e = ap (λ (x : ℕ). Number x) (number_once U32 t m n f g e)
field_once U32 t (Number m) (Signed z) f g e = absurd g
field_once U32 t (Number m) (Bytes y) f g e = absurd g
field_once U32 t (Signed y) w f g e = absurd f
field_once U32 t (Bytes x) w f g e = absurd f
field_once U64 t (Number m) (Number n) f g e = ap (λ (x : ℕ). Number x) (number_once U64 t m n f g e)
field_once U64 t (Number m) (Signed z) f g e = absurd g
field_once U64 t (Number m) (Bytes y) f g e = absurd g
field_once U64 t (Signed y) w f g e = absurd f
field_once U64 t (Bytes x) w f g e = absurd f
field_once StateCode t (Number m) (Number n) f g e = ap (λ (x : ℕ). Number x) (number_once StateCode t m n f g e)
field_once StateCode t (Number m) (Signed z) f g e = absurd g
field_once StateCode t (Number m) (Bytes y) f g e = absurd g
field_once StateCode t (Signed y) w f g e = absurd f
field_once StateCode t (Bytes x) w f g e = absurd f
field_once TypeCode t (Number m) (Number n) f g e = ap (λ (x : ℕ). Number x) (number_once TypeCode t m n f g e)
field_once TypeCode t (Number m) (Signed z) f g e = absurd g
field_once TypeCode t (Number m) (Bytes y) f g e = absurd g
field_once TypeCode t (Signed y) w f g e = absurd f
field_once TypeCode t (Bytes x) w f g e = absurd f
field_once Uuid t (Number m) (Number n) f g e = ap (λ (x : ℕ). Number x) (number_once Uuid t m n f g e)
field_once Uuid t (Number m) (Signed z) f g e = absurd g
field_once Uuid t (Number m) (Bytes y) f g e = absurd g
field_once Uuid t (Signed y) w f g e = absurd f
field_once Uuid t (Bytes x) w f g e = absurd f
field_once Ip t (Number m) (Number n) f g e = ap (λ (x : ℕ). Number x) (number_once Ip t m n f g e)
field_once Ip t (Number m) (Signed z) f g e = absurd g
field_once Ip t (Number m) (Bytes y) f g e = absurd g
field_once Ip t (Signed y) w f g e = absurd f
field_once Ip t (Bytes x) w f g e = absurd f
field_once I64 t (Number m) w f g e = absurd (omega (arith, f))
field_once I64 t (Signed y) (Signed z) f g e = ap (λ (x : ℤ). Signed x) (one_value types.I64 y z f g e)
field_once I64 t (Signed y) (Number n) f g e = absurd (omega (arith, g))
field_once I64 t (Signed y) (Bytes x) f g e = absurd g
field_once I64 t (Bytes x) w f g e = absurd f
field_once Value t (Number m) w f g e = absurd (omega (arith, f))
field_once Value t (Signed y) (Signed z) f g e = ap (λ (x : ℤ). Signed x) (one_value (type_from t) y z f g e)
field_once Value t (Signed y) (Number n) f g e = absurd (omega (arith, g))
field_once Value t (Signed y) (Bytes x) f g e = absurd g
field_once Value t (Bytes x) w f g e = absurd f
field_once Rest t (Number m) w f g e = absurd (omega (arith, f))
field_once Rest t (Signed y) w f g e = absurd f
field_once Rest t (Bytes x) (Bytes y) f g e = ap (λ (l : List ℕ). Bytes l) e
field_once Rest t (Bytes x) (Number n) f g e = absurd (omega (arith, g))
field_once Rest t (Bytes x) (Signed z) f g e = absurd g

module _ (k : FieldKind) (ks : List FieldKind) (t : ℕ) (v w : FieldValue) (vs ws : List FieldValue) where
  -- the fields after a field of its own width begin at one place
  sized_once : IsSized k → ((u : ℕ) → FitEach ks u vs → FitEach ks u ws → spelled ks u vs ≡ spelled ks u ws → vs ≡ ws) → FitEach (k ∷ ks) t (v ∷ vs) → FitEach (k ∷ ks) t (w ∷ ws) → spelled (k ∷ ks) t (v ∷ vs) ≡ spelled (k ∷ ks) t (w ∷ ws) → v ∷ vs ≡ w ∷ ws
  sized_once s more f g e =
      let cut = same_cut (bytes_of k t v) (bytes_of k t w) (spelled ks (type_after k t (bytes_of k t v)) vs) (spelled ks (type_after k t (bytes_of k t w)) ws) (length-bytes_of k t v s f.0 ∙ sym (length-bytes_of k t w s g.0)) e in
      let head : v ≡ w = field_once k t v w f.0 g.0 cut.0 in
      let tail : vs ≡ ws = more (type_after k t (bytes_of k t v)) f.1 (subst (λ (y : List ℕ). FitEach ks (type_after k t y) ws) (sym cut.0) g.1) (cut.1 ∙ ap (λ (y : List ℕ). spelled ks (type_after k t y) ws) (sym cut.0)) in
      ap (λ (x : FieldValue). x ∷ vs) head ∙ ap (λ (l : List FieldValue). w ∷ l) tail

rest_once : (ks : List FieldKind) (t : ℕ) (v w : FieldValue) (vs ws : List FieldValue) → rest_is_last (Rest ∷ ks) ≡ true → FitEach (Rest ∷ ks) t (v ∷ vs) → FitEach (Rest ∷ ks) t (w ∷ ws) → spelled (Rest ∷ ks) t (v ∷ vs) ≡ spelled (Rest ∷ ks) t (w ∷ ws) → v ∷ vs ≡ w ∷ ws
rest_once [] t v w [] [] r f g e = ap (λ (x : FieldValue). x ∷ []) (field_once Rest t v w f.0 g.0 (sym (append-nil (bytes_of Rest t v)) ∙ e ∙ append-nil (bytes_of Rest t w)))
rest_once [] t v w (x ∷ vs) ws r f g e = absurd f.1
rest_once [] t v w [] (x ∷ ws) r f g e = absurd g.1
rest_once (k ∷ ks) t v w vs ws r f g e = absurd cc

pub rest_after : (k : FieldKind) (ks : List FieldKind) → IsSized k → rest_is_last (k ∷ ks) ≡ true → rest_is_last ks ≡ true
rest_after Rest ks s r = absurd s
rest_after k ks s r = r

values_once : (ks : List FieldKind) (t : ℕ) (vs ws : List FieldValue) → rest_is_last ks ≡ true → FitEach ks t vs → FitEach ks t ws → spelled ks t vs ≡ spelled ks t ws → vs ≡ ws
values_once [] t [] [] r f g e = refl
values_once [] t (v ∷ vs) ws r f g e = absurd f
values_once [] t [] (w ∷ ws) r f g e = absurd g
values_once (k ∷ ks) t [] ws r f g e = absurd f
values_once (k ∷ ks) t (v ∷ vs) [] r f g e = absurd g
values_once (k ∷ ks) t (v ∷ vs) (w ∷ ws) r f g e =
    elim (sized_or_rest k) [
      | inl s ↦ sized_once k ks t v w vs ws s (λ u a b c. values_once ks u vs ws (rest_after k ks s r) a b c) f g e
      | inr is ↦ subst (λ (j : FieldKind). rest_is_last (j ∷ ks) ≡ true → FitEach (j ∷ ks) t (v ∷ vs) → FitEach (j ∷ ks) t (w ∷ ws) → spelled (j ∷ ks) t (v ∷ vs) ≡ spelled (j ∷ ks) t (w ∷ ws) → v ∷ vs ≡ w ∷ ws) (sym is) (rest_once ks t v w vs ws) r f g e
    ]

pub one_message : (p q : Message) (b : List ℕ) → Spells p b → Spells q b → p ≡ q
one_message p q b s u =
    let both : p.code ∷ spelled s.kinds 0 p.values ≡ q.code ∷ spelled u.kinds 0 q.values = sym s.bytes ∙ u.bytes in
    let codes : p.code ≡ q.code = ap (λ (l : List ℕ). get_or l 0 0) both in
    let kinds : s.kinds ≡ u.kinds = same_kinds s.kinds u.kinds (kinds_for p.code) s.listed (subst (λ (n : ℕ). kinds_for n ≡ Some u.kinds) (sym codes) u.listed) in
    let last : rest_is_last s.kinds ≡ true = (and_parts (rest_is_last s.kinds) (ltb (length s.kinds) 60) (row_passes p.code s.kinds s.listed)).0 in
    let values : p.values ≡ q.values = values_once s.kinds 0 p.values q.values last s.fits (subst (λ l. FitEach l 0 q.values) (sym kinds) u.fits) (ap (drop 1) both ∙ ap (λ l. spelled l 0 q.values) (sym kinds)) in
    ap (λ (n : ℕ). record { code = n; values = p.values }) codes ∙ ap (λ (l : List FieldValue). record { code = q.code; values = l }) values
