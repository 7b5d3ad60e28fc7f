-- The values that were read, as contents of the fields of their row.
use Rattle.std.proofs.Common.{◌≡◌, ℕ, suc, ◌≤◌, List, [], ◌∷◌, length, map, take, Option, Some, None, refl, sym, ap, ◌∙◌, subst, arith}
use Rattle.std.proofs.lemmas.List.{length-map, take_all}
use Rattle.pdu_layout.specs.declared.fields.FieldKind.{FieldKind}
use Rattle.pdu_layout.specs.declared.fields.Field.{Field}
use Rattle.pdu_layout.specs.declared.message_parts.FieldContent.{FieldContent}
use Rattle.pdu_layout.specs.Fields.{FieldValue, FitEach, spelled, bytes_of, type_after}
use Rattle.pdu_layout.specs.Table.{row_of, rows_of, kinds_of, kinds_in, kinds_for}
use Rattle.pdu_layout.specs.Message.{Message, Spells, HasSpelling}
use Rattle.pdu_layout.specs.Parts.{value_of}
use Rattle.pdu_layout.specs.Ranges.{Fill}
use Rattle.pdu_layout.proofs.Spellings.{kinds_of_rows, same_kinds}

fit_length : (ks : List FieldKind) (t : ℕ) (vs : List FieldValue) → FitEach ks t vs → length ks ≡ length vs
fit_length [] t [] f = refl
fit_length [] t (v ∷ vs) f = absurd f
fit_length (k ∷ ks) t [] f = absurd f
fit_length (k ∷ ks) t (v ∷ vs) f = ap suc (fit_length ks (type_after k t (bytes_of k t v)) vs f.1)

-- what is written of a message that has a spelling
pub record Written (p : Message) (fields : List Field) (held : List FieldContent) : Type 0 where
  pub few : length fields ≤ length held
  pub fill : Fill (kinds_of fields) (map value_of (take (length fields) held))
  pub spells : Spells p (p.code ∷ spelled (kinds_of fields) 0 (map value_of (take (length fields) held)))

pub written : (p : Message) (name : List ℕ) (fields : List Field) (held : List FieldContent) → row_of p.code ≡ Some (record { code = p.code; name = name; fields = rows_of fields }) → HasSpelling p → map value_of held ≡ p.values → Written p fields held
written p name fields held row h same =
    let ks = kinds_of fields in
    let s = h.1 in
    let listed : kinds_for p.code ≡ Some ks = ap kinds_in row ∙ ap (λ (l : List FieldKind). Some l) (kinds_of_rows fields) in
    let e : s.kinds ≡ ks = same_kinds s.kinds ks (kinds_for p.code) s.listed listed in
    let fit : FitEach ks 0 p.values = subst (λ l. FitEach l 0 p.values) e s.fits in
    let count : length fields ≡ length held = sym (length-map fields (λ (f : Field). f.kind)) ∙ fit_length ks 0 p.values fit ∙ sym (ap length same) ∙ length-map held value_of in
    let all : map value_of (take (length fields) held) ≡ p.values = ap (map value_of) (take_all (length fields) held (omega (arith, count))) ∙ same in
    let size : length h.0 ≡ suc (length (spelled s.kinds 0 p.values)) = ap length s.bytes in
    let most = s.at_most in
    let small : length (spelled ks 0 p.values) ≤ 1023 = subst (λ l. length (spelled l 0 p.values) ≤ 1023) e (omega (arith, size, most)) in
    record {
      few = omega (arith, count);
      fill = subst (Fill ks) (sym all) (fit, small);
      spells = record { kinds = ks; listed = listed; fits = fit; bytes = ap (λ vs. p.code ∷ spelled ks 0 vs) all; at_most = omega (arith, small, ap length (ap (λ vs. spelled ks 0 vs) all)) };
    }

no_kinds : (ks : List FieldKind) (o : Option (List FieldKind)) → o ≡ None → o ≡ Some ks → ⊥
no_kinds ks o e f = cc

-- a message that has a spelling stands in the table
pub is_listed : (p : Message) → HasSpelling p → row_of p.code ≡ None → ⊥
is_listed p h e = no_kinds h.1.kinds (kinds_for p.code) (ap kinds_in e) h.1.listed
