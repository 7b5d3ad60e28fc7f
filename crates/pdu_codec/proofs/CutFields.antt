-- The fields of a cut message hold the values that its bytes spell.
use Rattle.std.proofs.Common.{◌≡◌, ℕ, suc, ◌%◌, ◌<◌, List, [], ◌∷◌, ◌++◌, length, get_or, refl, sym, ap, subst, ◌∙◌, arith, Option, Some}
use Rattle.std.specs.Prelude.{ℤ, slice_get, slice_index}
use Rattle.std.proofs.lemmas.List.{append-nil, append_assoc, length-append}
use Rattle.dcp_types.specs.Values.{digits}
use Rattle.pdu_layout.specs.declared.fields.FieldKind.{FieldKind}
use Rattle.pdu_layout.specs.declared.fields.FieldKind.TheVariants.{TypeCode}
use Rattle.pdu_layout.specs.Fields.{FieldValue, type_after}
use Rattle.pdu_layout.specs.Fields.FieldValue.{Number, Signed, Bytes}
use Rattle.pdu_layout.specs.Table.{kinds_for}
use Rattle.pdu_layout.specs.Held.{AreKinds, HoldEach, layout_of, kinds_or_none, type_named}
use Rattle.pdu_layout.specs.Message.{Spells}
use Rattle.pdu_codec.specs.Pieces.{AreEnds, Holds, HeldFrom, piece_at}
use Rattle.pdu_codec.specs.Cuts.{IsCut}
use Rattle.pdu_codec.proofs.Whole.{made}
use Rattle.pdu_codec.proofs.Walk.{first_is}

-- what a type field holds is its byte
pub named_first : (t n : ℕ) (x : List ℕ) → Holds TypeCode t (Number n) x → n ≡ slice_index x 0
unfolding digits
named_first t n x h =
    let small = h.fits in
    let low : n % 256 ≡ n = omega (arith, small) in
    sym low ∙ ap (λ (l : List ℕ). get_or l 0 0) h.bytes

type_same : (k : FieldKind) (t : ℕ) (v : FieldValue) (x : List ℕ) → Holds k t v x → type_named k t v ≡ type_after k t x
type_same TypeCode t (Number n) x h = named_first t n x h
type_same TypeCode t (Signed z) x h = absurd h.fits
type_same TypeCode t (Bytes y) x h = absurd h.fits
type_same k t v x h = refl

abbrev pub HoldAt : List ℕ → List ℕ → ℕ → FieldKind → ℕ → FieldValue → Type 0
HoldAt b ends i k t v = Holds k t v (piece_at b ends i)

held_from : (ks : List FieldKind) (t : ℕ) (b ends : List ℕ) (i : ℕ) (vs : List FieldValue) → HoldEach (HoldAt b ends) ks t i vs → HeldFrom ks t b ends i vs
held_from [] t b ends i [] h = tt
held_from [] t b ends i (v ∷ vs) h = absurd h
held_from (k ∷ ks) t b ends i [] h = absurd h
held_from (k ∷ ks) t b ends i (v ∷ vs) h =
    let x = piece_at b ends i in
    (h.0, subst (λ (u : ℕ). HeldFrom ks u b ends (suc i) vs) (type_same k t v x h.0) (held_from ks (type_named k t v) b ends (suc i) vs h.1))

longer : (front : List FieldKind) (k : FieldKind) → length (front ++ k ∷ []) ≡ suc (length front)
longer [] k = refl
longer (j ∷ front) k = ap suc (longer front k)

-- fields that are those of a layout, and no more
same_kinds : (front ks all : List FieldKind) → AreKinds (front ++ ks) (length front) all → ks ≡ all
same_kinds front [] [] h = refl
same_kinds front [] (j ∷ all) h = absurd (past front h.0)
  where
    past : (front : List FieldKind) → slice_get (front ++ []) (length front) ≡ Some j → ⊥
    past [] e = cc
    past (i ∷ front) e = past front e
same_kinds front (k ∷ ks) [] h = absurd (omega (arith, h, length-append front (k ∷ ks)))
same_kinds front (k ∷ ks) (j ∷ all) h =
    let here : k ≡ j = at front h.0 in
    let moved : (front ++ k ∷ []) ++ ks ≡ front ++ k ∷ ks = append_assoc front (k ∷ []) ks in
    let more : AreKinds ((front ++ k ∷ []) ++ ks) (length (front ++ k ∷ [])) all =
    subst (λ (n : ℕ). AreKinds ((front ++ k ∷ []) ++ ks) n all) (sym (longer front k)) (subst (λ (l : List FieldKind). AreKinds l (suc (length front)) all) (sym moved) h.1) in
    ap (λ (x : FieldKind). x ∷ ks) here ∙ ap (λ (l : List FieldKind). j ∷ l) (same_kinds (front ++ k ∷ []) ks all more)
  where
    at : (front : List FieldKind) → slice_get (front ++ k ∷ ks) (length front) ≡ Some j → k ≡ j
    at [] e = cc
    at (i ∷ front) e = at front e

pub whole_is : (code : ℕ) (ks : List FieldKind) (b ends : List ℕ) → IsCut code ks b ends → (n : ℕ) (vs : List FieldValue) → code ≡ n → kinds_for n ≡ Some (layout_of n) → AreKinds ks 0 (layout_of n) → HoldEach (HoldAt b ends) (layout_of n) 0 0 vs → Spells (record { code = n; values = vs }) b
whole_is code ks b ends h n vs same listed kinds held =
    let e : ks ≡ layout_of n = same_kinds [] ks (layout_of n) kinds in
    let pieces : AreEnds (layout_of n) 0 b 1 ends = subst (λ (l : List FieldKind). AreEnds l 0 b 1 ends) e h.3 in
    made n (layout_of n) b ends listed pieces (first_is b n h.0 (h.1 ∙ same)) h.2 vs (held_from (layout_of n) 0 b ends 0 vs held)

-- a list of kinds is as it is
kinds_more : (front ks : List FieldKind) → AreKinds (front ++ ks) (length front) ks
kinds_more front [] = ap length (append-nil front)
kinds_more front (k ∷ ks) =
    (get_past front k ks, subst (λ (l : List FieldKind). AreKinds l (suc (length front)) ks) (append_assoc front (k ∷ []) ks) (subst (λ (n : ℕ). AreKinds ((front ++ k ∷ []) ++ ks) n ks) (longer front k) (kinds_more (front ++ k ∷ []) ks)))
  where
    get_past : (front : List FieldKind) (k : FieldKind) (ks : List FieldKind) → slice_get (front ++ k ∷ ks) (length front) ≡ Some k
    get_past [] k ks = refl
    get_past (j ∷ front) k ks = get_past front k ks

pub are_kinds : (code : ℕ) (ks : List FieldKind) → kinds_for code ≡ Some ks → AreKinds ks 0 (layout_of code)
are_kinds code ks listed = subst (AreKinds ks 0) (sym (ap kinds_or_none listed)) (kinds_more [] ks)
