-- What stands at each place of a cut.
use Rattle.std.proofs.Common.{◌≡◌, ℕ, zero, suc, ◌-◌, ◌<◌, ◌≤◌, List, [], ◌∷◌, length, sym, subst, arith, Some}
use Rattle.std.specs.Prelude.{slice_get, slice_index, slice_range}
use Rattle.std.proofs.lemmas.List.{length-map}
use Rattle.pdu_layout.specs.declared.fields.FieldKind.{FieldKind}
use Rattle.pdu_layout.specs.declared.fields.FieldKind.TheVariants.{TypeCode, Value}
use Rattle.pdu_layout.specs.declared.fields.Field.{Field}
use Rattle.pdu_layout.specs.Table.{kinds_of}
use Rattle.dcp_types.specs.Values as values
use Rattle.pdu_layout.specs.Fields.{type_from, type_after}
use Rattle.pdu_codec.specs.Pieces.{AreEnds, IsPiece, IsPieceAnyhow, begin_of, piece_at}

pub record Place (kinds : List FieldKind) (b ends : List ℕ) (from i : ℕ) : Type 0 where
  pub there : i < length ends
  pub order : from ≤ slice_index ends i
  pub within : slice_index ends i ≤ length b
  pub fits : IsPieceAnyhow (slice_get kinds i) (slice_range b from (slice_index ends i))

abbrev start : ℕ → List ℕ → ℕ → ℕ
start from ends zero = from
start from ends (suc i) = slice_index ends i

anyhow : (k : FieldKind) (t : ℕ) (x : List ℕ) → IsPiece k t x → IsPieceAnyhow (Some k) x
anyhow Value t x p = tt
anyhow k t x p = p

place_of : (kinds : List FieldKind) (t : ℕ) (b : List ℕ) (from : ℕ) (ends : List ℕ) (i : ℕ) → AreEnds kinds t b from ends → i < length kinds → Place kinds b ends (start from ends i) i
place_of [] t b from ends i e lt = absurd (omega arith)
place_of (k ∷ kinds) t b from [] i e lt = absurd e
place_of (k ∷ kinds) t b from (end ∷ ends) zero e lt = record { there = omega arith; order = e.0; within = e.1; fits = anyhow k t (slice_range b from end) e.2 }
place_of (k ∷ kinds) t b from (end ∷ ends) (suc i) e lt =
    let p = place_of kinds (type_after k t (slice_range b from end)) b end ends i e.3 (omega arith) in
    moved i p
  where
    moved : (i : ℕ) → Place kinds b ends (start end ends i) i → Place (k ∷ kinds) b (end ∷ ends) (slice_index (end ∷ ends) i) (suc i)
    moved zero p = record { there = omega (arith, p.there); order = p.order; within = p.within; fits = p.fits }
    moved (suc i) p = record { there = omega (arith, p.there); order = p.order; within = p.within; fits = p.fits }

pub place_is : (fields : List Field) (b ends : List ℕ) (i : ℕ) → AreEnds (kinds_of fields) 0 b 1 ends → i < length fields → Place (kinds_of fields) b ends (begin_of ends i) i
place_is fields b ends zero e lt = place_of (kinds_of fields) 0 b 1 ends zero e (omega (arith, length-map fields (λ f. f.kind)))
place_is fields b ends (suc i) e lt = place_of (kinds_of fields) 0 b 1 ends (suc i) e (omega (arith, length-map fields (λ f. f.kind)))

same_kind : (a b : FieldKind) → slice_get (a ∷ []) 0 ≡ Some b → a ≡ b
same_kind a b e = cc

value_from : (kinds : List FieldKind) (t : ℕ) (b : List ℕ) (from : ℕ) (ends : List ℕ) (i : ℕ) → AreEnds kinds t b from ends → slice_get kinds i ≡ Some TypeCode → slice_get kinds (suc i) ≡ Some Value → length (slice_range b (slice_index ends i) (slice_index ends (suc i))) ≡ values.width (type_from (slice_index (slice_range b (start from ends i) (slice_index ends i)) 0))
value_from [] t b from ends i e f g = absurd cc
value_from (k ∷ kinds) t b from [] i e f g = absurd e
value_from (k ∷ []) t b from (end ∷ ends) zero e f g = absurd cc
value_from (k ∷ k' ∷ kinds) t b from (end ∷ []) zero e f g = absurd e.3
value_from (k ∷ k' ∷ kinds) t b from (end ∷ end' ∷ ends) zero e f g =
    let x = slice_range b from end in
    let x' = slice_range b end end' in
    let p : IsPiece k' (type_after k t x) x' = e.3.2 in
    let p1 = subst (λ q. IsPiece q (type_after k t x) x') (same_kind k' Value g) p in
    let p2 = subst (λ q. IsPiece Value (type_after q t x) x') (same_kind k TypeCode f) p1 in
    p2
value_from (k ∷ kinds) t b from (end ∷ ends) (suc i) e f g = moved i (value_from kinds (type_after k t (slice_range b from end)) b end ends i e.3 f g)
  where
    moved : (i : ℕ) → length (slice_range b (slice_index ends i) (slice_index ends (suc i))) ≡ values.width (type_from (slice_index (slice_range b (start end ends i) (slice_index ends i)) 0)) → length (slice_range b (slice_index ends i) (slice_index ends (suc i))) ≡ values.width (type_from (slice_index (slice_range b (slice_index (end ∷ ends) i) (slice_index ends i)) 0))
    moved zero p = p
    moved (suc i) p = p

-- a value is as wide as the type before it
pub value_is : (fields : List Field) (b ends : List ℕ) (i : ℕ) → AreEnds (kinds_of fields) 0 b 1 ends → 0 < i → slice_get (kinds_of fields) (i - 1) ≡ Some TypeCode → slice_get (kinds_of fields) i ≡ Some Value → length (piece_at b ends i) ≡ values.width (type_from (slice_index (piece_at b ends (i - 1)) 0))
value_is fields b ends zero e some f g = absurd (omega arith)
value_is fields b ends (suc i) e some f g = at_suc i (suc i - 1) (omega arith) f g
  where
    at_suc : (i j : ℕ) → j ≡ i → slice_get (kinds_of fields) j ≡ Some TypeCode → slice_get (kinds_of fields) (suc i) ≡ Some Value → length (piece_at b ends (suc i)) ≡ values.width (type_from (slice_index (piece_at b ends j) 0))
    at_suc i j same f g = subst (λ n. length (piece_at b ends (suc i)) ≡ values.width (type_from (slice_index (piece_at b ends n) 0))) (sym same) (plain i (subst (λ n. slice_get (kinds_of fields) n ≡ Some TypeCode) same f) g)
      where
        plain : (i : ℕ) → slice_get (kinds_of fields) i ≡ Some TypeCode → slice_get (kinds_of fields) (suc i) ≡ Some Value → length (piece_at b ends (suc i)) ≡ values.width (type_from (slice_index (piece_at b ends i) 0))
        plain zero f g = value_from (kinds_of fields) 0 b 1 ends zero e f g
        plain (suc i) f g = value_from (kinds_of fields) 0 b 1 ends (suc i) e f g
