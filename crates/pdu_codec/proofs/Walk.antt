-- One field after the other: what the walk keeps.
use Rattle.std.proofs.Common.{◌≡◌, ℕ, suc, ◌+◌, ◌-◌, ◌*◌, ◌<◌, ◌≤◌, Bool, true, false, cond, ltb, eqb, ◌&&◌, List, [], ◌∷◌, ◌++◌, length, get_or, take, drop, set, refl, sym, ap, subst, ◌∙◌, arith, inl, inr, Some}
use Rattle.std.specs.Prelude.{◌⊎◌, slice_get, slice_range, slice_index, map}
use Rattle.std.specs.List.{list_all}
use Rattle.std.proofs.lemmas.Bool.{and_parts, ltb-true, cases_Bool}
use Rattle.std.proofs.lemmas.List.{append-nil, append_assoc, drop_more, drop-map, take-append-drop, drop_all, drop-drop, length-take, length-drop, take_more_set, take_all}
use Rattle.pdu_layout.specs.declared.fields.FieldKind.{FieldKind}
use Rattle.pdu_layout.specs.declared.fields.FieldKind.TheVariants.{U8, StateCode, TypeCode, Rest}
use Rattle.pdu_codec.specs.declared.faults.DecodeWhy.{DecodeWhy}
use Rattle.pdu_codec.specs.declared.faults.DecodeWhy.TheVariants.{Empty, UnknownType, Short, Long, BadState, BadType, TooLong}
use Rattle.pdu_layout.specs.declared.fields.Field.{Field}
use Rattle.pdu_layout.specs.Table.{kinds_of, kinds_in, Row, table, row_in, kinds_for}
use Rattle.pdu_layout.specs.Fields.{field_width, type_after}
use Rattle.pdu_codec.specs.Refusals.{Refusal}
use Rattle.pdu_codec.specs.Pieces.{AreEnds, IsPiece, IsSized, FieldFault}
use Rattle.pdu_codec.proofs.Digits.{IsBytes-drop, IsBytes-take}
use Rattle.pdu_codec.proofs.Values.{value_in, holds}
use Rattle.pdu_codec.proofs.Suffix.{Spelled, Refused, refused_after, short_refused, bad_state_refused, bad_type_refused, long_refused, too_long_refused, width-at_most}
use Rattle.pdu_codec.proofs.Whole.{refusal_from}
use Rattle.dcp_types.proofs.Digits.{IsBytes}

-- ---- what holds of each row of the table

-- a rest stands last, and the fields before it leave room
abbrev pub rest_is_last : List FieldKind → Bool
rest_is_last [] = true
rest_is_last (Rest ∷ []) = true
rest_is_last (Rest ∷ k ∷ ks) = false
rest_is_last (k ∷ ks) = rest_is_last ks

abbrev pub is_row : List FieldKind → Bool
is_row ks = rest_is_last ks && ltb (length ks) 60

abbrev kinds_in_row : Row → List FieldKind
kinds_in_row r = map (λ f. f.kind) r.fields

rows_pass : (rows : List Row) (c : ℕ) (ks : List FieldKind) → list_all (λ r. is_row (kinds_in_row r)) rows ≡ true → kinds_in (row_in rows c) ≡ Some ks → is_row ks ≡ true
rows_pass [] c ks e f = absurd cc
rows_pass (r ∷ rows) c ks e f =
    let p = and_parts (is_row (kinds_in_row r)) (list_all (λ r. is_row (kinds_in_row r)) rows) e in
    elim (cases_Bool (eqb r.code c)) [
      | inl same ↦
          let g : kinds_in (cond (eqb r.code c) (Some r) (row_in rows c)) ≡ Some ks = f in
          let h : Some (kinds_in_row r) ≡ Some ks = rw same at g in
          let k : kinds_in_row r ≡ ks = cc in
          subst (λ l. is_row l ≡ true) k p.0
      | inr other ↦
          let g : kinds_in (cond (eqb r.code c) (Some r) (row_in rows c)) ≡ Some ks = f in
          let h = rw other at g in
          rows_pass rows c ks p.1 h
    ]

pub row_passes : (c : ℕ) (ks : List FieldKind) → kinds_for c ≡ Some ks → is_row ks ≡ true
row_passes c ks e = rows_pass table c ks refl e

-- ---- fields

pub sized_or_rest : (k : FieldKind) → IsSized k ⊎ (k ≡ Rest)
sized_or_rest Rest = inr refl
sized_or_rest k = inl tt

piece_length : (k : FieldKind) (t : ℕ) (x : List ℕ) → IsSized k → IsPiece k t x → length x ≡ field_width k t
piece_length StateCode t x s p = p.0
piece_length TypeCode t x s p = p.0
piece_length Rest t x s p = absurd s
piece_length k t x s p = p

sized_last : (k : FieldKind) (ks : List FieldKind) → IsSized k → rest_is_last (k ∷ ks) ≡ rest_is_last ks
sized_last Rest ks s = absurd s
sized_last k ks s = refl

rest_alone : (ks : List FieldKind) → rest_is_last (Rest ∷ ks) ≡ true → ks ≡ []
rest_alone [] e = refl
rest_alone (k ∷ ks) e = absurd cc

-- what is read past the end
abbrev pub no_field : Field
no_field = record { name = record { ref_ptr = (0, 0); now = [] }; kind = U8 }

pub here_is : (fields : List Field) (i : ℕ) → i < length fields → drop i (kinds_of fields) ≡ (get_or fields i no_field).kind ∷ drop (i + 1) (kinds_of fields)
here_is fields i lt = drop-map (λ f. f.kind) i fields ∙ ap (map (λ f. f.kind)) (drop_more fields i no_field lt) ∙ ap (λ l. (get_or fields i no_field).kind ∷ l) (sym (drop-map (λ f. f.kind) (i + 1) fields))

-- ---- the walk

-- The fields before i end before at; what the rest of the bytes says of the rest of the fields, all say of all.
pub record Walked (ks : List FieldKind) (b : List ℕ) (ends : List ℕ) (i at t : ℕ) : Type 0 where
  pub past : 1 ≤ at
  pub within : at ≤ length b
  pub room : at + 16 * length (drop i ks) ≤ 1024
  pub space : at < length b → at + 16 * length (drop i ks) < 1024
  pub last : rest_is_last (drop i ks) ≡ true
  pub refused : (fat : ℕ) (why : DecodeWhy) → Refused (drop i ks) t (1024 - at) (drop at b) fat why → Refused ks 0 1023 (drop 1 b) (at - 1 + fat) why
  pub joins : (more : List ℕ) → AreEnds (drop i ks) t b at more → AreEnds ks 0 b 1 (take i ends ++ more)

pub walked_start : (code : ℕ) (ks : List FieldKind) (b ends : List ℕ) → kinds_for code ≡ Some ks → 1 ≤ length b → Walked ks b ends 0 1 0
walked_start code ks b ends listed some =
    let p = and_parts (rest_is_last ks) (ltb (length ks) 60) (row_passes code ks listed) in
    record {
      past = omega arith;
      within = some;
      room = omega (arith, ltb-true (length ks) 60 p.1);
      last = p.0;
      space = λ lt. omega (arith, ltb-true (length ks) 60 p.1);
      refused = λ fat why f. subst (λ n. Refused ks 0 1023 (drop 1 b) n why) (omega arith) f;
      joins = λ more e. e;
    }

module _ (ks : List FieldKind) (b ends : List ℕ) (i at t : ℕ) (k : FieldKind) (fits : IsBytes b) (w : Walked ks b ends i at t) (here : drop i ks ≡ k ∷ drop (i + 1) ks) where
  abbrev piece : ℕ → List ℕ
  piece end = slice_range b at end

  cut : (end : ℕ) → at ≤ end → drop at b ≡ piece end ++ drop end b
  cut end le = sym (take-append-drop (end - at) (drop at b)) ∙ ap (λ (y : List ℕ). piece end ++ y) (drop-drop (end - at) at b ∙ ap (λ n. drop n b) (omega arith))

  piece_is : (end : ℕ) → at ≤ end → end ≤ length b → length (piece end) ≡ end - at
  piece_is end le in_b = omega (arith, length-take (end - at) (drop at b), length-drop at b)

  room_here : at + 16 * suc (length (drop (i + 1) ks)) ≤ 1024
  room_here = omega (arith, w.room, ap length here)

  more_joins : (end t' : ℕ) → at ≤ end → end ≤ length b → IsPiece k t (piece end) → t' ≡ type_after k t (piece end) → i < length ends → (more : List ℕ) → AreEnds (drop (i + 1) ks) t' b end more → AreEnds ks 0 b 1 (take (i + 1) (set ends i end) ++ more)
  more_joins end t' le in_b p te lt more e =
      let whole : AreEnds (k ∷ drop (i + 1) ks) t b at (end ∷ more) = (le, in_b, p, subst (λ u. AreEnds (drop (i + 1) ks) u b end more) te e) in
      let joined = w.joins (end ∷ more) (subst (λ l. AreEnds l t b at (end ∷ more)) (sym here) whole) in
      subst (AreEnds ks 0 b 1) (sym (append_assoc (take i ends) (end ∷ []) more) ∙ ap (λ (l : List ℕ). l ++ more) (sym (take_more_set ends i end lt))) joined

  -- a field of its own width
  pub walked_sized : (end t' : ℕ) → IsSized k → at ≤ end → end ≤ length b → IsPiece k t (piece end) → t' ≡ type_after k t (piece end) → i < length ends → Walked ks b (set ends i end) (i + 1) end t'
  walked_sized end t' s le in_b p te lt =
      let len = piece_length k t (piece end) s p in
      let len_is = piece_is end le in_b in
      let wide = width-at_most k t in
      let h = holds k t (piece end) (IsBytes-take (end - at) (drop at b) (IsBytes-drop at b fits)) p in
      record {
        past = omega (arith, w.past);
        within = in_b;
        room = omega (arith, room_here);
        space = λ lt. omega (arith, w.space (omega arith), ap length here);
        last = sym (sized_last k (drop (i + 1) ks) s) ∙ ap rest_is_last (sym here) ∙ w.last;
        refused = λ fat why f.
            let f1 = subst (λ u. Refused (drop (i + 1) ks) u (1024 - end) (drop end b) fat why) te f in
            let room_is : 1024 - end ≡ 1024 - at - length (piece end) = omega (arith, room_here) in
            let f2 = subst (λ m. Refused (drop (i + 1) ks) (type_after k t (piece end)) m (drop end b) fat why) room_is f1 in
            let f3 = refused_after k (drop (i + 1) ks) t (1024 - at) (value_in k t (piece end)) (piece end) (drop end b) s h len (omega (arith, room_here)) fat why f2 in
            let f4 = subst (λ l. Refused (k ∷ drop (i + 1) ks) t (1024 - at) l (length (piece end) + fat) why) (sym (cut end le)) f3 in
            let f5 = subst (λ l. Refused l t (1024 - at) (drop at b) (length (piece end) + fat) why) (sym here) f4 in
            subst (λ n. Refused ks 0 1023 (drop 1 b) n why) (omega (arith, w.past)) (w.refused (length (piece end) + fat) why f5);
        joins = more_joins end t' le in_b p te lt;
      }

  -- a rest, up to the end
  pub walked_rest : (end t' : ℕ) → k ≡ Rest → end ≡ length b → length b ≤ 1024 → IsPiece k t (piece end) → t' ≡ type_after k t (piece end) → i < length ends → Walked ks b (set ends i end) (i + 1) end t'
  walked_rest end t' is e short p te lt =
      let none : drop (i + 1) ks ≡ [] = rest_alone (drop (i + 1) ks) (ap (λ x. rest_is_last (x ∷ drop (i + 1) ks)) (sym is) ∙ ap rest_is_last (sym here) ∙ w.last) in
      let len : length (drop (i + 1) ks) ≡ 0 = ap length none in
      record {
        past = omega (arith, w.past, w.within);
        within = omega arith;
        room = omega arith;
        space = λ lt. absurd (omega arith);
        last = ap rest_is_last none;
        refused = λ fat why f.
            let gone : drop end b ≡ [] = drop_all end b (omega arith) in
            let g = subst (λ l. Refused (drop (i + 1) ks) t' (1024 - end) l fat why) gone f in
            absurd (g.unspelled (subst (λ l. Spelled l t' (1024 - end) []) (sym none) (record { values = []; fits = tt; bytes = refl; at_most = omega arith })));
        joins = more_joins end t' (omega (arith, w.within)) (omega arith) p te lt;
      }

  at_fault : (n fat : ℕ) (why : DecodeWhy) → n ≡ at + fat → Refused (k ∷ drop (i + 1) ks) t (1024 - at) (drop at b) fat why → Refused ks 0 1023 (drop 1 b) (n - 1) why
  at_fault n fat why e f =
      let g = w.refused fat why (subst (λ l. Refused l t (1024 - at) (drop at b) fat why) (sym here) f) in
      subst (λ m. Refused ks 0 1023 (drop 1 b) m why) (omega (arith, w.past)) g

  byte_here : at < length b → drop at b ≡ get_or b at 0 ∷ drop (at + 1) b
  byte_here lt = drop_more b at 0 lt

  room_after : 16 * length (k ∷ drop (i + 1) ks) ≤ 1024 - at
  room_after = omega (arith, room_here)

  pub fault_refused : (fat : ℕ) (why : DecodeWhy) → FieldFault k t b at fat why → Refused ks 0 1023 (drop 1 b) (fat - 1) why
  fault_refused fat Short f =
      let len = length-drop at b in
      at_fault fat (length (drop at b)) Short (omega (arith, w.within)) (short_refused k (drop (i + 1) ks) t (1024 - at) (drop at b) f.0 (IsBytes-drop at b fits) (omega (arith, w.within)) room_after)
  fault_refused fat BadState f =
      let g = bad_state_refused (drop (i + 1) ks) t (1024 - at) (get_or b at 0) (drop (at + 1) b) f.2 room_after in
      at_fault fat 0 BadState (omega (arith, f.3)) (subst (λ l. Refused (k ∷ drop (i + 1) ks) t (1024 - at) l 0 BadState) (sym (byte_here f.1)) (subst (λ x. Refused (x ∷ drop (i + 1) ks) t (1024 - at) (get_or b at 0 ∷ drop (at + 1) b) 0 BadState) (sym f.0) g))
  fault_refused fat BadType f =
      let g = bad_type_refused (drop (i + 1) ks) t (1024 - at) (get_or b at 0) (drop (at + 1) b) f.2 room_after in
      at_fault fat 0 BadType (omega (arith, f.3)) (subst (λ l. Refused (k ∷ drop (i + 1) ks) t (1024 - at) l 0 BadType) (sym (byte_here f.1)) (subst (λ x. Refused (x ∷ drop (i + 1) ks) t (1024 - at) (get_or b at 0 ∷ drop (at + 1) b) 0 BadType) (sym f.0) g))
  fault_refused fat TooLong f =
      let none : drop (i + 1) ks ≡ [] = rest_alone (drop (i + 1) ks) (ap (λ x. rest_is_last (x ∷ drop (i + 1) ks)) (sym f.0) ∙ ap rest_is_last (sym here) ∙ w.last) in
      let g = too_long_refused t (1024 - at) (drop at b) (IsBytes-drop at b fits) (omega (arith, length-drop at b, room_here)) in
      let h = subst (λ l. Refused (Rest ∷ l) t (1024 - at) (drop at b) (1024 - at) TooLong) (sym none) g in
      at_fault fat (1024 - at) TooLong (omega (arith, f.2, room_here)) (subst (λ x. Refused (x ∷ drop (i + 1) ks) t (1024 - at) (drop at b) (1024 - at) TooLong) (sym f.0) h)
  fault_refused fat Empty f = absurd f
  fault_refused fat UnknownType f = absurd f
  fault_refused fat Long f = absurd f

-- a fault is at 1 or after it
pub fault_past : (k : FieldKind) (t : ℕ) (b : List ℕ) (at fat : ℕ) (why : DecodeWhy) → 1 ≤ at → at ≤ length b → FieldFault k t b at fat why → 1 ≤ fat
fault_past k t b at fat Short p q f = omega (arith, f.2)
fault_past k t b at fat BadState p q f = omega (arith, f.3)
fault_past k t b at fat BadType p q f = omega (arith, f.3)
fault_past k t b at fat TooLong p q f = omega (arith, f.2)
fault_past k t b at fat Empty p q f = absurd f
fault_past k t b at fat UnknownType p q f = absurd f
fault_past k t b at fat Long p q f = absurd f

pub refusal_is : (code : ℕ) (ks : List FieldKind) (b : List ℕ) (fat : ℕ) (why : DecodeWhy) → kinds_for code ≡ Some ks → slice_get b 0 ≡ Some code → 1 ≤ fat → Refused ks 0 1023 (drop 1 b) (fat - 1) why → Refusal b fat why
refusal_is code ks [] fat why listed first past f = absurd cc
refusal_is code ks (c ∷ b) fat why listed first past f =
    let is : c ≡ code = cc in
    let g = refusal_from code ks listed b (fat - 1) why f in
    let e : suc (fat - 1) ≡ fat = omega arith in
    subst (λ n. Refusal (c ∷ b) n why) e (subst (λ n. Refusal (n ∷ b) (suc (fat - 1)) why) (sym is) g)

pub long_is : (code : ℕ) (ks : List FieldKind) (b ends : List ℕ) (i at t : ℕ) → kinds_for code ≡ Some ks → slice_get b 0 ≡ Some code → Walked ks b ends i at t → length ks ≤ i → at < length b → Refusal b at Long
long_is code ks b ends i at t listed first w past more =
    let none : drop i ks ≡ [] = drop_all i ks past in
    let g = long_refused t (1024 - at) (get_or b at 0) (drop (at + 1) b) (omega (arith, w.space more)) in
    let h = subst (λ l. Refused l t (1024 - at) (get_or b at 0 ∷ drop (at + 1) b) 0 Long) (sym none) g in
    let f = w.refused 0 Long (subst (λ l. Refused (drop i ks) t (1024 - at) l 0 Long) (sym (drop_more b at 0 more)) h) in
    refusal_is code ks b at Long listed first w.past (subst (λ n. Refused ks 0 1023 (drop 1 b) n Long) (omega (arith, w.past)) f)

pub ends_are : (ks : List FieldKind) (b ends : List ℕ) (i at t : ℕ) → Walked ks b ends i at t → length ks ≤ i → length ends ≤ i → length b ≤ at → AreEnds ks 0 b 1 ends
ends_are ks b ends i at t w past whole end =
    let none : drop i ks ≡ [] = drop_all i ks past in
    let e : AreEnds (drop i ks) t b at [] = subst (λ l. AreEnds l t b at []) (sym none) (omega (arith, w.within)) in
    subst (AreEnds ks 0 b 1) (append-nil (take i ends) ∙ take_all i ends whole) (w.joins [] e)

-- ---- over the fields of a constant

module _ (fields : List Field) (b ends : List ℕ) (i at t : ℕ) (fits : IsBytes b) (w : Walked (kinds_of fields) b ends i at t) (lt : i < length fields) where
  kind_here : FieldKind
  kind_here = (get_or fields i no_field).kind

  pub walked_more : (end t' : ℕ) → length ends ≡ length fields → (at ≤ end) × (end ≤ length b) → IsPiece (get_or fields i no_field).kind t (slice_range b at end) → ((get_or fields i no_field).kind ≡ Rest → (end ≡ length b) × (length b ≤ 1024)) → t' ≡ type_after (get_or fields i no_field).kind t (slice_range b at end) → Walked (kinds_of fields) b (set ends i end) (i + 1) end t'
  walked_more end t' size inside p rest te =
      let k = (get_or fields i no_field).kind in
      let here = here_is fields i lt in
      elim (sized_or_rest k) [
        | inl s ↦ walked_sized (kinds_of fields) b ends i at t k fits w here end t' s inside.0 inside.1 p te (omega arith)
        | inr is ↦ walked_rest (kinds_of fields) b ends i at t k fits w here end t' is (rest is).0 (rest is).1 p te (omega arith)
      ]

  pub fault_is : (code : ℕ) (fat : ℕ) (why : DecodeWhy) → kinds_for code ≡ Some (kinds_of fields) → slice_get b 0 ≡ Some code → FieldFault (get_or fields i no_field).kind t b at fat why → Refusal b fat why
  fault_is code fat why listed first f =
      refusal_is code (kinds_of fields) b fat why listed first (fault_past (get_or fields i no_field).kind t b at fat why w.past w.within f) (fault_refused (kinds_of fields) b ends i at t (get_or fields i no_field).kind fits w (here_is fields i lt) fat why f)

pub first_is : (b : List ℕ) (code : ℕ) → 0 < length b → slice_index b 0 ≡ code → slice_get b 0 ≡ Some code
first_is [] code some e = absurd (omega arith)
first_is (c ∷ b) code some e = ap (λ (n : ℕ). Some n) e
