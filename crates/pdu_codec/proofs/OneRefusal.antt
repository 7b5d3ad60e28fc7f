-- Bytes that are no message have one refusal.
use Rattle.std.proofs.Common.{◌≡◌, ℕ, ◌+◌, ◌-◌, ◌<◌, ◌≤◌, inl, inr, true, ltb, List, [], ◌∷◌, ◌++◌, length, get_or, take, drop, refl, sym, ap, subst, ◌∙◌, arith, Option, Some, None}
use Rattle.std.proofs.lemmas.List.{length-append, length-take, length-drop, take-append-drop, take_all, append_assoc, nil_from_length}
use Rattle.std.proofs.lemmas.Bool.{cases_lt, lt-ltb, le-ltb, and_parts}
use Rattle.pdu_layout.specs.declared.fields.FieldKind.{FieldKind}
use Rattle.pdu_layout.specs.declared.fields.FieldKind.TheVariants.{StateCode, TypeCode, Rest}
use Rattle.pdu_layout.specs.Fields.{field_width, bytes_of, type_after, spelled, FitEach, kind_at, FieldValue}
use Rattle.pdu_layout.specs.Table.{kinds_for}
use Rattle.pdu_layout.specs.Message.{Message, Spells}
use Rattle.pdu_codec.specs.declared.faults.DecodeWhy.{DecodeWhy}
use Rattle.pdu_codec.specs.declared.faults.DecodeWhy.TheVariants.{Empty, UnknownType, Short, Long, BadState, BadType, TooLong}
use Rattle.pdu_codec.specs.Refusals.{IsSpelling, NextIsIn, Refusal}
use Rattle.pdu_codec.proofs.Values.{length-bytes_of}
use Rattle.pdu_codec.proofs.Suffix.{same_cut}
use Rattle.pdu_codec.proofs.Walk.{rest_is_last, row_passes, sized_or_rest}
use Rattle.pdu_codec.proofs.OneSpelling.{rest_after}
use Rattle.pdu_layout.proofs.Spellings.{same_kinds}

pub one_place : (b : List ℕ) (m n : ℕ) (v w : DecodeWhy) → Refusal b m v → Refusal b n w → m ≡ n
one_place b m n v w r s =
    elim (cases_lt m n) [
      | inl below ↦ absurd (r.longest n below s.within s.begins)
      | inr le ↦
          elim (cases_lt n m) [
            | inl below ↦ absurd (s.longest m below r.within r.begins)
            | inr ge ↦ omega arith
          ]
    ]

-- ---- the kind of the next byte

-- the kind of the byte at a place past the first field
kind_past : (k : FieldKind) (ks : List FieldKind) (t : ℕ) (w : FieldValue) (ws : List FieldValue) (i : ℕ) → length (bytes_of k t w) ≤ i → kind_at (k ∷ ks) t (w ∷ ws) i ≡ kind_at ks (type_after k t (bytes_of k t w)) ws (i - length (bytes_of k t w))
kind_past k ks t w ws i le = rw (le-ltb i (length (bytes_of k t w)) le) refl

kind_first : (k : FieldKind) (ks : List FieldKind) (t : ℕ) (w : FieldValue) (ws : List FieldValue) (i : ℕ) → i < length (bytes_of k t w) → kind_at (k ∷ ks) t (w ∷ ws) i ≡ Some k
kind_first k ks t w ws i lt = rw (lt-ltb i (length (bytes_of k t w)) lt) refl

one_kind : (a b : FieldKind) (o : Option FieldKind) → o ≡ Some a → o ≡ Some b → a ≡ b
one_kind a b o e f = cc

-- in a rest, each byte is of the rest
rest_kind : (ks : List FieldKind) (t : ℕ) (ws : List FieldValue) (i : ℕ) (a : FieldKind) → rest_is_last (Rest ∷ ks) ≡ true → kind_at (Rest ∷ ks) t ws i ≡ Some a → a ≡ Rest
rest_kind [] t [] i a r e = absurd cc
rest_kind [] t (w ∷ ws) i a r e =
    elim (cases_lt i (length (bytes_of Rest t w))) [
      | inl lt ↦ one_kind a Rest (kind_at (Rest ∷ []) t (w ∷ ws) i) e (kind_first Rest [] t w ws i lt)
      | inr le ↦ let f : None ≡ Some a = sym (kind_past Rest [] t w ws i le) ∙ e in absurd cc
    ]
rest_kind (k ∷ ks) t ws i a r e = absurd cc

rest_kind_at : (k : FieldKind) (ks : List FieldKind) (t : ℕ) (ws : List FieldValue) (i : ℕ) (a : FieldKind) → k ≡ Rest → rest_is_last (k ∷ ks) ≡ true → kind_at (k ∷ ks) t ws i ≡ Some a → a ≡ Rest
rest_kind_at k ks t ws i a is = subst (λ (j : FieldKind). rest_is_last (j ∷ ks) ≡ true → kind_at (j ∷ ks) t ws i ≡ Some a → a ≡ Rest) (sym is) (rest_kind ks t ws i a)

-- what follows whole values of the fields stands in a rest
past_rest : (ks : List FieldKind) (t : ℕ) (vs ws : List FieldValue) (more : List ℕ) (a : FieldKind) → rest_is_last ks ≡ true → FitEach ks t vs → FitEach ks t ws → spelled ks t vs ++ more ≡ spelled ks t ws → kind_at ks t ws (length (spelled ks t vs)) ≡ Some a → a ≡ Rest
past_rest [] t vs ws more a r f g e h = absurd cc
past_rest (k ∷ ks) t [] ws more a r f g e h = absurd f
past_rest (k ∷ ks) t (v ∷ vs) [] more a r f g e h = absurd g
past_rest (k ∷ ks) t (v ∷ vs) (w ∷ ws) more a r f g e h =
    elim (sized_or_rest k) [
      | inr is ↦ rest_kind_at k ks t (w ∷ ws) (length (spelled (k ∷ ks) t (v ∷ vs))) a is r h
      | inl s ↦
          let x = bytes_of k t v in
          let y = bytes_of k t w in
          let u = spelled ks (type_after k t x) vs in
          let same : length x ≡ length y = length-bytes_of k t v s f.0 ∙ sym (length-bytes_of k t w s g.0) in
          let cut = same_cut x y (u ++ more) (spelled ks (type_after k t y) ws) same (sym (append_assoc x u more) ∙ e) in
          let size : length (x ++ u) ≡ length x + length u = length-append x u in
          let rest : length (x ++ u) - length y ≡ length u = omega (arith, size, same) in
          let there : kind_at ks (type_after k t y) ws (length u) ≡ Some a = ap (kind_at ks (type_after k t y) ws) (sym rest) ∙ sym (kind_past k ks t w ws (length (x ++ u)) (omega (arith, size, same))) ∙ h in
          past_rest ks (type_after k t x) vs ws more a (rest_after k ks s r) f.1 (subst (λ (z : List ℕ). FitEach ks (type_after k t z) ws) (sym cut.0) g.1) (cut.1 ∙ ap (λ (z : List ℕ). spelled ks (type_after k t z) ws) (sym cut.0)) (subst (λ (z : List ℕ). kind_at ks (type_after k t z) ws (length u) ≡ Some a) (sym cut.0) there)
    ]

-- the next byte after one front is of one kind
same_next : (ks : List FieldKind) (t : ℕ) (vs ws : List FieldValue) (x l m : List ℕ) (a b : FieldKind) → rest_is_last ks ≡ true → FitEach ks t vs → FitEach ks t ws → x ++ l ≡ spelled ks t vs → x ++ m ≡ spelled ks t ws → kind_at ks t vs (length x) ≡ Some a → kind_at ks t ws (length x) ≡ Some b → a ≡ b
same_next [] t vs ws x l m a b r f g d e h i = absurd cc
same_next (k ∷ ks) t [] ws x l m a b r f g d e h i = absurd f
same_next (k ∷ ks) t (v ∷ vs) [] x l m a b r f g d e h i = absurd g
same_next (k ∷ ks) t (v ∷ vs) (w ∷ ws) x l m a b r f g d e h i =
    elim (sized_or_rest k) [
      | inr is ↦ rest_kind_at k ks t (v ∷ vs) (length x) a is r h ∙ sym (rest_kind_at k ks t (w ∷ ws) (length x) b is r i)
      | inl s ↦
          let y = bytes_of k t v in
          let z = bytes_of k t w in
          let n = field_width k t in
          let wy : length y ≡ n = length-bytes_of k t v s f.0 in
          let wz : length z ≡ n = length-bytes_of k t w s g.0 in
          elim (cases_lt (length x) n) [
            | inl lt ↦ one_kind a k (kind_at (k ∷ ks) t (v ∷ vs) (length x)) h (kind_first k ks t v vs (length x) (omega (arith, wy))) ∙ sym (one_kind b k (kind_at (k ∷ ks) t (w ∷ ws) (length x)) i (kind_first k ks t w ws (length x) (omega (arith, wz))))
            | inr le ↦
                let front : length (take n x) ≡ n = omega (arith, length-take n x) in
                let parts : (p : List ℕ) → take n x ++ (drop n x ++ p) ≡ x ++ p = λ p. sym (append_assoc (take n x) (drop n x) p) ∙ ap (λ q. q ++ p) (take-append-drop n x) in
                let cv = same_cut (take n x) y (drop n x ++ l) (spelled ks (type_after k t y) vs) (front ∙ sym wy) (parts l ∙ d) in
                let cw = same_cut (take n x) z (drop n x ++ m) (spelled ks (type_after k t z) ws) (front ∙ sym wz) (parts m ∙ e) in
                let one : z ≡ y = sym cw.0 ∙ cv.0 in
                let left : length (drop n x) ≡ length x - n = length-drop n x in
                let hv : kind_at ks (type_after k t y) vs (length (drop n x)) ≡ Some a = ap (kind_at ks (type_after k t y) vs) (omega (arith, left, wy)) ∙ sym (kind_past k ks t v vs (length x) (omega (arith, wy))) ∙ h in
                let hw : kind_at ks (type_after k t z) ws (length (drop n x)) ≡ Some b = ap (kind_at ks (type_after k t z) ws) (omega (arith, left, wz)) ∙ sym (kind_past k ks t w ws (length x) (omega (arith, wz))) ∙ i in
                same_next ks (type_after k t y) vs ws (drop n x) l m a b (rest_after k ks s r) f.1 (subst (λ (q : List ℕ). FitEach ks (type_after k t q) ws) one g.1) cv.1 (cw.1 ∙ ap (λ (q : List ℕ). spelled ks (type_after k t q) ws) one) hv (subst (λ (q : List ℕ). kind_at ks (type_after k t q) ws (length (drop n x)) ≡ Some b) one hw)
          ]
    ]

-- ---- messages

last_in : (p : Message) (b : List ℕ) (s : Spells p b) → rest_is_last s.kinds ≡ true
last_in p b s = (and_parts (rest_is_last s.kinds) (ltb (length s.kinds) 60) (row_passes p.code s.kinds s.listed)).0

-- two spellings with one first byte are of one layout
module _ (p q : Message) (x y : List ℕ) (s : Spells p x) (u : Spells q y) (first : get_or x 0 0 ≡ get_or y 0 0) where
  codes : p.code ≡ q.code
  codes = sym (ap (λ (l : List ℕ). get_or l 0 0) s.bytes) ∙ first ∙ ap (λ (l : List ℕ). get_or l 0 0) u.bytes

  kinds : u.kinds ≡ s.kinds
  kinds = sym (same_kinds s.kinds u.kinds (kinds_for p.code) s.listed (subst (λ (n : ℕ). kinds_for n ≡ Some u.kinds) (sym codes) u.listed))

one_byte : (x more : List ℕ) → 0 < length x → get_or x 0 0 ≡ get_or (x ++ more) 0 0
one_byte [] more lt = absurd (omega arith)
one_byte (c ∷ x) more lt = refl

tail : (x more : List ℕ) → 0 < length x → drop 1 (x ++ more) ≡ drop 1 x ++ more
tail [] more lt = absurd (omega arith)
tail (c ∷ x) more lt = refl

tail_length : (x : List ℕ) → length x - 1 ≡ length (drop 1 x)
tail_length x = sym (length-drop 1 x)

spelled_next : (x : List ℕ) (a : FieldKind) → IsSpelling x → NextIsIn a x → a ≡ Rest
spelled_next x a (p, s) (q, more, u, some, next) =
    let e : u.kinds ≡ s.kinds = kinds p q x (x ++ more) s u (one_byte x more some) in
    let xs : drop 1 x ≡ spelled s.kinds 0 p.values = ap (drop 1) s.bytes in
    let ys : drop 1 x ++ more ≡ spelled s.kinds 0 q.values = sym (tail x more some) ∙ ap (drop 1) u.bytes ∙ ap (λ l. spelled l 0 q.values) e in
    past_rest s.kinds 0 p.values q.values more a (last_in p x s) s.fits (subst (λ l. FitEach l 0 q.values) e u.fits) (ap (λ l. l ++ more) (sym xs) ∙ ys) (ap (kind_at s.kinds 0 q.values) (ap length (sym xs) ∙ sym (tail_length x)) ∙ ap (λ l. kind_at l 0 q.values (length x - 1)) (sym e) ∙ next)

next_once : (x : List ℕ) (a b : FieldKind) → NextIsIn a x → NextIsIn b x → a ≡ b
next_once x a b (p, l, s, some, next) (q, m, u, some', next') =
    let e : u.kinds ≡ s.kinds = kinds p q (x ++ l) (x ++ m) s u (sym (one_byte x l some) ∙ one_byte x m some) in
    let xs : drop 1 x ++ l ≡ spelled s.kinds 0 p.values = sym (tail x l some) ∙ ap (drop 1) s.bytes in
    let ys : drop 1 x ++ m ≡ spelled s.kinds 0 q.values = sym (tail x m some) ∙ ap (drop 1) u.bytes ∙ ap (λ l. spelled l 0 q.values) e in
    same_next s.kinds 0 p.values q.values (drop 1 x) l m a b (last_in p (x ++ l) s) s.fits (subst (λ l. FitEach l 0 q.values) e u.fits) xs ys (ap (kind_at s.kinds 0 p.values) (sym (tail_length x)) ∙ next) (ap (kind_at s.kinds 0 q.values) (sym (tail_length x)) ∙ ap (λ l. kind_at l 0 q.values (length x - 1)) (sym e) ∙ next')

-- ---- the causes

spelling_some : (x : List ℕ) → IsSpelling x → 0 < length x
spelling_some x (p, s) = omega (arith, ap length s.bytes)

no_state_rest : StateCode ≡ Rest → ⊥
no_state_rest e = cc

no_type_rest : TypeCode ≡ Rest → ⊥
no_type_rest e = cc

no_state_type : StateCode ≡ TypeCode → ⊥
no_state_type e = cc

module _ (b : List ℕ) (at : ℕ) where
  apart : (v w : DecodeWhy) → Refusal b at v → Refusal b at w → v ≡ w
  apart Empty Empty r s = refl
  apart Empty Short r s = absurd (s.cause.0 r.cause)
  apart Empty UnknownType r s = absurd (s.cause.0 r.cause)
  apart Empty Long r s = absurd (omega (arith, length-take at b, spelling_some (take at b) s.cause.0, ap length r.cause))
  apart Empty TooLong r s = absurd (omega (arith, length-take at b, spelling_some (take at b) s.cause.0, ap length r.cause))
  apart Empty BadState r s = absurd (omega (arith, s.cause.0, ap length r.cause))
  apart Empty BadType r s = absurd (omega (arith, s.cause.0, ap length r.cause))
  apart Short Empty r s = absurd (r.cause.0 s.cause)
  apart Short Short r s = refl
  apart Short UnknownType r s = absurd (s.cause.0 (nil_from_length b (omega (arith, r.cause.1, s.cause.1))))
  apart Short Long r s = absurd (r.unspelled s.cause.0.0 (subst (Spells s.cause.0.0) (take_all at b (omega (arith, r.cause.1))) s.cause.0.1))
  apart Short TooLong r s = absurd (r.unspelled s.cause.0.0 (subst (Spells s.cause.0.0) (take_all at b (omega (arith, r.cause.1))) s.cause.0.1))
  apart Short BadState r s = absurd (omega (arith, r.cause.1, s.cause.0))
  apart Short BadType r s = absurd (omega (arith, r.cause.1, s.cause.0))
  apart UnknownType Empty r s = absurd (r.cause.0 s.cause)
  apart UnknownType Short r s = absurd (r.cause.0 (nil_from_length b (omega (arith, s.cause.1, r.cause.1))))
  apart UnknownType UnknownType r s = refl
  apart UnknownType Long r s = absurd (omega (arith, length-take at b, spelling_some (take at b) s.cause.0, r.cause.1))
  apart UnknownType TooLong r s = absurd (omega (arith, r.cause.1, s.cause.1))
  apart UnknownType BadState r s = absurd (omega (arith, length-take at b, s.cause.1.3, r.cause.1))
  apart UnknownType BadType r s = absurd (omega (arith, length-take at b, s.cause.1.3, r.cause.1))
  apart Long Empty r s = absurd (omega (arith, length-take at b, spelling_some (take at b) r.cause.0, ap length s.cause))
  apart Long Short r s = absurd (s.unspelled r.cause.0.0 (subst (Spells r.cause.0.0) (take_all at b (omega (arith, s.cause.1))) r.cause.0.1))
  apart Long UnknownType r s = absurd (omega (arith, length-take at b, spelling_some (take at b) r.cause.0, s.cause.1))
  apart Long Long r s = refl
  apart Long TooLong r s = absurd (omega (arith, r.cause.1, s.cause.1))
  apart Long BadState r s = absurd (no_state_rest (spelled_next (take at b) StateCode r.cause.0 s.cause.1))
  apart Long BadType r s = absurd (no_type_rest (spelled_next (take at b) TypeCode r.cause.0 s.cause.1))
  apart TooLong Empty r s = absurd (omega (arith, length-take at b, spelling_some (take at b) r.cause.0, ap length s.cause))
  apart TooLong Short r s = absurd (s.unspelled r.cause.0.0 (subst (Spells r.cause.0.0) (take_all at b (omega (arith, s.cause.1))) r.cause.0.1))
  apart TooLong UnknownType r s = absurd (omega (arith, s.cause.1, r.cause.1))
  apart TooLong Long r s = absurd (omega (arith, s.cause.1, r.cause.1))
  apart TooLong TooLong r s = refl
  apart TooLong BadState r s = absurd (no_state_rest (spelled_next (take at b) StateCode r.cause.0 s.cause.1))
  apart TooLong BadType r s = absurd (no_type_rest (spelled_next (take at b) TypeCode r.cause.0 s.cause.1))
  apart BadState Empty r s = absurd (omega (arith, r.cause.0, ap length s.cause))
  apart BadState Short r s = absurd (omega (arith, s.cause.1, r.cause.0))
  apart BadState UnknownType r s = absurd (omega (arith, length-take at b, r.cause.1.3, s.cause.1))
  apart BadState Long r s = absurd (no_state_rest (spelled_next (take at b) StateCode s.cause.0 r.cause.1))
  apart BadState TooLong r s = absurd (no_state_rest (spelled_next (take at b) StateCode s.cause.0 r.cause.1))
  apart BadState BadState r s = refl
  apart BadState BadType r s = absurd (no_state_type (next_once (take at b) StateCode TypeCode r.cause.1 s.cause.1))
  apart BadType Empty r s = absurd (omega (arith, r.cause.0, ap length s.cause))
  apart BadType Short r s = absurd (omega (arith, s.cause.1, r.cause.0))
  apart BadType UnknownType r s = absurd (omega (arith, length-take at b, r.cause.1.3, s.cause.1))
  apart BadType Long r s = absurd (no_type_rest (spelled_next (take at b) TypeCode s.cause.0 r.cause.1))
  apart BadType TooLong r s = absurd (no_type_rest (spelled_next (take at b) TypeCode s.cause.0 r.cause.1))
  apart BadType BadState r s = absurd (no_state_type (next_once (take at b) StateCode TypeCode s.cause.1 r.cause.1))
  apart BadType BadType r s = refl

pub one_refusal : (b : List ℕ) (m n : ℕ) (v w : DecodeWhy) → Refusal b m v → Refusal b n w → (m ≡ n) × (v ≡ w)
one_refusal b m n v w r s =
    let e = one_place b m n v w r s in
    (e, apart b m v w r (subst (λ (k : ℕ). Refusal b k w) (sym e) s))
