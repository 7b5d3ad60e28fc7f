-- What the rest of the bytes says of the rest of a row's fields: each fault is that of the longest front.
use Rattle.std.proofs.Common.{◌≡◌, ℕ, zero, suc, ◌+◌, ◌-◌, ◌*◌, ◌%◌, ◌<◌, ◌≤◌, false, ltb, List, [], ◌∷◌, ◌++◌, length, get_or, take, drop, replicate, refl, sym, ap, subst, ◌∙◌, arith, inl, inr, Some, append_assoc}
use Rattle.std.specs.Prelude.{ℤ, pos}
use Rattle.std.proofs.lemmas.List.{length-append, length-take, length-replicate, take_all, append-nil, get_or-append-add, get_or_append_left, get_or-replicate, get_or_past}
use Rattle.std.proofs.lemmas.Bool.{cases_lt, le-ltb}
use Rattle.std.proofs.Math.Seq.{take-append-add}
use Rattle.std.proofs.lemmas.List.{length-reverse}
use Rattle.pdu_layout.specs.declared.fields.FieldKind.{FieldKind}
use Rattle.pdu_layout.specs.declared.fields.FieldKind.TheVariants.{U8, U16, U32, U64, I64, StateCode, TypeCode, Value, Uuid, Ip, Rest}
use Rattle.pdu_codec.specs.declared.faults.DecodeWhy.{DecodeWhy}
use Rattle.pdu_codec.specs.declared.faults.DecodeWhy.TheVariants.{Empty, UnknownType, Short, Long, BadState, BadType, TooLong}
use Rattle.dcp_types.specs.Values.{digits}
use Rattle.dcp_types.specs.Values as values
use Rattle.pdu_layout.specs.Fields.{type_from, field_width, limit, Fits, bytes_of, type_after, spelled, FitEach, kind_at, FieldValue}
use Rattle.pdu_layout.specs.Fields.FieldValue.{Number, Signed, Bytes}
use Rattle.pdu_codec.specs.Pieces.{IsPiece, Holds, IsSized}
use Rattle.pdu_codec.proofs.Digits.{IsBytes-take}
use Rattle.dcp_types.proofs.Digits.{length-digits, IsBytes}
use Rattle.pdu_codec.proofs.Values.{width-below, zero_fits, length-bytes_of, value_in, holds}

-- Values of the fields whose bytes begin with x, and are at most m.
pub record Begun (kinds : List FieldKind) (t m : ℕ) (x : List ℕ) : Type 0 where
  pub values : List FieldValue
  pub more : List ℕ
  pub fits : FitEach kinds t values
  pub bytes : x ++ more ≡ spelled kinds t values
  pub at_most : length (x ++ more) ≤ m

pub record Spelled (kinds : List FieldKind) (t m : ℕ) (x : List ℕ) : Type 0 where
  pub values : List FieldValue
  pub fits : FitEach kinds t values
  pub bytes : x ≡ spelled kinds t values
  pub at_most : length x ≤ m

pub record NextIn (kind : FieldKind) (kinds : List FieldKind) (t m : ℕ) (x : List ℕ) : Type 0 where
  pub begun : Begun kinds t m x
  pub next : kind_at kinds t begun.values (length x) ≡ Some kind

abbrev pub Why : List FieldKind → ℕ → ℕ → List ℕ → ℕ → DecodeWhy → Type 0
Why kinds t m r at Empty = ⊥
Why kinds t m r at UnknownType = ⊥
Why kinds t m r at Short = at ≡ length r
Why kinds t m r at Long = Spelled kinds t m (take at r) × (at < m)
Why kinds t m r at TooLong = Spelled kinds t m (take at r) × (at ≡ m)
Why kinds t m r at BadState = (at < length r) × NextIn StateCode kinds t m (take at r)
Why kinds t m r at BadType = (at < length r) × NextIn TypeCode kinds t m (take at r)

pub record Refused (kinds : List FieldKind) (t m : ℕ) (r : List ℕ) (at : ℕ) (why : DecodeWhy) : Type 0 where
  pub unspelled : Spelled kinds t m r → ⊥
  pub within : at ≤ length r
  pub begun : Begun kinds t m (take at r)
  pub longest : (n : ℕ) → at < n → n ≤ length r → Begun kinds t m (take n r) → ⊥
  pub why_is : Why kinds t m r at why

-- ---- lists

-- two ways to cut a list at one place
pub same_cut : (a b x y : List ℕ) → length a ≡ length b → a ++ x ≡ b ++ y → (a ≡ b) × (x ≡ y)
same_cut [] [] x y e h = (refl, h)
same_cut [] (c ∷ b) x y e h = absurd (omega arith)
same_cut (c ∷ a) [] x y e h = absurd (omega arith)
same_cut (c ∷ a) (d ∷ b) x y e h =
    let heads : c ≡ d = ap (λ l. get_or l 0 0) h in
    let tails : a ++ x ≡ b ++ y = ap (drop 1) h in
    let s = same_cut a b x y (omega arith) tails in
    (ap (λ n. n ∷ a) heads ∙ ap (λ l. d ∷ l) s.0, s.1)

-- ---- one field more in front

spelled_after : (k : FieldKind) (ks : List FieldKind) (t m : ℕ) (v : FieldValue) (x r : List ℕ) → Holds k t v x → length x ≤ m → Spelled ks (type_after k t x) (m - length x) r → Spelled (k ∷ ks) t m (x ++ r)
spelled_after k ks t m v x r h le s = record {
  values = v ∷ s.values;
  fits = (h.fits, subst (λ y. FitEach ks (type_after k t y) s.values) (sym h.bytes) s.fits);
  bytes = rw h.bytes (ap (λ l. x ++ l) s.bytes);
  at_most = omega (arith, length-append x r, s.at_most);
}

begun_after : (k : FieldKind) (ks : List FieldKind) (t m : ℕ) (v : FieldValue) (x r : List ℕ) → Holds k t v x → length x ≤ m → Begun ks (type_after k t x) (m - length x) r → Begun (k ∷ ks) t m (x ++ r)
begun_after k ks t m v x r h le s = record {
  values = v ∷ s.values;
  more = s.more;
  fits = (h.fits, subst (λ y. FitEach ks (type_after k t y) s.values) (sym h.bytes) s.fits);
  bytes = rw h.bytes (append_assoc x r s.more ∙ ap (λ l. x ++ l) s.bytes);
  at_most = omega (arith, length-append (x ++ r) s.more, length-append x r, length-append r s.more, s.at_most);
}

-- what begins with the bytes of the field goes on as the fields after it
begun_rest : (k : FieldKind) (ks : List FieldKind) (t m : ℕ) (x r : List ℕ) → IsSized k → length x ≡ field_width k t → Begun (k ∷ ks) t m (x ++ r) → Begun ks (type_after k t x) (m - length x) r
begun_rest k ks t m x r s len b =
    elim b.values as (λ vs. FitEach (k ∷ ks) t vs → (x ++ r) ++ b.more ≡ spelled (k ∷ ks) t vs → Begun ks (type_after k t x) (m - length x) r) [
      | [] ↦ λ f e. absurd f
      | v ∷ vs ↦ λ f e.
          let cut = same_cut x (bytes_of k t v) (r ++ b.more) (spelled ks (type_after k t (bytes_of k t v)) vs) (len ∙ sym (length-bytes_of k t v s f.0)) (sym (append_assoc x r b.more) ∙ e) in
          record {
            values = vs;
            more = b.more;
            fits = subst (λ y. FitEach ks (type_after k t y) vs) (sym cut.0) f.1;
            bytes = cut.1 ∙ ap (λ y. spelled ks (type_after k t y) vs) (sym cut.0);
            at_most = omega (arith, length-append (x ++ r) b.more, length-append x r, length-append r b.more, b.at_most);
          }
    ] b.fits b.bytes

spelled_rest : (k : FieldKind) (ks : List FieldKind) (t m : ℕ) (x r : List ℕ) → IsSized k → length x ≡ field_width k t → Spelled (k ∷ ks) t m (x ++ r) → Spelled ks (type_after k t x) (m - length x) r
spelled_rest k ks t m x r s len b =
    elim b.values as (λ vs. FitEach (k ∷ ks) t vs → x ++ r ≡ spelled (k ∷ ks) t vs → Spelled ks (type_after k t x) (m - length x) r) [
      | [] ↦ λ f e. absurd f
      | v ∷ vs ↦ λ f e.
          let cut = same_cut x (bytes_of k t v) r (spelled ks (type_after k t (bytes_of k t v)) vs) (len ∙ sym (length-bytes_of k t v s f.0)) e in
          record {
            values = vs;
            fits = subst (λ y. FitEach ks (type_after k t y) vs) (sym cut.0) f.1;
            bytes = cut.1 ∙ ap (λ y. spelled ks (type_after k t y) vs) (sym cut.0);
            at_most = omega (arith, length-append x r, b.at_most);
          }
    ] b.fits b.bytes

next_after : (kind k : FieldKind) (ks : List FieldKind) (t m : ℕ) (v : FieldValue) (x r : List ℕ) → Holds k t v x → length x ≤ m → NextIn kind ks (type_after k t x) (m - length x) r → NextIn kind (k ∷ ks) t m (x ++ r)
unfolding begun_after
next_after kind k ks t m v x r h le n =
    let past : ltb (length (x ++ r)) (length x) ≡ false = le-ltb _ _ (omega (arith, length-append x r)) in
    let rest : length (x ++ r) - length x ≡ length r = omega (arith, length-append x r) in
    record {
      begun = begun_after k ks t m v x r h le n.begun;
      next = rw h.bytes (rw (past, rest) n.next);
    }

module _ (k : FieldKind) (ks : List FieldKind) (t m : ℕ) (v : FieldValue) (x r : List ℕ) (s : IsSized k) (h : Holds k t v x) (len : length x ≡ field_width k t) (le : length x ≤ m) where
  why_after : (at : ℕ) (why : DecodeWhy) → at ≤ length r → Why ks (type_after k t x) (m - length x) r at why → Why (k ∷ ks) t m (x ++ r) (length x + at) why
  why_after at Empty in_r w = absurd w
  why_after at UnknownType in_r w = absurd w
  why_after at Short in_r w = omega (arith, length-append x r)
  why_after at Long in_r w = (rw (take-append-add x r at) (spelled_after k ks t m v x (take at r) h le w.0), omega (arith, w.1))
  why_after at TooLong in_r w = (rw (take-append-add x r at) (spelled_after k ks t m v x (take at r) h le w.0), omega (arith, w.1))
  why_after at BadState in_r w = (omega (arith, w.0, length-append x r), rw (take-append-add x r at) (next_after StateCode k ks t m v x (take at r) h le w.1))
  why_after at BadType in_r w = (omega (arith, w.0, length-append x r), rw (take-append-add x r at) (next_after TypeCode k ks t m v x (take at r) h le w.1))

  pub refused_after : (at : ℕ) (why : DecodeWhy) → Refused ks (type_after k t x) (m - length x) r at why → Refused (k ∷ ks) t m (x ++ r) (length x + at) why
  refused_after at why f = record {
    unspelled = λ b. f.unspelled (spelled_rest k ks t m x r s len b);
    within = omega (arith, f.within, length-append x r);
    begun = rw (take-append-add x r at) (begun_after k ks t m v x (take at r) h le f.begun);
    longest = λ n above below b.
        let j = n - length x in
        let e : n ≡ length x + j = omega arith in
        let cut : take n (x ++ r) ≡ x ++ take j r = ap (λ i. take i (x ++ r)) e ∙ take-append-add x r j in
        f.longest j (omega arith) (omega (arith, length-append x r)) (begun_rest k ks t m x (take j r) s len (subst (Begun (k ∷ ks) t m) cut b));
    why_is = why_after at why f.within f.why_is;
  }

-- ---- any values

abbrev any_value : FieldKind → FieldValue
any_value I64 = Signed (pos 0)
any_value Value = Signed (pos 0)
any_value Rest = Bytes []
any_value k = Number 0

fits-any : (k : FieldKind) (t : ℕ) → Fits k t (any_value k) × (length (bytes_of k t (any_value k)) ≤ 16)
fits-any U8 t = (omega arith, omega (arith, length-digits 1 0))
fits-any U16 t = (omega arith, omega (arith, length-digits 2 0))
fits-any U32 t = (omega arith, omega (arith, length-digits 4 0))
fits-any U64 t = (omega arith, omega (arith, length-digits 8 0))
fits-any StateCode t = (omega arith, omega (arith, length-digits 1 0))
fits-any TypeCode t = (omega arith, omega (arith, length-digits 1 0))
fits-any Ip t = (omega arith, omega (arith, length-digits 4 0))
fits-any Uuid t = (omega arith, omega (arith, length-reverse (digits 16 0), length-digits 16 0))
fits-any I64 t = (refl, omega (arith, length-digits 8 0))
fits-any Value t = (zero_fits (type_from t), omega (arith, length-digits (values.width (type_from t)) 0, width-below t))
fits-any Rest t = (λ i. omega arith, omega arith)

pub any_values : (ks : List FieldKind) (t : ℕ) → (vs : List FieldValue) × FitEach ks t vs × (length (spelled ks t vs) ≤ 16 * length ks)
any_values [] t = ([], tt, omega arith)
any_values (k ∷ ks) t =
    let v = any_value k in
    let f = fits-any k t in
    let rest = any_values ks (type_after k t (bytes_of k t v)) in
    (v ∷ rest.0, (f.0, rest.1), omega (arith, f.1, rest.2, length-append (bytes_of k t v) (spelled ks (type_after k t (bytes_of k t v)) rest.0)))

-- ---- the faults of one field

-- some values follow, within the room
begun_any : (k : FieldKind) (ks : List FieldKind) (t m : ℕ) (v : FieldValue) (x y : List ℕ) → Holds k t v (x ++ y) → length (x ++ y) + 16 * length ks ≤ m → Begun (k ∷ ks) t m x
begun_any k ks t m v x y h room =
    let t' = type_after k t (x ++ y) in
    let rest = any_values ks t' in
    record {
      values = v ∷ rest.0;
      more = y ++ spelled ks t' rest.0;
      fits = (h.fits, subst (λ z. FitEach ks (type_after k t z) rest.0) (sym h.bytes) rest.1);
      bytes = rw h.bytes (sym (append_assoc x y (spelled ks t' rest.0)));
      at_most = omega (arith, rest.2, length-append x (y ++ spelled ks t' rest.0), length-append y (spelled ks t' rest.0), length-append x y);
    }

begun_nothing : (ks : List FieldKind) (t m : ℕ) → 16 * length ks ≤ m → Begun ks t m []
begun_nothing ks t m room =
    let any = any_values ks t in
    record { values = any.0; more = spelled ks t any.0; fits = any.1; bytes = refl; at_most = omega (arith, any.2) }

IsBytes-pad : (r : List ℕ) (n : ℕ) → IsBytes r → IsBytes (r ++ replicate n 0)
IsBytes-pad r n h i =
    elim (cases_lt i (length r)) [
      | inl lt ↦ rw (get_or_append_left r (replicate n 0) 0 i lt) (h i)
      | inr le ↦
          let e : i ≡ length r + (i - length r) = omega arith in
          rw e (rw (get_or-append-add r (replicate n 0) (i - length r) 0) (zeros n (i - length r)))
    ]
  where
    zeros : (n i : ℕ) → get_or (replicate n 0) i 0 < 256
    zeros n i =
        elim (cases_lt i n) [
          | inl lt ↦ rw (get_or-replicate {A = ℕ} n i 0 0 lt) (omega arith)
          | inr le ↦ rw (get_or_past {X = ℕ} (replicate n 0) i 0 (omega (arith, length-replicate {A = ℕ} n 0))) (omega arith)
        ]

-- the bytes that are there, and zeros
padded_is_piece : (k : FieldKind) (t : ℕ) (r : List ℕ) → IsSized k → length r < field_width k t → IsPiece k t (r ++ replicate (field_width k t - length r) 0)
padded_is_piece StateCode t [] s lt = (refl, omega arith)
padded_is_piece TypeCode t [] s lt = (refl, omega arith)
padded_is_piece StateCode t (c ∷ r) s lt = absurd (omega arith)
padded_is_piece TypeCode t (c ∷ r) s lt = absurd (omega arith)
padded_is_piece Rest t r s lt = absurd s
padded_is_piece k t r s lt = length-append r (replicate (field_width k t - length r) 0) ∙ omega (arith, length-replicate {A = ℕ} (field_width k t - length r) 0)

pub width-at_most : (k : FieldKind) (t : ℕ) → field_width k t ≤ 16
width-at_most Value t = omega (arith, width-below t)
width-at_most U8 t = omega arith
width-at_most U16 t = omega arith
width-at_most U32 t = omega arith
width-at_most U64 t = omega arith
width-at_most I64 t = omega arith
width-at_most StateCode t = omega arith
width-at_most TypeCode t = omega arith
width-at_most Uuid t = omega arith
width-at_most Ip t = omega arith
width-at_most Rest t = omega arith

spelled_long : (k : FieldKind) (ks : List FieldKind) (t m : ℕ) (r : List ℕ) → IsSized k → Spelled (k ∷ ks) t m r → field_width k t ≤ length r
spelled_long k ks t m r s b =
    elim b.values as (λ vs. FitEach (k ∷ ks) t vs → r ≡ spelled (k ∷ ks) t vs → field_width k t ≤ length r) [
      | [] ↦ λ f e. absurd f
      | v ∷ vs ↦ λ f e. omega (arith, ap length e, length-append (bytes_of k t v) (spelled ks (type_after k t (bytes_of k t v)) vs), length-bytes_of k t v s f.0)
    ] b.fits b.bytes

pub short_refused : (k : FieldKind) (ks : List FieldKind) (t m : ℕ) (r : List ℕ) → IsSized k → IsBytes r → length r < field_width k t → 16 * length (k ∷ ks) ≤ m → Refused (k ∷ ks) t m r (length r) Short
short_refused k ks t m r s fits lt room =
    let pad : List ℕ = replicate (field_width k t - length r) 0 in
    let h = holds k t (r ++ pad) (IsBytes-pad r (field_width k t - length r) fits) (padded_is_piece k t r s lt) in
    let len : length (r ++ pad) ≡ field_width k t = length-append r pad ∙ omega (arith, length-replicate {A = ℕ} (field_width k t - length r) 0) in
    record {
      unspelled = λ b. absurd (omega (arith, spelled_long k ks t m r s b));
      within = omega arith;
      begun = rw (take_all (length r) r (omega arith)) (begun_any k ks t m (value_in k t (r ++ pad)) r pad h (omega (arith, len, width-at_most k t)));
      longest = λ n above below b. absurd (omega arith);
      why_is = refl;
    }

-- the byte of a field of one byte, which begins some spelling
begun_first : (k : FieldKind) (ks : List FieldKind) (t m c : ℕ) (r : List ℕ) → field_width k t ≡ 1 → IsSized k → Begun (k ∷ ks) t m (c ∷ r) → (v : FieldValue) × Fits k t v × (bytes_of k t v ≡ c ∷ [])
begun_first k ks t m c r one s b =
    elim b.values as (λ vs. FitEach (k ∷ ks) t vs → (c ∷ r) ++ b.more ≡ spelled (k ∷ ks) t vs → (v : FieldValue) × Fits k t v × (bytes_of k t v ≡ c ∷ [])) [
      | [] ↦ λ f e. absurd f
      | v ∷ vs ↦ λ f e. (v, f.0, sym (same_cut (c ∷ []) (bytes_of k t v) (r ++ b.more) (spelled ks (type_after k t (bytes_of k t v)) vs) (sym one ∙ sym (length-bytes_of k t v s f.0)) e).0)
    ] b.fits b.bytes

code_below : (k : FieldKind) (t : ℕ) (v : FieldValue) (c n : ℕ) → limit k ≡ n → n ≤ 256 → ((w : ℕ) → bytes_of k t (Number w) ≡ digits 1 w) → ((z : ℤ) → Fits k t (Signed z) → ⊥) → ((bs : List ℕ) → Fits k t (Bytes bs) → ⊥) → Fits k t v → bytes_of k t v ≡ c ∷ [] → c < n
unfolding digits
code_below k t (Number w) c n e small d no_signed no_bytes f b =
    let same : w % 256 ≡ c = ap (λ (l : List ℕ). get_or l 0 0) (sym (d w) ∙ b) in
    omega (arith, f, e, same)
code_below k t (Signed z) c n e small d no_signed no_bytes f b = absurd (no_signed z f)
code_below k t (Bytes bs) c n e small d no_signed no_bytes f b = absurd (no_bytes bs f)

next_here : (k : FieldKind) (ks : List FieldKind) (t m : ℕ) → IsSized k → field_width k t ≡ 1 → 16 * length (k ∷ ks) ≤ m → NextIn k (k ∷ ks) t m []
unfolding begun_nothing any_values
next_here k ks t m s one room =
    let len : length (bytes_of k t (any_value k)) ≡ 1 = length-bytes_of k t (any_value k) s (fits-any k t).0 ∙ one in
    record {
      begun = begun_nothing (k ∷ ks) t m room;
      next = rw len refl;
    }

bad_refused : (k : FieldKind) (ks : List FieldKind) (t m c : ℕ) (r : List ℕ) (why : DecodeWhy) → IsSized k → field_width k t ≡ 1 → ((v : FieldValue) → Fits k t v → bytes_of k t v ≡ c ∷ [] → ⊥) → 16 * length (k ∷ ks) ≤ m → Why (k ∷ ks) t m (c ∷ r) 0 why → Refused (k ∷ ks) t m (c ∷ r) 0 why
bad_refused k ks t m c r why s one none room w = record {
  unspelled = λ b. let f = begun_first k ks t m c r one s (record { values = b.values; more = []; fits = b.fits; bytes = append-nil (c ∷ r) ∙ b.bytes; at_most = omega (arith, b.at_most, ap length (append-nil (c ∷ r))) }) in none f.0 f.1 f.2;
  within = omega arith;
  begun = begun_nothing (k ∷ ks) t m room;
  longest = λ n above below b. at_front n above b;
  why_is = w;
}
  where
    at_front : (n : ℕ) → 0 < n → Begun (k ∷ ks) t m (take n (c ∷ r)) → ⊥
    at_front zero lt b = absurd (omega arith)
    at_front (suc n) lt b = let f = begun_first k ks t m c (take n r) one s b in none f.0 f.1 f.2

pub bad_state_refused : (ks : List FieldKind) (t m c : ℕ) (r : List ℕ) → 18 < c → 16 * length (StateCode ∷ ks) ≤ m → Refused (StateCode ∷ ks) t m (c ∷ r) 0 BadState
bad_state_refused ks t m c r high room =
    bad_refused StateCode ks t m c r BadState tt refl (λ v f b. absurd (omega (arith, code_below StateCode t v c 19 refl (omega arith) (λ w. refl) (λ z h. h) (λ bs h. h) f b))) room (omega arith, next_here StateCode ks t m tt refl room)

pub bad_type_refused : (ks : List FieldKind) (t m c : ℕ) (r : List ℕ) → 7 < c → 16 * length (TypeCode ∷ ks) ≤ m → Refused (TypeCode ∷ ks) t m (c ∷ r) 0 BadType
bad_type_refused ks t m c r high room =
    bad_refused TypeCode ks t m c r BadType tt refl (λ v f b. absurd (omega (arith, code_below TypeCode t v c 8 refl (omega arith) (λ w. refl) (λ z h. h) (λ bs h. h) f b))) room (omega arith, next_here TypeCode ks t m tt refl room)

-- ---- the end of the row

spelled_end : (t m : ℕ) (r : List ℕ) → Spelled [] t m r → r ≡ []
spelled_end t m r b = b.bytes

pub long_refused : (t m c : ℕ) (r : List ℕ) → 0 < m → Refused [] t m (c ∷ r) 0 Long
long_refused t m c r room = record {
  unspelled = λ b. let e = spelled_end t m (c ∷ r) b in cc;
  within = omega arith;
  begun = record { values = []; more = []; fits = tt; bytes = refl; at_most = omega arith };
  longest = λ n above below b. at_front n above b;
  why_is = (record { values = []; fits = tt; bytes = refl; at_most = omega arith }, room);
}
  where
    at_front : (n : ℕ) → 0 < n → Begun [] t m (take n (c ∷ r)) → ⊥
    at_front zero lt b = absurd (omega arith)
    at_front (suc n) lt b = let e : c ∷ (take n r ++ b.more) ≡ [] = b.bytes in cc

pub too_long_refused : (t m : ℕ) (r : List ℕ) → IsBytes r → m < length r → Refused (Rest ∷ []) t m r m TooLong
too_long_refused t m r fits long =
    let len : length (take m r) ≡ m = omega (arith, length-take m r) in
    record {
      unspelled = λ b. absurd (omega (arith, b.at_most));
      within = omega arith;
      begun = record { values = Bytes (take m r) ∷ []; more = []; fits = (IsBytes-take m r fits, tt); bytes = refl; at_most = omega (arith, len, length-append (take m r) []) };
      longest = λ n above below b. absurd (omega (arith, b.at_most, length-append (take n r) b.more, length-take n r));
      why_is = (record { values = Bytes (take m r) ∷ []; fits = (IsBytes-take m r fits, tt); bytes = sym (append-nil (take m r)); at_most = omega (arith, len) }, refl);
    }
