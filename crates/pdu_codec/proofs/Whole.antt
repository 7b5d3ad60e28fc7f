-- What a row says of the bytes after the type code is what the table says of all.
use Rattle.std.proofs.Common.{◌≡◌, ℕ, zero, suc, ◌-◌, ◌<◌, ◌≤◌, List, [], ◌∷◌, ◌++◌, length, get_or, take, drop, refl, sym, ap, subst, ◌∙◌, arith, add-zero, add-one, Option, Some, None}
use Rattle.std.specs.Prelude.{slice_get, slice_range, slice_index}
use Rattle.std.proofs.lemmas.List.{take-append-drop, drop_all, drop-drop, get_or-drop}
use Rattle.pdu_layout.specs.declared.fields.FieldKind.{FieldKind}
use Rattle.pdu_layout.specs.declared.fields.FieldKind.TheVariants.{U8, U16, StateCode, TypeCode}
use Rattle.pdu_codec.specs.declared.faults.DecodeWhy.{DecodeWhy}
use Rattle.pdu_codec.specs.declared.faults.DecodeWhy.TheVariants.{Empty, UnknownType, Short, Long, BadState, BadType, TooLong}
use Rattle.std.proofs.lemmas.Bool.{ne_eqb}
use Rattle.pdu_layout.specs.Message.{Message, Spells}
use Rattle.pdu_layout.specs.Table.{Row, table, row_in, kinds_in, kinds_for}
use Rattle.pdu_layout.specs.Fields.{spelled, FitEach, kind_at, FieldValue, bytes_of, type_after}
use Rattle.pdu_codec.specs.Refusals.{BeginsSpelling, IsSpelling, NextIsIn, IsCauseAt, Refusal}
use Rattle.pdu_codec.specs.Pieces.{AreEnds, HeldFrom, begin_of, Holds}
use Rattle.pdu_codec.proofs.Suffix.{Begun, Spelled, NextIn, Why, Refused, any_values}

some_is : {A : Type 0} (x y : A) (o : Option A) → o ≡ Some x → o ≡ Some y → x ≡ y
some_is x y o e f = cc

module _ (code : ℕ) (kinds : List FieldKind) (listed : kinds_for code ≡ Some kinds) where
  abbrev as_message : List FieldValue → Message
  as_message values = record { code = code; values = values }

  begins : (x : List ℕ) → Begun kinds 0 1023 x → BeginsSpelling (code ∷ x)
  begins x b = (as_message b.values, b.more, record { kinds = kinds; listed = listed; fits = b.fits; bytes = ap (λ (l : List ℕ). code ∷ l) b.bytes; at_most = omega (arith, b.at_most) })

  is_spelling : (x : List ℕ) → Spelled kinds 0 1023 x → IsSpelling (code ∷ x)
  is_spelling x b = (as_message b.values, record { kinds = kinds; listed = listed; fits = b.fits; bytes = ap (λ (l : List ℕ). code ∷ l) b.bytes; at_most = omega (arith, b.at_most) })

  next_is_in : (kind : FieldKind) (x : List ℕ) → NextIn kind kinds 0 1023 x → NextIsIn kind (code ∷ x)
  next_is_in kind x n = (as_message n.begun.values, n.begun.more, record { kinds = kinds; listed = listed; fits = n.begun.fits; bytes = ap (λ (l : List ℕ). code ∷ l) n.begun.bytes; at_most = omega (arith, n.begun.at_most) }, omega arith, ap (kind_at kinds 0 n.begun.values) one_less ∙ n.next)
    where
      one_less : length (code ∷ x) - 1 ≡ length x
      one_less = omega arith

  -- the row of a message whose bytes begin with the code
  row_is : (p : Message) (x : List ℕ) (s : Spells p (code ∷ x)) → s.kinds ≡ kinds
  row_is p x s =
      let e : code ≡ p.code = ap (λ (l : List ℕ). get_or l 0 0) s.bytes in
      some_is s.kinds kinds (kinds_for code) (subst (λ n. kinds_for n ≡ Some s.kinds) (sym e) s.listed) listed

  begun_from : (x : List ℕ) → BeginsSpelling (code ∷ x) → Begun kinds 0 1023 x
  begun_from x b =
      let s = b.2 in
      let e = row_is b.0 (x ++ b.1) s in
      let at_most = s.at_most in
      record { values = b.0.values; more = b.1; fits = subst (λ ks. FitEach ks 0 b.0.values) e s.fits; bytes = ap (drop 1) s.bytes ∙ ap (λ ks. spelled ks 0 b.0.values) e; at_most = omega arith }

  spelled_from : (p : Message) (x : List ℕ) → Spells p (code ∷ x) → Spelled kinds 0 1023 x
  spelled_from p x s =
      let e = row_is p x s in
      let at_most = s.at_most in
      record { values = p.values; fits = subst (λ ks. FitEach ks 0 p.values) e s.fits; bytes = ap (drop 1) s.bytes ∙ ap (λ ks. spelled ks 0 p.values) e; at_most = omega arith }

  cause_from : (body : List ℕ) (at : ℕ) (why : DecodeWhy) → Why kinds 0 1023 body at why → IsCauseAt (code ∷ body) (suc at) why
  cause_from body at Empty w = absurd w
  cause_from body at UnknownType w = absurd w
  cause_from body at Short w = (λ e. let f : code ∷ body ≡ [] = e in cc, omega (arith, w))
  cause_from body at Long w = (is_spelling (take at body) w.0, omega (arith, w.1))
  cause_from body at TooLong w = (is_spelling (take at body) w.0, omega (arith, w.1))
  cause_from body at BadState w = (omega (arith, w.0), next_is_in StateCode (take at body) w.1)
  cause_from body at BadType w = (omega (arith, w.0), next_is_in TypeCode (take at body) w.1)

  pub refusal_from : (body : List ℕ) (at : ℕ) (why : DecodeWhy) → Refused kinds 0 1023 body at why → Refusal (code ∷ body) (suc at) why
  refusal_from body at why f = record {
    unspelled = λ p s. f.unspelled (spelled_from p body s);
    within = omega (arith, f.within);
    begins = begins (take at body) f.begun;
    longest = λ n above below b. beyond n above below b;
    cause = cause_from body at why f.why_is;
  }
    where
      beyond : (n : ℕ) → suc at < n → n ≤ length (code ∷ body) → BeginsSpelling (take n (code ∷ body)) → ⊥
      beyond zero above below b = absurd (omega arith)
      beyond (suc n) above below b = f.longest n (omega arith) (omega arith) (begun_from (take n body) b)

-- ---- no row

pub unknown_refused : (c : ℕ) (body : List ℕ) → kinds_for c ≡ None → Refusal (c ∷ body) 0 UnknownType
unknown_refused c body none = record {
  unspelled = λ p s. no_row p body s;
  within = omega arith;
  begins = some_begins;
  longest = λ n above below b. beyond n above b;
  cause = (λ e. let f : c ∷ body ≡ [] = e in cc, refl);
}
  where
    no_row : (p : Message) (x : List ℕ) → Spells p (c ∷ x) → ⊥
    no_row p x s =
        let e : c ≡ p.code = ap (λ (l : List ℕ). get_or l 0 0) s.bytes in
        let f : kinds_for c ≡ Some s.kinds = subst (λ n. kinds_for n ≡ Some s.kinds) (sym e) s.listed in
        let g : None ≡ Some s.kinds = sym none ∙ f in
        cc

    beyond : (n : ℕ) → 0 < n → BeginsSpelling (take n (c ∷ body)) → ⊥
    beyond zero above b = absurd (omega arith)
    beyond (suc n) above b = no_row b.0 (take n body ++ b.1) b.2

    some_begins : BeginsSpelling []
    some_begins =
        let any = any_values (U16 ∷ U8 ∷ []) 0 in
        (record { code = 128; values = any.0 }, 128 ∷ spelled (U16 ∷ U8 ∷ []) 0 any.0, record { kinds = U16 ∷ U8 ∷ []; listed = refl; fits = any.1; bytes = refl; at_most = omega (arith, any.2) })

pub empty_refused : Refusal [] 0 Empty
empty_refused =
    let known = unknown_refused 0 [] refl in
    record {
      unspelled = λ p s. let e : [] ≡ p.code ∷ spelled s.kinds 0 p.values = s.bytes in cc;
      within = omega arith;
      begins = known.begins;
      longest = λ n above below b. absurd (omega arith);
      cause = refl;
    }

-- ---- a message that was found

pub held_spelled : (kinds : List FieldKind) (t : ℕ) (b ends : List ℕ) (i : ℕ) (values : List FieldValue) → AreEnds kinds t b (begin_of ends i) (drop i ends) → HeldFrom kinds t b ends i values → FitEach kinds t values × (drop (begin_of ends i) b ≡ spelled kinds t values)
held_spelled kinds t b ends i values e h = held kinds t b ends i values (drop i ends) refl e h
  where
    held : (kinds : List FieldKind) (t : ℕ) (b ends : List ℕ) (i : ℕ) (values : List FieldValue) (rest : List ℕ) → drop i ends ≡ rest → AreEnds kinds t b (begin_of ends i) rest → HeldFrom kinds t b ends i values → FitEach kinds t values × (drop (begin_of ends i) b ≡ spelled kinds t values)
    held [] t b ends i [] [] same e h = (tt, drop_all (begin_of ends i) b (omega arith))
    held [] t b ends i [] (end ∷ rest) same e h = absurd e
    held [] t b ends i (v ∷ values) rest same e h = absurd h
    held (k ∷ kinds) t b ends i values [] same e h = absurd e
    held (k ∷ kinds) t b ends i [] (end ∷ rest) same e h = absurd h
    held (k ∷ kinds) t b ends i (v ∷ values) (end ∷ rest) same e h =
        let from = begin_of ends i in
        let x = slice_range b from end in
        let end_is : slice_index ends i ≡ end = ap (λ n. get_or ends n 0) (sym (add-zero i)) ∙ sym (get_or-drop i ends 0 0) ∙ ap (λ l. get_or l 0 0) same in
        let rest_is : drop (suc i) ends ≡ rest = ap (λ n. drop n ends) (sym (add-one i)) ∙ sym (drop-drop 1 i ends) ∙ ap (drop 1) same in
        let h1 : Holds k t v x × HeldFrom kinds (type_after k t x) b ends (suc i) values = subst (λ n. Holds k t v (slice_range b from n) × HeldFrom kinds (type_after k t (slice_range b from n)) b ends (suc i) values) end_is h in
        let e1 : AreEnds kinds (type_after k t x) b (begin_of ends (suc i)) rest = subst (λ n. AreEnds kinds (type_after k t x) b n rest) (sym end_is) e.3 in
        let more = held kinds (type_after k t x) b ends (suc i) values rest rest_is e1 h1.1 in
        let bytes : bytes_of k t v ≡ x = h1.0.bytes in
        let ahead : drop (end - from) (drop from b) ≡ drop (begin_of ends (suc i)) b = drop-drop (end - from) from b ∙ ap (λ n. drop n b) (omega arith) in (
          (h1.0.fits, subst (λ y. FitEach kinds (type_after k t y) values) (sym bytes) more.0),
          sym (take-append-drop (end - from) (drop from b)) ∙ ap (λ y. x ++ y) (ahead ∙ more.1) ∙ ap (λ y. y ++ spelled kinds (type_after k t y) values) (sym bytes),
        )

pub made : (code : ℕ) (kinds : List FieldKind) (b : List ℕ) (ends : List ℕ) → kinds_for code ≡ Some kinds → AreEnds kinds 0 b 1 ends → slice_get b 0 ≡ Some code → length b ≤ 1024 → (values : List FieldValue) → HeldFrom kinds 0 b ends 0 values → Spells (record { code = code; values = values }) b
made code kinds [] ends listed e first short values h = absurd cc
made code kinds (c ∷ b) ends listed e first short values h =
    let is : c ≡ code = cc in
    let s = held_spelled kinds 0 (c ∷ b) ends 0 values e h in
    record { kinds = kinds; listed = listed; fits = s.0; bytes = ap (λ n. n ∷ b) is ∙ ap (λ y. code ∷ y) s.1; at_most = short }

-- the code of no row
abbrev pub NotIn : List Row → ℕ → Type 0
NotIn [] c = Unit {0}
NotIn (row ∷ rows) c = (row.code ≡ c → ⊥) × NotIn rows c

not_listed : (rows : List Row) (c : ℕ) → NotIn rows c → kinds_in (row_in rows c) ≡ None
not_listed [] c h = refl
not_listed (row ∷ rows) c h = rw (ne_eqb row.code c h.0) (not_listed rows c h.1)

pub unknown_is : (b : List ℕ) → 0 < length b → NotIn table (get_or b 0 0) → Refusal b 0 UnknownType
unknown_is [] some h = absurd (omega arith)
unknown_is (c ∷ b) some h = unknown_refused c b (not_listed table c h)
