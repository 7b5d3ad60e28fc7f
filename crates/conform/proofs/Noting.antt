-- Notices of log entries.
use Rattle.std.proofs.Common.{◌≡◌, ◌≤◌, ◌<◌, ℕ, ◌%◌, ◌==◌, nat_le, Bool, true, false, List, [], ◌∷◌, ◌++◌, length, slice_index, refl, ap, sym, subst, ◌∙◌, arith, MatchBool, append_assoc}
use Rattle.std.proofs.lemmas.List.{append-nil}
use Rattle.std.proofs.lemmas.Bool.{and_parts, eqb-true, leb-true, eq-eqb, le-leb}
use Rattle.dcp_types.specs.declared.addresses.Address.{Address}
use Rattle.dcp_types.specs.Values.{digits}
use Rattle.dcp_ends.specs.Events.{Event, Send}
use Rattle.pdu_layout.specs.Reading.{spelling}
use Rattle.slave_desc.specs.declared.descriptions.SlaveDesc.{SlaveDesc}
use Rattle.slave_spec.specs.declared.words.Session.{Session}
use Rattle.slave_spec.specs.declared.words.Session.TheVariants.{Before, During, After}
use Rattle.slave_spec.specs.Foreign.{ForeignState, IsNotice, AreNotices, AreNoticesIn, AreNoticesFrom, notice_from, MaySendAt}
use Rattle.slave_spec.specs.Standpoints.{Within, MayGoOn}
use Rattle.conform.specs.Notices.{is_note, MayTellOne}
use Rattle.conform.specs.Standing.{IsOver, HasOne}

-- the bytes of a notice
pub note_bytes : (id category level : ℕ) (text : List ℕ) → spelling (notice_from id category level text) ≡ 225 ∷ id % 256 ∷ category % 256 ∷ level % 256 ∷ text
unfolding spelling digits
note_bytes id category level text = ap (λ (l : List ℕ). 225 ∷ id % 256 ∷ category % 256 ∷ level % 256 ∷ l) (append-nil text)

below : (n : ℕ) → n < 256 → n ≡ n % 256
below n h = omega arith

four : (p q c l : ℕ) (text : List ℕ) (to : Address) (id : ℕ) → c < 256 → l < 256 → id < 256 → is_note (p ∷ q ∷ c ∷ l ∷ text) id ≡ true → IsNotice to id (record { to = to; bytes = p ∷ q ∷ c ∷ l ∷ text })
four p q c l text to id hc hl hid t =
    let a = and_parts (nat_le 4 (length (p ∷ q ∷ c ∷ l ∷ text))) _ t in
    let b = and_parts (nat_le (length (p ∷ q ∷ c ∷ l ∷ text)) 1024) _ a.1 in
    let e = and_parts (p == 225) (q == id) b.1 in
    let few : length (p ∷ q ∷ c ∷ l ∷ text) ≤ 1024 = leb-true (length (p ∷ q ∷ c ∷ l ∷ text)) 1024 b.0 in
    let hp : p ≡ 225 = eqb-true p 225 e.0 in
    let hq : q ≡ id = eqb-true q id e.1 in
    let same : p ∷ q ∷ c ∷ l ∷ text ≡ spelling (notice_from id c l text) =
    ap (λ (n : ℕ). n ∷ q ∷ c ∷ l ∷ text) hp ∙ ap (λ (n : ℕ). 225 ∷ n ∷ c ∷ l ∷ text) (hq ∙ below id hid) ∙ ap (λ (n : ℕ). 225 ∷ id % 256 ∷ n ∷ l ∷ text) (below c hc)
    ∙ ap (λ (n : ℕ). 225 ∷ id % 256 ∷ c % 256 ∷ n ∷ text) (below l hl) ∙ sym (note_bytes id c l text) in
    record { category = c; level = l; text = text; few = omega (arith, few); same = ap (λ (b : List ℕ). let s : Send = record { to = to; bytes = b } in s) same }

pub is_one : (bytes : List ℕ) (to : Address) (id : ℕ) → ((i : ℕ) → slice_index bytes i < 256) → id < 256 → is_note bytes id ≡ true → IsNotice to id (record { to = to; bytes = bytes })
is_one (p ∷ q ∷ c ∷ l ∷ text) to id h hid t = four p q c l text to id (h 2) (h 3) hid t
is_one [] to id h hid t = absurd cc
is_one (p ∷ []) to id h hid t = absurd cc
is_one (p ∷ q ∷ []) to id h hid t = absurd cc
is_one (p ∷ q ∷ c ∷ []) to id h hid t = absurd cc

pub is_none : (bytes : List ℕ) (to : Address) (id : ℕ) → id < 256 → is_note bytes id ≡ false → IsNotice to id (record { to = to; bytes = bytes }) → ⊥
is_none bytes to id hid t h =
    let e : bytes ≡ 225 ∷ id % 256 ∷ h.category % 256 ∷ h.level % 256 ∷ h.text = ap (λ (s : Send). s.bytes) h.same ∙ note_bytes id h.category h.level h.text in
    let few : length (225 ∷ id % 256 ∷ h.category % 256 ∷ h.level % 256 ∷ h.text) ≤ 1024 = omega (arith, h.few) in
    let four : 4 ≤ length (225 ∷ id % 256 ∷ h.category % 256 ∷ h.level % 256 ∷ h.text) = omega arith in
    let one : is_note (225 ∷ id % 256 ∷ h.category % 256 ∷ h.level % 256 ∷ h.text) id ≡ true = rw (le-leb 4 (length (225 ∷ id % 256 ∷ h.category % 256 ∷ h.level % 256 ∷ h.text)) four, le-leb (length (225 ∷ id % 256 ∷ h.category % 256 ∷ h.level % 256 ∷ h.text)) 1024 few, eq-eqb (id % 256) id (sym (below id hid))) refl in
    let no : false ≡ true = sym t ∙ ap (λ (b : List ℕ). is_note b id) e ∙ one in
    absurd cc

pub told_by : (r logs : Bool) (master to : Address) (id : ℕ) (bytes : List ℕ) → logs ≡ true → to ≡ master → ((i : ℕ) → slice_index bytes i < 256) → id < 256 → r ≡ is_note bytes id
    → MatchBool r (MayTellOne logs (AreNoticesFrom master id) (record { to = to; bytes = bytes })) (MayTellOne logs (AreNoticesFrom master id) (record { to = to; bytes = bytes }) → ⊥)
told_by true true master to id bytes l same h hid e = (subst (λ (m : Address). IsNotice m id (record { to = to; bytes = bytes })) same (is_one bytes to id h hid (sym e)), tt)
told_by false true master to id bytes l same h hid e = λ (k : IsNotice master id (record { to = to; bytes = bytes }) × Unit {0}).
    is_none bytes to id hid (sym e) (subst (λ (m : Address). IsNotice m id (record { to = to; bytes = bytes })) (sym same) k.0)
told_by r false master to id bytes l same h hid e = absurd cc

-- ---- after an event

abbrev Notices : Bool → Session → List Send → Type 0
Notices b session l = MatchBool b (AreNoticesIn session l) (l ≡ [])

one_and_more : (b : Bool) (session : Session) (s : Send) (rest : List Send) → Notices b session (s ∷ rest) → Notices b session (s ∷ []) × Notices b session rest
one_and_more true Before s rest h = absurd cc
one_and_more true (During master id) s rest h = ((h.0, tt), h.1)
one_and_more true (After master id) s rest h = ((h.0, tt), h.1)
one_and_more false session s rest h = absurd cc

and_more : (b : Bool) (session : Session) (s : Send) (rest : List Send) → Notices b session (s ∷ []) → Notices b session rest → Notices b session (s ∷ rest)
and_more true Before s rest h k = absurd cc
and_more true (During master id) s rest h k = (h.0, k)
and_more true (After master id) s rest h k = (h.0, k)
and_more false session s rest h k = absurd cc

none_is_told : (b : Bool) (session : Session) → Notices b session []
none_is_told true Before = refl
none_is_told true (During master id) = tt
none_is_told true (After master id) = tt
none_is_told false session = refl

not_told : (b : Bool) (session : Session) (s : Send) (rest : List Send) → ((master : Address) (id : ℕ) → IsNotice master id s → ⊥) → Notices b session (s ∷ rest) → ⊥
not_told true Before s rest never h = absurd cc
not_told true (During master id) s rest never h = never master id h.0
not_told true (After master id) s rest never h = never master id h.0
not_told false session s rest never h = absurd cc

pub untold : (y : ForeignState) (s : Send) (rest : List Send) → ((master : Address) (id : ℕ) → IsNotice master id s → ⊥) → AreNotices y (s ∷ rest) → ⊥
untold y s rest never h = not_told y.inner.logs y.session s rest never h

pub first_notice : (y : ForeignState) (s : Send) (rest : List Send) → AreNotices y (s ∷ rest) → AreNotices y (s ∷ [])
first_notice y s rest h = (one_and_more y.inner.logs y.session s rest h).0

pub more_notices : (y : ForeignState) (s : Send) (rest : List Send) → AreNotices y (s ∷ rest) → AreNotices y rest
more_notices y s rest h = (one_and_more y.inner.logs y.session s rest h).1

pub both_notices : (y : ForeignState) (s : Send) (rest : List Send) → AreNotices y (s ∷ []) → AreNotices y rest → AreNotices y (s ∷ rest)
both_notices y s rest h k = and_more y.inner.logs y.session s rest h k

pub no_notices : (y : ForeignState) → AreNotices y []
no_notices y = none_is_told y.inner.logs y.session

module _ (d : SlaveDesc) (x : ForeignState) (event : Event) (gone : List Send) (y : ForeignState) (s : Send) where
  along : (rest : List Send) (z : ForeignState) → MaySendAt d x event ((gone ++ s ∷ []) ++ rest) z → MaySendAt d x event (gone ++ s ∷ rest) z
  along rest z may = subst (λ (l : List Send). MaySendAt d x event l z) (append_assoc gone (s ∷ []) rest) may

  across : (rest : List Send) (z : ForeignState) → MaySendAt d x event (gone ++ s ∷ rest) z → MaySendAt d x event ((gone ++ s ∷ []) ++ rest) z
  across rest z may = subst (λ (l : List Send). MaySendAt d x event l z) (sym (append_assoc gone (s ∷ []) rest)) may

  pub noticed : IsOver d x event gone y → AreNotices y (s ∷ []) → IsOver d x event (gone ++ s ∷ []) y
  noticed h one = record {
    onward = λ rest z may. let k = h.onward (s ∷ rest) z (along rest z may) in (k.0, (one_and_more y.inner.logs y.session s rest k.1).1);
    back = λ rest told. across rest y (h.back (s ∷ rest) (and_more y.inner.logs y.session s rest one told));
  }

  pub unnoticed : IsOver d x event gone y → (AreNotices y (s ∷ []) → ⊥) → MayGoOn d (Within x event (gone ++ s ∷ [])) → ⊥
  unnoticed h never (left, z, may) = let k = h.onward (s ∷ left) z (along left z may) in never (one_and_more y.inner.logs y.session s left k.1).0

  pub came : HasOne d x event gone s y → IsOver d x event (gone ++ s ∷ []) y
  came h = record {
    onward = λ rest z may.
        let k = h.onward (s ∷ rest) z (along rest z may) in
        let same : rest ≡ k.0 = cc (k.1) in
        (k.2, subst (λ (l : List Send). AreNotices y l) (sym same) k.3);
    back = λ rest told. across rest y (h.back rest told);
  }

  pub came_not : (t : Send) → HasOne d x event gone t y → (s ≡ t → ⊥) → MayGoOn d (Within x event (gone ++ s ∷ [])) → ⊥
  came_not t h never (left, z, may) = let k = h.onward (s ∷ left) z (along left z may) in never (cc (k.1))
