-- Inputs that have a place, and their values.
use Rattle.std.proofs.Common.{◌≡◌, ◌≢◌, ℕ, zero, suc, ◌+◌, ◌*◌, ◌/◌, ◌%◌, ◌^◌, ◌<◌, ◌≤◌, true, cond, List, [], ◌∷◌, length, get_or, set, take, drop, ap, sym, ◌∙◌, subst, arith, Option, Some, None, inl, inr}
use Rattle.std.specs.Prelude.{ℤ, is_some, nat_le, IsTrue, count_by}
use Rattle.std.proofs.Math.Nat.{pow-suc}
use Rattle.std.proofs.lemmas.Bool.{cases_eq}
use Rattle.std.proofs.lemmas.Bool.Decides.{nat_tests}
use Rattle.std.proofs.lemmas.List.{get_or-set_same, get_or-set_other, length-set, get_or_default, get_or-map, length-map}
use Rattle.std.proofs.Common.{map}
use Rattle.std.specs.List.{insert}
use Rattle.std.proofs.lemmas.List.Sums.{sum_by-set, sum_by-cons}
use Rattle.dcp_types.specs.declared.data_types.DataType.{DataType}
use Rattle.dcp_types.specs.Values.{width, digits, residue, fits, value_bytes}
use Rattle.dcp_types.proofs.Residues.{value_of, value_of-residue, residue_below}
use Rattle.pdu_layout.specs.Reading.{number, value_in}
use Rattle.slave_device.specs.Wires.Receiving.{segment_value, input_after, input_restarted}
use Rattle.slave_device.specs.declared.tables.InputRow.{InputRow}
use Rattle.slave_device.specs.declared.tables.Segment.{Segment}
use Rattle.fixed_models.specs.Domains.{IsInput}

count_most : (xs : List (Option Segment)) → count_by is_some xs ≤ length xs
count_most [] = omega arith
count_most (None ∷ xs) = let h = count_most xs in let e = sum_by-cons (λ (o : Option Segment). cond (is_some o) 1 0) None xs in omega (arith, h, e)
count_most (Some s ∷ xs) = let h = count_most xs in let e = sum_by-cons (λ (o : Option Segment). cond (is_some o) 1 0) (Some s) xs in omega (arith, h, e)

-- where one input has no place, fewer than all have one
pub some_free : (xs : List (Option Segment)) (j : ℕ) → j < length xs → get_or xs j None ≡ None → count_by is_some xs < length xs
some_free [] j h e = absurd (omega arith)
some_free (None ∷ xs) j h e = let m = count_most xs in let c = sum_by-cons (λ (o : Option Segment). cond (is_some o) 1 0) None xs in omega (arith, m, c)
some_free (Some s ∷ xs) zero h e = absurd cc
some_free (Some s ∷ xs) (suc j) h e =
    let r = some_free xs j (omega (arith, h)) e in
    let c = sum_by-cons (λ (o : Option Segment). cond (is_some o) 1 0) (Some s) xs in omega (arith, r, c)

-- one more has a place
pub one_more : (xs : List (Option Segment)) (j : ℕ) (s : Segment) → j < length xs → get_or xs j None ≡ None → count_by is_some (set xs j (Some s)) ≡ count_by is_some xs + 1
one_more xs j s h e =
    let f : Option Segment → ℕ = λ o. cond (is_some o) 1 0 in
    let c = sum_by-set f xs j (Some s) None h in
    let z : f (get_or xs j None) ≡ 0 = ap f e in
    omega (arith, c, z)

number-digits : (w n : ℕ) → n < 256 ^ w → number (digits w n) ≡ n
unfolding digits
number-digits zero n h = omega (arith, h)
number-digits (suc w) n h =
    let r : n / 256 < 256 ^ w = omega (arith, h, pow-suc 256 w) in
    let e : n % 256 + 256 * (n / 256) ≡ n = omega arith in
    ap (λ (m : ℕ). n % 256 + 256 * m) (number-digits w (n / 256) r) ∙ e

value_back : (kind : DataType) (z : ℤ) → IsTrue (fits kind z) → value_in kind (value_bytes kind z) ≡ z
value_back kind z h =
    ap (value_of kind) (number-digits (width kind) (residue (width kind) z) (residue_below kind z h)) ∙ value_of-residue kind z h

pub value_got : (s : Segment) (payload bytes : List ℕ) (z : ℤ) → s.offset + width s.kind ≤ length payload → IsTrue (fits s.kind z) → value_bytes s.kind z ≡ bytes → bytes ≡ take (width s.kind) (drop s.offset payload) → z ≡ segment_value s payload
value_got s payload bytes z h f e b =
    let t : nat_le (s.offset + width s.kind) (length payload) ≡ true = grind (arith, nat_tests, h) in
    rw t (sym (value_back s.kind z f) ∙ ap (value_in s.kind) (e ∙ b))

-- the values of the first so many inputs are taken from a payload
pub record TakenUpTo (segments : List (Option Segment)) (old new : List ℤ) (id : ℕ) (payload : List ℕ) (i : ℕ) : Type 0 where
  pub inputs : (k : ℕ) (z : ℤ) → k < length new → IsInput (get_or new k z)
  pub long : length new ≡ length old
  pub front : (k : ℕ) (e : Option Segment) (z : ℤ) → k < i → get_or new k z ≡ input_after (get_or segments k e) id payload (get_or old k z)
  pub rest : (k : ℕ) (z : ℤ) → i ≤ k → get_or new k z ≡ get_or old k z

pub taken_more : (segments : List (Option Segment)) (old new : List ℤ) (id : ℕ) (payload : List ℕ) (i : ℕ) (u v y : ℤ) (x : Option Segment) → TakenUpTo segments old new id payload i → i < length segments → i < length new
    → u ≡ v → IsInput v → v ≡ input_after (get_or segments i x) id payload (get_or new i y) → TakenUpTo segments old (set new i u) id payload (i + 1)
taken_more segments old new id payload i u v y x t within here same good e =
    subst (λ (q : ℤ). TakenUpTo segments old (set new i q) id payload (i + 1)) (sym same) (record {
      inputs = λ k z h. one k z h;
      long = length-set new i v ∙ t.long;
      front = λ k d z h. at k d z h;
      rest = λ k z h. let ne : k ≢ i = omega arith in get_or-set_other new i k v z ne ∙ t.rest k z (omega arith);
    })
  where
    one : (k : ℕ) (z : ℤ) → k < length (set new i v) → IsInput (get_or (set new i v) k z)
    one k z h =
        let l = length-set new i v in
        elim (cases_eq k i) [
          | inl q ↦ subst IsInput (sym (ap (λ (j : ℕ). get_or (set new i v) j z) q ∙ get_or-set_same new i v z here)) good
          | inr ne ↦ subst IsInput (sym (get_or-set_other new i k v z ne)) (t.inputs k z (omega (arith, l, h)))
        ]

    now : (d : Option Segment) (z : ℤ) → get_or (set new i v) i z ≡ input_after (get_or segments i d) id payload (get_or old i z)
    now d z =
        get_or-set_same new i v z here ∙ e
        ∙ ap (λ (o : Option Segment). input_after o id payload (get_or new i y)) (get_or_default segments i x d within)
        ∙ ap (λ (q : ℤ). input_after (get_or segments i d) id payload q) (get_or_default new i y z here ∙ t.rest i z (omega arith))

    at : (k : ℕ) (d : Option Segment) (z : ℤ) → k < i + 1 → get_or (set new i v) k z ≡ input_after (get_or segments k d) id payload (get_or old k z)
    at k d z h = elim (cases_eq k i) [
      | inl q ↦ subst (λ (j : ℕ). get_or (set new i v) j z ≡ input_after (get_or segments j d) id payload (get_or old j z)) (sym q) (now d z)
      | inr ne ↦ get_or-set_other new i k v z ne ∙ t.front k d z (omega arith)
    ]

-- each row has at most eight bytes an entry
abbrev pub AreSized : List InputRow → Type 0
AreSized rows = (k : ℕ) (d : InputRow) → k < length rows → (get_or rows k d).size ≤ 8 * (get_or rows k d).count

pub sized_set : (rows : List InputRow) (i : ℕ) (x : InputRow) → AreSized rows → x.size ≤ 8 * x.count → AreSized (set rows i x)
sized_set rows i x h e = λ k d lt.
    let l = length-set rows i x in
    elim (cases_eq k i) [
      | inl q ↦ let within : i < length rows = omega (arith, l, q, lt) in
          subst (λ (r : InputRow). r.size ≤ 8 * r.count) (sym (ap (λ (j : ℕ). get_or (set rows i x) j d) q ∙ get_or-set_same rows i x d within)) e
      | inr ne ↦ subst (λ (r : InputRow). r.size ≤ 8 * r.count) (sym (get_or-set_other rows i k x d ne)) (h k d (omega (arith, l, lt)))
    ]

pub sized_insert : (rows : List InputRow) (i : ℕ) (x : InputRow) → i ≤ length rows → AreSized rows → x.size ≤ 8 * x.count → AreSized (insert rows i x)
sized_insert [] i x le h e = λ k d lt. one i le k d lt
  where
    one : (i : ℕ) → i ≤ 0 → (k : ℕ) (d : InputRow) → k < length (insert [] i x) → (get_or (insert [] i x) k d).size ≤ 8 * (get_or (insert [] i x) k d).count
    one zero le zero d lt = e
    one zero le (suc k) d lt = absurd (omega (arith, lt))
    one (suc i) le k d lt = absurd (omega (arith, le))
sized_insert (r ∷ rs) zero x le h e = λ k d lt. at k d lt
  where
    at : (k : ℕ) (d : InputRow) → k < length (x ∷ r ∷ rs) → (get_or (x ∷ r ∷ rs) k d).size ≤ 8 * (get_or (x ∷ r ∷ rs) k d).count
    at zero d lt = e
    at (suc k) d lt = h k d (omega (arith, lt))
sized_insert (r ∷ rs) (suc i) x le h e = at (sized_insert rs i x (omega (arith, le)) (λ k d lt. h (suc k) d (omega (arith, lt))) e)
  where
    at : AreSized (insert rs i x) → (k : ℕ) (d : InputRow) → k < length (r ∷ insert rs i x) → (get_or (r ∷ insert rs i x) k d).size ≤ 8 * (get_or (r ∷ insert rs i x) k d).count
    at rest zero d lt = h 0 r (omega arith)
    at rest (suc k) d lt = rest k d (omega (arith, lt))

pub sized_restarted : (steps : ℕ) (xs ys : List InputRow) → AreSized xs → ys ≡ map (input_restarted steps) xs → AreSized ys
sized_restarted steps xs ys h e = λ k d lt.
    let l : length ys ≡ length xs = ap (λ (z : List InputRow). length z) e ∙ length-map xs (input_restarted steps) in
    let within : k < length xs = omega arith in
    subst (λ (r : InputRow). r.size ≤ 8 * r.count) (sym (ap (λ (z : List InputRow). get_or z k d) e ∙ get_or-map (input_restarted steps) xs k d d within)) (h k d within)
