-- Where a row stands in the values of all rows, and a value in its row.
use Rattle.std.proofs.Common.{◌≡◌, ℕ, zero, suc, ◌+◌, ◌*◌, ◌<◌, ◌≤◌, ◌==◌, Bool, true, false, Option, Some, None, List, [], ◌∷◌, ◌++◌, take, drop, length, refl, sym, ap, subst, ◌∙◌, arith, length-append, length-take}
use Rattle.std.specs.Prelude.{ℤ, slice_get, nat_lt, option_map, if◌then◌else◌}
use Rattle.std.specs.Option.{option_and_then}
use Rattle.std.specs.List.{flat_map, AllByRecursion}
use Rattle.std.proofs.lemmas.List.{take-append-le, take_all}
use Rattle.std.proofs.lemmas.Bool.{ltb-true, ltb-false}
use Rattle.std.proofs.lemmas.Option.{slice_get_past}
use Rattle.std.proofs.lemmas.List.Elements.{recursion_from_All}
use Rattle.std.proofs.Math.Nat.{suc-mul}
use Rattle.master_spec.specs.declared.setups.Slave.{Slave}
use Rattle.master_core.specs.declared.records.Talk.{Talk}
use Rattle.master_core.specs.declared.rows.Rows.{Rows}
use Rattle.master_core.specs.Columns.{outputs_for, value_in_row, column_value, column_in}
use Rattle.master_core.specs.Talking.{outputs_width}
use Rattle.master_core.specs.Standing.{HasRows}

-- ---- a place in a list

front_of : {A : Type 0} (xs : List A) (n i : ℕ) → i < n → slice_get (take n xs) i ≡ slice_get xs i
front_of [] zero i h = refl
front_of [] (suc n) i h = refl
front_of (x ∷ xs) zero i h = absurd (omega (arith, h))
front_of (x ∷ xs) (suc n) zero h = refl
front_of (x ∷ xs) (suc n) (suc i) h = front_of xs n i (omega (arith, h))

behind : {A : Type 0} (xs : List A) (n i : ℕ) → slice_get xs (n + i) ≡ slice_get (drop n xs) i
behind xs zero i = ap (λ m. slice_get xs m) (omega arith)
behind [] (suc n) i = slice_get_past [] (suc n + i) (omega arith) ∙ sym (slice_get_past [] i (omega arith))
behind (x ∷ xs) (suc n) i = let s : suc n + i ≡ suc (n + i) = omega arith in ap (λ m. slice_get (x ∷ xs) m) s ∙ behind xs n i

-- ---- a row among the values of all rows

past_front : {A : Type 0} (xs ys : List A) (n i : ℕ) → length xs ≡ n → drop (n + i) (xs ++ ys) ≡ drop i ys
past_front [] ys n i e = ap (λ m. drop m ys) (omega (arith, e))
past_front (x ∷ xs) ys zero i e = absurd (omega (arith, e))
past_front (x ∷ xs) ys (suc n) i e = let s : suc n + i ≡ suc (n + i) = omega arith in ap (λ m. drop m (x ∷ xs ++ ys)) s ∙ past_front xs ys n i (omega (arith, e))

row_at : (w : ℕ) (rows : List (List ℤ)) (k : ℕ) → AllByRecursion (λ row. length row ≡ w) rows → k < length rows
    → (k * w + w ≤ length (flat_map (λ row. row) rows)) × (slice_get rows k ≡ Some (take w (drop (k * w) (flat_map (λ row. row) rows))))
row_at w [] k a h = absurd (omega (arith, h))
row_at w (row ∷ rows) zero a h =
    let flat = flat_map (λ (row : List ℤ). row) rows in
    let s : 0 * w ≡ 0 = omega arith in
    let front : take w (row ++ flat) ≡ row = take-append-le w row flat (omega (arith, a.0)) ∙ take_all w row (omega (arith, a.0)) in
    (omega (arith, s, a.0, length-append row flat), sym (ap (λ m. Some (take w (drop m (row ++ flat)))) s ∙ ap (λ (l : List ℤ). Some l) front))
row_at w (row ∷ rows) (suc k) a h =
    let flat = flat_map (λ (row : List ℤ). row) rows in
    let s : suc k * w ≡ w + k * w = omega (arith, suc-mul k w) in
    let rest = row_at w rows k a.1 (omega (arith, h)) in (
      omega (arith, s, a.0, rest.0, length-append row flat),
      rest.1 ∙ sym (ap (λ m. Some (take w (drop m (row ++ flat)))) s ∙ ap (λ (l : List ℤ). Some (take w l)) (past_front row flat w (k * w) a.0)),
    )

-- the values that stand in the place of row k are those of row k
pub row_is : (ts : List Talk) (lines : ℕ) (r : Rows) (rows : List (List ℤ)) (k : ℕ) (o : Option (List ℤ)) → HasRows (outputs_width ts) lines r rows → (r.counted ≤ k → o ≡ None)
    → (k < r.counted → k * r.width + r.width ≤ length r.values.items → o ≡ Some (take r.width (drop (k * r.width) r.values.items))) → o ≡ slice_get rows k
row_is ts lines r rows k o h past within = by (nat_lt k r.counted) refl
  where
    by : (b : Bool) → nat_lt k r.counted ≡ b → o ≡ slice_get rows k
    by true t =
        let w = outputs_width ts in
        let l = ltb-true k r.counted t in
        let at = row_at w rows k (recursion_from_All (λ (row : List ℤ). length row ≡ w) rows h.each) (omega (arith, l, h.counted_are)) in
        let long : k * w + w ≤ length r.values.items = subst (λ (values : List ℤ). k * w + w ≤ length values) (sym h.values) at.0 in
        within l (subst (λ (n : ℕ). k * n + n ≤ length r.values.items) (sym h.width_is) long)
        ∙ ap (λ (n : ℕ). Some (take n (drop (k * n) r.values.items))) h.width_is
        ∙ ap (λ (values : List ℤ). Some (take w (drop (k * w) values))) h.values
        ∙ sym at.1
    by false t =
        let l = ltb-false k r.counted t in
        past l ∙ sym (slice_get_past rows k (omega (arith, l, h.counted_are)))

-- ---- the column of a port

found_in : (n : ℕ) (o : Option ℕ) (column : ℕ) → option_map (λ (c : ℕ). n + c) o ≡ Some column → (c : ℕ) × (o ≡ Some c) × (n + c ≡ column)
found_in n None column e = absurd (cc)
found_in n (Some c) column e = (c, refl, cc)

none_in : (n : ℕ) (o : Option ℕ) → option_map (λ (c : ℕ). n + c) o ≡ None → o ≡ None
none_in n None e = refl
none_in n (Some c) e = absurd (cc)

own_port : (n port column : ℕ) (b : Bool) → nat_lt port n ≡ b → (if b then Some port else None) ≡ Some column → (port < n) × (port ≡ column)
own_port n port column true t e = (ltb-true port n t, cc)
own_port n port column false t e = absurd (cc)

no_port : (n port : ℕ) (b : Bool) → nat_lt port n ≡ b → (if b then Some port else None) ≡ None → n ≤ port
no_port n port true t e = absurd (cc)
no_port n port false t e = ltb-false port n t

pub column_found : (slaves : List Slave) (id port column : ℕ) (row : List ℤ) → column_in slaves id port ≡ Some column → slice_get row column ≡ slice_get (outputs_for slaves id row) port
column_found [] id port column row e = absurd (cc)
column_found (slave ∷ slaves) id port column row e = by (slave.id == id) (λ c f. column_found slaves id port c (drop (length slave.types) row) f) e
  where
    n : ℕ
    n = length slave.types

    by : (b : Bool) → ((c : ℕ) → column_in slaves id port ≡ Some c → slice_get (drop (length slave.types) row) c ≡ slice_get (outputs_for slaves id (drop (length slave.types) row)) port)
        → (if b then (if nat_lt port (length slave.types) then Some port else None) else option_map (λ (c : ℕ). length slave.types + c) (column_in slaves id port)) ≡ Some column
        → slice_get row column ≡ slice_get (if b then take (length slave.types) row else outputs_for slaves id (drop (length slave.types) row)) port
    by true f e = let p = own_port (length slave.types) port column (nat_lt port (length slave.types)) refl e in ap (λ m. slice_get row m) (sym p.1) ∙ sym (front_of row (length slave.types) port p.0)
    by false f e = let q = found_in (length slave.types) (column_in slaves id port) column e in ap (λ m. slice_get row m) (sym q.2) ∙ behind row (length slave.types) q.0 ∙ f q.0 q.1

pub column_missing : (slaves : List Slave) (id port : ℕ) (row : List ℤ) → column_in slaves id port ≡ None → slice_get (outputs_for slaves id row) port ≡ None
column_missing [] id port row e = slice_get_past [] port (omega arith)
column_missing (slave ∷ slaves) id port row e = by (slave.id == id) (λ f. column_missing slaves id port (drop (length slave.types) row) f) e
  where
    by : (b : Bool) → (column_in slaves id port ≡ None → slice_get (outputs_for slaves id (drop (length slave.types) row)) port ≡ None)
        → (if b then (if nat_lt port (length slave.types) then Some port else None) else option_map (λ (c : ℕ). length slave.types + c) (column_in slaves id port)) ≡ None
        → slice_get (if b then take (length slave.types) row else outputs_for slaves id (drop (length slave.types) row)) port ≡ None
    by true f e = let h = no_port (length slave.types) port (nat_lt port (length slave.types)) refl e in slice_get_past (take (length slave.types) row) port (omega (arith, h, length-take (length slave.types) row))
    by false f e = f (none_in (length slave.types) (column_in slaves id port) e)

-- ---- a value of a row

pub value_there : (o : Option (List ℤ)) (slaves : List Slave) (id port column : ℕ) → Some column ≡ column_in slaves id port → option_and_then (λ row. slice_get row column) o ≡ value_in_row slaves o id port
value_there None slaves id port column e = refl
value_there (Some row) slaves id port column e = column_found slaves id port column row (sym e)

missing_by : (o : Option (List ℤ)) (slaves : List Slave) (id port : ℕ) → column_in slaves id port ≡ None → None ≡ value_in_row slaves o id port
missing_by None slaves id port e = refl
missing_by (Some row) slaves id port e = sym (column_missing slaves id port row e)

pub value_missing : (slaves : List Slave) (rows : List (List ℤ)) (k id port : ℕ) → None ≡ column_in slaves id port → None ≡ column_value slaves rows k id port
value_missing slaves rows k id port e = missing_by (slice_get rows k) slaves id port (sym e)
