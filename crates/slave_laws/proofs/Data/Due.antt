-- Of a data id that is due one message is sent: ids ascend, so each stands once among them.
use Rattle.std.proofs.Common.{◌≡◌, ℕ, ◌<◌, ◌%◌, ◌==◌, ◌&&◌, nat_lt, Bool, true, false, if◌then◌else◌, ◌⊎◌, inl, inr, List, [], ◌∷◌, ◌++◌, map, Option, Some, None, refl, sym, ap, ◌∙◌, subst, arith, ℤ}
use Rattle.std.specs.Prelude.{filter, option_map}
use Rattle.std.specs.List.{filter_map, cons_option, list_all}
use Rattle.std.proofs.lemmas.Bool.{and_parts, eqb-true, eq-eqb, lt-ltb}
use Rattle.std.proofs.lemmas.Bool.Decides.{nat_tests}
use Rattle.dcp_types.specs.declared.addresses.Address.{Address}
use Rattle.slave_desc.specs.declared.descriptions.SlaveDesc.{SlaveDesc}
use Rattle.plan_laws.proofs.Told.{all_ids}
use Rattle.log_spec.specs.Messages.{Note, value_of_id}
use Rattle.log_spec.specs.Log.{Parties, role_heard}
use Rattle.lockstep_laws.specs.Slaves.{Post}
use Rattle.lockstep_laws.specs.Models.Machines.{values_owed}
use Rattle.slave_spec.specs.Changes.{Change, Entry, output, has_id, put_ascending, ascending, ids, target, ordinal, is_due}
use Rattle.slave_spec.specs.Payloads.{payload, data_message}
use Rattle.slave_spec.specs.Transport.{parcel_send}
use Rattle.slave_spec.specs.Turns.{parcel, data_parcels}
use Rattle.slave_laws.specs.Talk.Desks.{post}
use Rattle.slave_laws.specs.Talk.Sends.{ReadsMessages}
use Rattle.slave_laws.specs.Talk.Ranges.{SettingsFit, PayloadsFit}
use Rattle.slave_laws.proofs.Talk.Spelt.{data_is}
use Rattle.slave_laws.proofs.Model.Inputs.{among}
use Rattle.slave_laws.proofs.Data.Owing.{NoneOf, none_owed, is_other, small_ids, payload_are, payload_length, all_chosen, parcels_none, other_value}

-- ---- a list that ascends
abbrev Above : ℕ → List ℕ → Type 0
Above n [] = Unit {0}
Above n (x ∷ xs) = (n < x) × Above n xs

abbrev Ascends : List ℕ → Type 0
Ascends [] = Unit {0}
Ascends (x ∷ xs) = Above x xs × Ascends xs

above_less : (m n : ℕ) (xs : List ℕ) → m < n → Above n xs → Above m xs
above_less m n [] h a = tt
above_less m n (x ∷ xs) h a = (omega (arith, h, a.0), above_less m n xs h a.1)

above_put : (x n : ℕ) (xs : List ℕ) → x < n → Above x xs → Above x (put_ascending n xs)
above_put x n [] h a = (h, tt)
above_put x n (y ∷ ys) h a = by (above_put x n ys h a.1) (nat_lt n y) (n == y)
  where
    by : Above x (put_ascending n ys) → (b c : Bool) → Above x (if b then n ∷ y ∷ ys else (if c then y ∷ ys else y ∷ put_ascending n ys))
    by g true c = (h, a)
    by g false true = a
    by g false false = (a.0, g)

ascends_put : (n : ℕ) (xs : List ℕ) → Ascends xs → Ascends (put_ascending n xs)
ascends_put n [] a = (tt, tt)
ascends_put n (y ∷ ys) a = by (ascends_put n ys a.1) (nat_lt n y) refl (n == y) refl
  where
    by : Ascends (put_ascending n ys) → (b : Bool) → nat_lt n y ≡ b → (c : Bool) → (n == y) ≡ c → Ascends (if b then n ∷ y ∷ ys else (if c then y ∷ ys else y ∷ put_ascending n ys))
    by g true e c f = let h : n < y = grind (arith, nat_tests, e) in ((h, above_less n y ys h a.0), a)
    by g false e true f = a
    by g false e false f = let h : y < n = grind (arith, nat_tests, e, f) in (above_put y n ys h a.0, g)

ascending_ascends : (xs : List ℕ) → Ascends (ascending xs)
ascending_ascends [] = tt
ascending_ascends (x ∷ xs) = ascends_put x (ascending xs) (ascending_ascends xs)

-- ---- an id stands once in it
abbrev is_small : ℕ → Bool
is_small i = nat_lt i 65536

abbrev Once : ℕ → List ℕ → Type 0
Once id [] = ⊥
Once id (i ∷ is) = ((i ≡ id) × (list_all (is_other id) is ≡ true)) ⊎ ((is_other id i ≡ true) × Once id is)

both : (a b : Bool) → a ≡ true → b ≡ true → (a && b) ≡ true
both true true h k = refl
both true false h k = k
both false b h k = h

other_of : (id i : ℕ) → nat_lt i 65536 ≡ true → (i == id) ≡ false → is_other id i ≡ true
other_of id i h e = both (nat_lt i 65536) (if i == id then false else true) h (ap (λ b. if b then false else true) e)

above_others : (id : ℕ) (xs : List ℕ) → Above id xs → list_all is_small xs ≡ true → list_all (is_other id) xs ≡ true
above_others id [] a h = refl
above_others id (x ∷ xs) a h =
    let k = and_parts (is_small x) (list_all is_small xs) h in
    let e : (x == id) ≡ false = let lt = a.0 in grind (arith, nat_tests, lt) in
    both (is_other id x) (list_all (is_other id) xs) (other_of id x k.0 e) (above_others id xs a.1 k.1)

once_or_not : (id : ℕ) (xs : List ℕ) → Ascends xs → list_all is_small xs ≡ true → (list_all (is_other id) xs ≡ true) ⊎ Once id xs
once_or_not id [] a h = inl refl
once_or_not id (x ∷ xs) a h = by (once_or_not id xs a.1 k.1) (x == id) refl
  where
    k : (is_small x ≡ true) × (list_all is_small xs ≡ true)
    k = and_parts (is_small x) (list_all is_small xs) h

    by : (list_all (is_other id) xs ≡ true) ⊎ Once id xs → (b : Bool) → (x == id) ≡ b → (list_all (is_other id) (x ∷ xs) ≡ true) ⊎ Once id (x ∷ xs)
    by o true e = let is = eqb-true x id e in let P : ℕ → Type 0 = λ n. Above n xs in inr (inl (is, above_others id xs (subst P is a.0) k.1))
    by (inl g) false e = inl (both (is_other id x) (list_all (is_other id) xs) (other_of id x k.0 e) g)
    by (inr o) false e = inr (inr (other_of id x k.0 e, o))

not_itself : (id : ℕ) → is_other id id ≡ true → ⊥
not_itself id h = clash (sym (ap (λ b. if b then false else true) (eq-eqb id id refl)) ∙ (and_parts (nat_lt id 65536) (if id == id then false else true) h).1)
  where
    clash : false ≡ true → ⊥
    clash z = cc

pub ids_once : (changes : List Change) (id : ℕ) → SettingsFit changes → has_id output id changes ≡ true → Once id (ids output changes)
ids_once changes id fits known = by (once_or_not id (ids output changes) (ascending_ascends (filter_map (λ (change : Change). option_map (λ (e : Entry). e.id) (output change)) changes)) (all_ids output is_small changes (λ i k. lt-ltb i 65536 (small_ids changes i fits k))))
  where
    by : (list_all (is_other id) (ids output changes) ≡ true) ⊎ Once id (ids output changes) → Once id (ids output changes)
    by (inl h) = absurd (not_itself id (among output id (is_other id) changes h known))
    by (inr o) = o

-- ---- what is sent of it
pub none_after : (w : Parties) (id : ℕ) (xs ys : List Post) → NoneOf w id ys → values_owed w id (xs ++ ys) ≡ values_owed w id xs
none_after w id [] ys h = none_owed w id ys h
none_after w id (x ∷ xs) ys h = ap (cons_option (value_of_id id (role_heard w x.bytes))) (none_after w id xs ys h)

module _ (w : Parties) (rd : ReadsMessages w) (d : SlaveDesc) (changes : List Change) (steps : ℕ) (vs : List ℤ) (settings : SettingsFit changes) (fits : PayloadsFit changes) (id : ℕ) (small : id < 65536) (to : Address) (goes : target id changes ≡ Some to) where
  abbrev pub note : Note
  note = record { number = ordinal output id changes steps % 65536; message = data_message (ordinal output id changes steps % 65536) id (payload d id changes vs) }

  abbrev sent : List ℕ → List Note
  sent is = values_owed w id (map post (map parcel_send (filter_map (parcel d changes steps vs) is)))

  abbrev due : ℕ → Bool
  due i = is_due output i changes steps

  -- its own message
  own_sent : (is : List ℕ) → sent (id ∷ is) ≡ note ∷ sent is
  own_sent is =
      ap (λ o. values_owed w id (map post (map parcel_send (cons_option (option_map (λ (a : Address). record { to = a; message = note.message }) o) (filter_map (parcel d changes steps vs) is))))) goes
      ∙ ap (λ r. cons_option (value_of_id id r) (sent is)) (data_is w rd note.number id (payload d id changes vs) (omega arith) small (payload_are d id changes vs) (payload_length d id changes vs fits))
      ∙ ap (λ b. cons_option (if b then Some note else None) (sent is)) (eq-eqb id id refl)

  -- the message of another id is none of it
  other_sent : (i : ℕ) (is : List ℕ) → is_other id i ≡ true → sent (i ∷ is) ≡ sent is
  other_sent i is h = by (target i changes)
    where
      number : ℕ
      number = ordinal output i changes steps % 65536

      parts : (nat_lt i 65536 ≡ true) × ((if i == id then false else true) ≡ true)
      parts = and_parts (nat_lt i 65536) (if i == id then false else true) h

      below : i < 65536
      below = let e = parts.0 in grind (arith, nat_tests, e)

      by : (o : Option Address) → values_owed w id (map post (map parcel_send (cons_option (option_map (λ (a : Address). record { to = a; message = data_message number i (payload d i changes vs) }) o) (filter_map (parcel d changes steps vs) is)))) ≡ sent is
      by None = refl
      by (Some a) =
          ap (λ r. cons_option (value_of_id id r) (sent is)) (data_is w rd number i (payload d i changes vs) (omega arith) below (payload_are d i changes vs) (payload_length d i changes vs fits))
          ∙ ap (λ o. cons_option o (sent is)) (other_value w rd d changes steps vs fits id i _ parts.1)

  others_sent : (is : List ℕ) → list_all (is_other id) is ≡ true → sent (filter due is) ≡ []
  others_sent is h = none_owed w id (map post (map parcel_send (filter_map (parcel d changes steps vs) (filter due is)))) (parcels_none w rd d changes steps vs fits id (filter due is) (all_chosen due (is_other id) is h))

  once_sent : (is : List ℕ) → Once id is → sent (filter due is) ≡ (if due id then note ∷ [] else [])
  once_sent [] o = absurd o
  once_sent (i ∷ is) (inl o) =
      let P : ℕ → Type 0 = λ j. sent (if due j then j ∷ filter due is else filter due is) ≡ (if due id then note ∷ [] else []) in
      subst P (sym o.0) (by (due id))
    where
      by : (b : Bool) → sent (if b then id ∷ filter due is else filter due is) ≡ (if b then note ∷ [] else [])
      by true = own_sent (filter due is) ∙ ap (λ l. note ∷ l) (others_sent is o.1)
      by false = others_sent is o.1
  once_sent (i ∷ is) (inr o) = by (once_sent is o.1) (due i)
    where
      by : sent (filter due is) ≡ (if due id then note ∷ [] else []) → (b : Bool) → sent (if b then i ∷ filter due is else filter due is) ≡ (if due id then note ∷ [] else [])
      by g true = other_sent i (filter due is) o.0 ∙ g
      by g false = g

  pub data_sent : has_id output id changes ≡ true → values_owed w id (map post (map parcel_send (data_parcels d changes steps vs))) ≡ (if due id then note ∷ [] else [])
  data_sent known = once_sent (ids output changes) (ids_once changes id settings known)
