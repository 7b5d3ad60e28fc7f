-- What a wiring says stays in the ranges of data messages.
use Rattle.std.proofs.Common.{◌≡◌, ℕ, ◌%◌, ◌<◌, ◌≤◌, ◌==◌, ◌&&◌, Bool, true, false, if◌then◌else◌, List, [], ◌∷◌, length, reverse, Option, Some, None, refl, ap, arith, ℤ}
use Rattle.std.specs.Prelude.{nat_lt, filter, option_map}
use Rattle.std.specs.List.{filter_map, cons_option}
use Rattle.std.proofs.lemmas.List.{length-reverse}
use Rattle.std.proofs.lemmas.Bool.{and_parts, eqb-true, ltb-true}
use Rattle.dcp_types.specs.declared.addresses.Address.{Address}
use Rattle.dcp_types.specs.declared.error_codes.ErrorCode.TheVariants.{NotSupported}
use Rattle.pdu_layout.specs.declared.messages.Cfg.{Cfg}
use Rattle.pdu_layout.specs.declared.messages.Cfg.TheVariants as cfg
use Rattle.log_spec.specs.Log.{Parties}
use Rattle.slave_desc.specs.declared.ports.Port.{Port}
use Rattle.slave_desc.specs.declared.descriptions.SlaveDesc.{SlaveDesc}
use Rattle.slave_spec.specs.Changes.{Change, Set, Restart, Entry, output, entries, put_ascending, ascending, ids, target, ordinal, is_due}
use Rattle.slave_spec.specs.Refusals as wiring
use Rattle.slave_spec.specs.Refusals.{port_with, output_refusal, refused_unless, is_full}
use Rattle.slave_spec.specs.Payloads.{port_type, output_value, bytes_for, payload, data_message}
use Rattle.slave_spec.specs.Turns.{parcel, data_parcels}
use Rattle.slave_laws.specs.Talk.Desks.{AreData}
use Rattle.slave_laws.specs.Talk.Ranges.{AreBytes, SettingFits, SettingsFit, PayloadsFit}
use Rattle.slave_laws.specs.Talk.Sends.{ReadsMessages}
use Rattle.slave_laws.proofs.Talk.Bytes.{digits_are, value_length, parts_are, parts_length}
use Rattle.slave_laws.proofs.Talk.Spelt.{data_is}

-- ---- a setting that is accepted
no_refusal : (b c : Bool) (o : Option Port) → (if b then Some NotSupported else output_refusal o c) ≡ None → c ≡ true
no_refusal true c o h = absurd cc
no_refusal false c None h = absurd cc
no_refusal false true (Some port) h = refl
no_refusal false false (Some port) h = absurd cc

-- an entry comes behind those that are there, of which there are seven at most
output_taken : (d : SlaveDesc) (changes : List Change) (id position vr : ℕ) → wiring.refusal_of_setting d changes (cfg.Output id position vr) ≡ None → (position ≡ length (entries output id changes)) × (position < 8)
unfolding wiring.refusal_of_setting
output_taken d changes id position vr h =
    let c = no_refusal (is_full id changes) ((position == length (entries output id changes)) && nat_lt position 8) (port_with vr d.outputs) h in
    let a = and_parts (position == length (entries output id changes)) (nat_lt position 8) c in
    (eqb-true position (length (entries output id changes)) a.0, ltb-true position 8 a.1)

output_more : (changes : List Change) (id position vr : ℕ) → position ≡ length (entries output id changes) → position < 8 → PayloadsFit changes → PayloadsFit (Set (cfg.Output id position vr) ∷ changes)
output_more changes id position vr e lt h i = by (id == i) refl
  where
    by : (b : Bool) → (id == i) ≡ b → length (cons_option (if b then Some vr else None) (entries output i changes)) ≤ 8
    by true k = let same : id ≡ i = eqb-true id i k in let n : length (entries output id changes) ≡ length (entries output i changes) = ap (λ j. length (entries output j changes)) same in omega (arith, n, e, lt)
    by false k = h i

pub set_payloads : (d : SlaveDesc) (changes : List Change) (body : Cfg) → wiring.refusal_of_setting d changes body ≡ None → PayloadsFit changes → PayloadsFit (Set body ∷ changes)
set_payloads d changes (cfg.Output id position vr) r h = let o = output_taken d changes id position vr r in output_more changes id position vr o.0 o.1 h
set_payloads d changes (cfg.Parameter vr kind value) r h = h
set_payloads d changes (cfg.Logging category level mode) r h = h
set_payloads d changes cfg.Clear r h = h
set_payloads d changes (cfg.TimeRes x y) r h = h
set_payloads d changes (cfg.Steps x y) r h = h
set_payloads d changes (cfg.Input x y z k) r h = h
set_payloads d changes (cfg.Target x) r h = h
set_payloads d changes (cfg.Source x) r h = h
set_payloads d changes (cfg.Tunable x y z k) r h = h
set_payloads d changes (cfg.ParamNet x y z k) r h = h
set_payloads d changes (cfg.Scope x y) r h = h

-- ---- data ids
abbrev IdsFit : List ℕ → Type 0
IdsFit [] = Unit {0}
IdsFit (id ∷ is) = (id < 65536) × IdsFit is

put_fits : (n : ℕ) (xs : List ℕ) → n < 65536 → IdsFit xs → IdsFit (put_ascending n xs)
put_fits n [] a h = (a, tt)
put_fits n (x ∷ xs) a h = by (put_fits n xs a h.1) (nat_lt n x) (n == x)
  where
    by : IdsFit (put_ascending n xs) → (b c : Bool) → IdsFit (if b then n ∷ x ∷ xs else (if c then x ∷ xs else x ∷ put_ascending n xs))
    by r true c = (a, h)
    by r false true = h
    by r false false = (h.0, r)

ascending_fit : (xs : List ℕ) → IdsFit xs → IdsFit (ascending xs)
ascending_fit [] h = tt
ascending_fit (x ∷ xs) h = put_fits x (ascending xs) h.0 (ascending_fit xs h.1)

one_fits : (body : Cfg) (rest : List ℕ) → SettingFits (Set body) → IdsFit rest → IdsFit (cons_option (option_map (λ (e : Entry). e.id) (output (Set body))) rest)
one_fits (cfg.Output id position vr) rest f h = (f, h)
one_fits (cfg.Parameter vr kind value) rest f h = h
one_fits (cfg.Logging category level mode) rest f h = h
one_fits cfg.Clear rest f h = h
one_fits (cfg.TimeRes x y) rest f h = h
one_fits (cfg.Steps x y) rest f h = h
one_fits (cfg.Input x y z k) rest f h = h
one_fits (cfg.Target x) rest f h = h
one_fits (cfg.Source x) rest f h = h
one_fits (cfg.Tunable x y z k) rest f h = h
one_fits (cfg.ParamNet x y z k) rest f h = h
one_fits (cfg.Scope x y) rest f h = h

named_fit : (changes : List Change) → SettingsFit changes → IdsFit (filter_map (λ change. option_map (λ e. e.id) (output change)) changes)
named_fit [] h = tt
named_fit (Set body ∷ changes) h = one_fits body (filter_map (λ change. option_map (λ e. e.id) (output change)) changes) h.0 (named_fit changes h.1)
named_fit (Restart steps ∷ changes) h = named_fit changes h.1

chosen_fit : (t : ℕ → Bool) (xs : List ℕ) → IdsFit xs → IdsFit (filter t xs)
chosen_fit t [] h = tt
chosen_fit t (x ∷ xs) h = by (chosen_fit t xs h.1) (t x)
  where
    by : IdsFit (filter t xs) → (b : Bool) → IdsFit (if b then x ∷ filter t xs else filter t xs)
    by r true = (h.0, r)
    by r false = r

-- ---- payloads
payload_are : (d : SlaveDesc) (id : ℕ) (changes : List Change) (vs : List ℤ) → AreBytes (payload d id changes vs)
payload_are d id changes vs = parts_are (bytes_for d.outputs vs) (reverse (entries output id changes)) (λ vr. digits_are _ _)

payload_length : (d : SlaveDesc) (id : ℕ) (changes : List Change) (vs : List ℤ) → PayloadsFit changes → length (payload d id changes vs) ≤ 64
payload_length d id changes vs h =
    let all = parts_length (bytes_for d.outputs vs) 8 (reverse (entries output id changes)) (λ vr. value_length (port_type (port_with vr d.outputs)) (output_value vr d.outputs vs)) in
    omega (arith, all, length-reverse (entries output id changes), h id)

-- ---- the data messages of a turn are data
module _ (w : Parties) (rd : ReadsMessages w) (d : SlaveDesc) (changes : List Change) (steps : ℕ) (vs : List ℤ) (fits : PayloadsFit changes) where
  parcels_are : (is : List ℕ) → IdsFit is → AreData w (filter_map (parcel d changes steps vs) is)
  parcels_are [] h = tt
  parcels_are (id ∷ is) h = by (parcels_are is h.1) (target id changes)
    where
      number : ℕ
      number = ordinal output id changes steps % 65536

      by : AreData w (filter_map (parcel d changes steps vs) is) → (o : Option Address) → AreData w (cons_option (option_map (λ (to : Address). record { to = to; message = data_message number id (payload d id changes vs) }) o) (filter_map (parcel d changes steps vs) is))
      by r None = r
      by r (Some to) = ((id, record { number = number; message = data_message number id (payload d id changes vs) }, data_is w rd number id (payload d id changes vs) (omega arith) h.0 (payload_are d id changes vs) (payload_length d id changes vs fits)), r)

  pub data_are : SettingsFit changes → AreData w (data_parcels d changes steps vs)
  data_are s = parcels_are (filter (λ id. is_due output id changes steps) (ids output changes)) (chosen_fit (λ id. is_due output id changes steps) (ids output changes) (ascending_fit (filter_map (λ change. option_map (λ e. e.id) (output change)) changes) (named_fit changes s)))
