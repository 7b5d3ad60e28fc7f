-- Data messages whose values are not known.
use Rattle.std.proofs.Common.{◌≡◌, ◌≤◌, ◌<◌, ℕ, zero, suc, ◌+◌, ◌%◌, ◌/◌, Bool, true, false, List, [], ◌∷◌, ◌++◌, length, filter, take, drop, slice_get, Option, Some, None, refl, ap, sym, subst, ◌∙◌, arith, MatchBool, length-drop}
use Rattle.std.specs.Prelude.{ℤ, pos}
use Rattle.std.proofs.lemmas.List.{append-nil}
use Rattle.dcp_types.specs.declared.addresses.Address.{Address}
use Rattle.dcp_types.specs.declared.data_types.DataType.{DataType}
use Rattle.dcp_types.specs.declared.data_types.DataType.TheVariants as types
use Rattle.dcp_types.specs.Values.{fits, digits}
use Rattle.dcp_ends.specs.Events.{Send}
use Rattle.pdu_layout.specs.Reading.{spelling}
use Rattle.slave_desc.specs.declared.ports.Port.{Port}
use Rattle.slave_desc.specs.declared.descriptions.SlaveDesc.{SlaveDesc}
use Rattle.slave_spec.specs.Changes.{Change, output, target, ordinal}
use Rattle.slave_spec.specs.Payloads.{payload, data_message, values_fit_ports, IsMessage, IsBuilt}
use Rattle.slave_spec.specs.Transport.{Parcel, parcel_send}
use Rattle.slave_spec.specs.Foreign.{values_size}
use Rattle.slave_spec.proofs.Sizes.{payload_length}
use Rattle.conform.specs.Sending.{goes_out, IsDataTo, IsSample}

-- ---- zeros

zero_fits : (kind : DataType) → fits kind (pos 0) ≡ true
zero_fits types.U8 = refl
zero_fits types.U16 = refl
zero_fits types.U32 = refl
zero_fits types.U64 = refl
zero_fits types.I8 = refl
zero_fits types.I16 = refl
zero_fits types.I32 = refl
zero_fits types.I64 = refl

abbrev zeros : ℕ → List ℤ
zeros zero = []
zeros (suc n) = pos 0 ∷ zeros n

zeros_fit : (ports : List Port) → values_fit_ports ports (zeros (length ports)) ≡ true
zeros_fit [] = refl
zeros_fit (port ∷ ports) = rw (zero_fits port.kind) (zeros_fit ports)

taken_zeros : (n m : ℕ) → n ≤ m → take n (zeros m) ≡ zeros n
taken_zeros zero m h = refl
taken_zeros (suc n) zero h = absurd (omega (arith, h))
taken_zeros (suc n) (suc m) h = ap (λ (l : List ℤ). pos 0 ∷ l) (taken_zeros n m (omega (arith, h)))

eight_fit : (ports : List Port) (n : ℕ) → n ≡ length ports → n ≤ 8 → values_fit_ports ports (take n (pos 0 ∷ pos 0 ∷ pos 0 ∷ pos 0 ∷ pos 0 ∷ pos 0 ∷ pos 0 ∷ pos 0 ∷ [])) ≡ true
eight_fit ports n e h =
    ap (λ (l : List ℤ). values_fit_ports ports l) (taken_zeros n 8 h) ∙ ap (λ (k : ℕ). values_fit_ports ports (zeros k)) e ∙ zeros_fit ports

pub sampled : (d : SlaveDesc) (changes : List Change) (steps id n : ℕ) (room : List ℕ) (result : Option (Address × ℕ)) → n ≡ length d.outputs → n ≤ 8
    → IsBuilt d changes steps (take n (pos 0 ∷ pos 0 ∷ pos 0 ∷ pos 0 ∷ pos 0 ∷ pos 0 ∷ pos 0 ∷ pos 0 ∷ [])) id room result → IsSample d changes steps id room (target id changes) result
sampled d changes steps id n room result e few h = by (target id changes) (h (eight_fit d.outputs n e few))
  where
    vs : List ℤ
    vs = take n (pos 0 ∷ pos 0 ∷ pos 0 ∷ pos 0 ∷ pos 0 ∷ pos 0 ∷ pos 0 ∷ pos 0 ∷ [])

    by : (to : Option Address) → IsMessage d changes steps (take n (pos 0 ∷ pos 0 ∷ pos 0 ∷ pos 0 ∷ pos 0 ∷ pos 0 ∷ pos 0 ∷ pos 0 ∷ [])) id room to result → IsSample d changes steps id room to result
    by None k = k
    by (Some to) (size, same, bytes) = (size, payload d id changes _, same, payload_length d changes id _, bytes)

-- ---- one message

data_bytes : (n id : ℕ) (values : List ℕ) → spelling (data_message n id values) ≡ 240 ∷ n % 256 ∷ n / 256 % 256 ∷ id % 256 ∷ id / 256 % 256 ∷ values
unfolding spelling digits
data_bytes n id values = ap (λ (l : List ℕ). 240 ∷ n % 256 ∷ n / 256 % 256 ∷ id % 256 ∷ id / 256 % 256 ∷ l) (append-nil values)

take_drop : (n : ℕ) (l : List ℕ) → take n l ++ drop n l ≡ l
take_drop zero l = refl
take_drop (suc n) [] = refl
take_drop (suc n) (x ∷ l) = ap (λ (k : List ℕ). x ∷ k) (take_drop n l)

abbrev Alike : Address → List ℕ → Address → List ℕ → Type 0
Alike to bytes address sample = (to ≡ address) × (length bytes ≡ length sample) × (5 ≤ length sample) × (take 5 bytes ≡ take 5 sample)

make : (x y : Address) (b c : List ℕ) → x ≡ y → b ≡ c → (let s : Send = record { to = x; bytes = b } in s) ≡ (let s : Send = record { to = y; bytes = c } in s)
make x y b c e f = ap (λ (a : Address). let s : Send = record { to = a; bytes = b } in s) e ∙ ap (λ (l : List ℕ). let s : Send = record { to = y; bytes = l } in s) f

alike_is : (d : SlaveDesc) (changes : List Change) (steps id : ℕ) (address to : Address) (bytes sample values : List ℕ) → length values ≡ values_size d changes id
    → sample ≡ spelling (data_message (ordinal output id changes steps % 65536) id values) → Alike to bytes address sample → IsDataTo d changes steps id address (record { to = to; bytes = bytes })
alike_is d changes steps id address to bytes sample values size same (at, long, some, front) =
    let n : ℕ = ordinal output id changes steps % 65536 in
    let s : sample ≡ 240 ∷ n % 256 ∷ n / 256 % 256 ∷ id % 256 ∷ id / 256 % 256 ∷ values = same ∙ data_bytes n id values in
    let f : take 5 bytes ≡ 240 ∷ n % 256 ∷ n / 256 % 256 ∷ id % 256 ∷ id / 256 % 256 ∷ [] = front ∙ ap (λ (l : List ℕ). take 5 l) s in
    let b : bytes ≡ spelling (data_message n id (drop 5 bytes)) = sym (take_drop 5 bytes) ∙ ap (λ (l : List ℕ). l ++ drop 5 bytes) f ∙ sym (data_bytes n id (drop 5 bytes)) in
    let k : length bytes ≡ 5 + length values = long ∙ ap length s ∙ omega arith in
    let p : Parcel = record { to = address; message = data_message n id (drop 5 bytes) } in
    record {
      parcel = p;
      is = record { payload = drop 5 bytes; same = refl; size = omega (arith, length-drop 5 bytes, k, size) };
      same = make to address bytes (spelling (data_message n id (drop 5 bytes))) at b;
    }

is_alike : (d : SlaveDesc) (changes : List Change) (steps id : ℕ) (address to : Address) (bytes sample values : List ℕ) → length values ≡ values_size d changes id
    → sample ≡ spelling (data_message (ordinal output id changes steps % 65536) id values) → IsDataTo d changes steps id address (record { to = to; bytes = bytes }) → Alike to bytes address sample
is_alike d changes steps id address to bytes sample values size same h =
    let n : ℕ = ordinal output id changes steps % 65536 in
    let s : sample ≡ 240 ∷ n % 256 ∷ n / 256 % 256 ∷ id % 256 ∷ id / 256 % 256 ∷ values = same ∙ data_bytes n id values in
    let k : (let q : Send = record { to = to; bytes = bytes } in q) ≡ parcel_send (record { to = address; message = data_message n id h.is.payload }) = h.same ∙ ap parcel_send h.is.same in
    let a : to ≡ address = ap (λ (q : Send). q.to) k in
    let b : bytes ≡ 240 ∷ n % 256 ∷ n / 256 % 256 ∷ id % 256 ∷ id / 256 % 256 ∷ h.is.payload = ap (λ (q : Send). q.bytes) k ∙ data_bytes n id h.is.payload in
    let long : length bytes ≡ length sample = omega (arith, ap length b, ap length s, size, h.is.size) in
    let some : 5 ≤ length sample = omega (arith, ap length s) in
    (a, long, some, ap (λ (l : List ℕ). take 5 l) b ∙ sym (ap (λ (l : List ℕ). take 5 l) s))

-- the data message that was built tells whether another one is of this id
pub told_by_sample : (d : SlaveDesc) (changes : List Change) (steps id : ℕ) (address to given : Address) (size : ℕ) (bytes room : List ℕ) (goal : Option Address) (b : Bool) → goal ≡ Some address
    → IsSample d changes steps id room goal (Some (given, size)) → MatchBool b (Alike to bytes given (take size room)) (Alike to bytes given (take size room) → ⊥)
    → MatchBool b (IsDataTo d changes steps id address (record { to = to; bytes = bytes })) (IsDataTo d changes steps id address (record { to = to; bytes = bytes }) → ⊥)
told_by_sample d changes steps id address to given size bytes room None b e h m = absurd cc
told_by_sample d changes steps id address to given size bytes room (Some other) true e (n, values, same, long, is) m =
    let k : (given, size) ≡ (other, n) = cc in
    let a : given ≡ address = ap (λ (q : Address × ℕ). q.0) k ∙ cc in
    let z : size ≡ n = ap (λ (q : Address × ℕ). q.1) k in
    alike_is d changes steps id address to bytes (take size room) values long (ap (λ (j : ℕ). take j room) z ∙ is) (subst (λ (w : Address). Alike to bytes w (take size room)) a m)
told_by_sample d changes steps id address to given size bytes room (Some other) false e (n, values, same, long, is) m = λ h.
    let k : (given, size) ≡ (other, n) = cc in
    let a : given ≡ address = ap (λ (q : Address × ℕ). q.0) k ∙ cc in
    let z : size ≡ n = ap (λ (q : Address × ℕ). q.1) k in
    m (subst (λ (w : Address). Alike to bytes w (take size room)) (sym a) (is_alike d changes steps id address to bytes (take size room) values long (ap (λ (j : ℕ). take j room) z ∙ is) h))

-- ---- ids

pub passed_by : (changes : List Change) (steps t : ℕ) (l : List ℕ) (id : ℕ) → slice_get l t ≡ Some id → goes_out changes steps id ≡ false
    → filter (goes_out changes steps) (drop t l) ≡ filter (goes_out changes steps) (drop (suc t) l)
passed_by changes steps t [] id e h = absurd cc
passed_by changes steps zero (x ∷ l) id e h = let k : x ≡ id = cc in rw (k, h) refl
passed_by changes steps (suc t) (x ∷ l) id e h = passed_by changes steps t l id e h

pub stopped_at : (changes : List Change) (steps t : ℕ) (l : List ℕ) (id : ℕ) → slice_get l t ≡ Some id → goes_out changes steps id ≡ true
    → filter (goes_out changes steps) (drop t l) ≡ id ∷ filter (goes_out changes steps) (drop (suc t) l)
stopped_at changes steps t [] id e h = absurd cc
stopped_at changes steps zero (x ∷ l) id e h = let k : x ≡ id = cc in rw (k, h) refl
stopped_at changes steps (suc t) (x ∷ l) id e h = stopped_at changes steps t l id e h

pub id_at : (l : List ℕ) (t : ℕ) → t < length l → (id : ℕ) × (slice_get l t ≡ Some id)
id_at [] t h = absurd (omega (arith, h))
id_at (x ∷ l) zero h = (x, refl)
id_at (x ∷ l) (suc t) h = id_at l t (omega (arith, h))

pub none_left : (changes : List Change) (steps t : ℕ) (l : List ℕ) → length l ≤ t → filter (goes_out changes steps) (drop t l) ≡ []
none_left changes steps zero [] h = refl
none_left changes steps (suc t) [] h = refl
none_left changes steps zero (x ∷ l) h = absurd (omega (arith, h))
none_left changes steps (suc t) (x ∷ l) h = none_left changes steps t l (omega (arith, h))
