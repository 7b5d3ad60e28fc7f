-- Bytes, numbers at the front of bytes, and bytes that are filled up with zeros.
use Rattle.std.proofs.Common.{◌≡◌, ℕ, zero, suc, ◌+◌, ◌-◌, ◌*◌, ◌<◌, ◌≤◌, ◌^◌, List, [], ◌∷◌, ◌++◌, length, get_or, take, drop, replicate, refl, sym, ap, ◌∙◌, inl, inr, arith}
use Rattle.std.specs.Int.{to_le_bytes, from_le_bytes, w16, w32}
use Rattle.std.proofs.lemmas.List.{take-append-drop, length-take-le, length-drop, length-append, length-replicate, get_or-take, get_or-drop, get_or_past, length-take, append-nil, get_or-append-add}
use Rattle.std.proofs.lemmas.Nat.{le_bytes_2, le_bytes_4}
use Rattle.std.proofs.lemmas.Bool.{cases_lt}
use Rattle.dcp_types.specs.declared.addresses.Address.{Address}
use Rattle.dcp_record.specs.Traces.{address_bytes, IsTraceAddress}
use Rattle.dcp_record.specs.Laws.{IsBytes}

pub bytes-append : (x y : List ℕ) → IsBytes x → IsBytes y → (i : ℕ) → get_or (x ++ y) i 0 < 256
bytes-append [] y hx hy i = hy i
bytes-append (c ∷ x) y hx hy zero = hx zero
bytes-append (c ∷ x) y hx hy (suc i) = bytes-append x y (λ j. hx (suc j)) hy i

pub bytes-drop : (n : ℕ) (x : List ℕ) → IsBytes x → (i : ℕ) → get_or (drop n x) i 0 < 256
bytes-drop n x h i = rw get_or-drop (h (n + i))

pub bytes-take : (n : ℕ) (x : List ℕ) → IsBytes x → (i : ℕ) → get_or (take n x) i 0 < 256
bytes-take n x h i =
    elim (cases_lt i n) [
      | inl lt ↦ rw (get_or-take n x i 0 lt) (h i)
      | inr le ↦ rw (get_or_past (take n x) i 0 (omega (arith, length-take n x))) (omega arith)
    ]

abbrev pub zeros : ℕ → List ℕ
zeros n = replicate {A = ℕ} n 0

pub bytes-zeros : (n i : ℕ) → get_or (zeros n) i 0 < 256
bytes-zeros zero i = omega arith
bytes-zeros (suc n) zero = omega arith
bytes-zeros (suc n) (suc i) = bytes-zeros n i

-- what fills bytes up to so many
pub record Filling (n : ℕ) (x : List ℕ) : Type 0 where
  pub missing : List ℕ
  pub lacks : 0 < length missing
  pub bytes : IsBytes (x ++ missing)
  pub size : length (x ++ missing) ≡ n

pub filled : (n : ℕ) (x : List ℕ) → IsBytes x → length x < n → Filling n x
filled n x h lt =
    let e : length (zeros (n - length x)) ≡ n - length x = length-replicate {A = ℕ} (n - length x) 0 in
    record {
      missing = zeros (n - length x);
      lacks = omega arith;
      bytes = bytes-append x (zeros (n - length x)) h (bytes-zeros (n - length x));
      size = omega (arith, length-append x (zeros (n - length x)));
    }

-- a number of two bytes, of four bytes, and an address at the front
pub record Front16 (x : List ℕ) : Type 0 where
  pub number : ℕ
  pub rest : List ℕ
  pub fits : number < 2 ^ 16
  pub bytes : IsBytes rest
  pub parts : x ≡ to_le_bytes w16 number ++ rest
  pub size : length x ≡ 2 + length rest

pub record Front32 (x : List ℕ) : Type 0 where
  pub number : ℕ
  pub rest : List ℕ
  pub fits : number < 2 ^ 32
  pub bytes : IsBytes rest
  pub parts : x ≡ to_le_bytes w32 number ++ rest
  pub size : length x ≡ 4 + length rest

pub record FrontPlace (x : List ℕ) : Type 0 where
  pub place : Address
  pub rest : List ℕ
  pub fits : IsTraceAddress place
  pub bytes : IsBytes rest
  pub parts : x ≡ address_bytes place ++ rest
  pub size : length x ≡ 6 + length rest

below_2 : (a b : ℕ) → a < 256 → b < 256 → a + b * 256 < 2 ^ 16
below_2 a b la lb = omega arith

below_4 : (a b c d : ℕ) → a < 256 → b < 256 → c < 256 → d < 256 → a + b * 256 + c * 65536 + d * 16777216 < 2 ^ 32
below_4 a b c d la lb lc ld = omega arith

pub front_16 : (x : List ℕ) → IsBytes x → 2 ≤ length x → Front16 x
front_16 x h le =
    let p = take 2 x in
    let small = bytes-take 2 x h in
    let e : to_le_bytes w16 (from_le_bytes w16 p) ≡ p = le_bytes_2 p (from_le_bytes w16 p) (length-take-le 2 x le) small refl in
    record {
      number = from_le_bytes w16 p;
      rest = drop 2 x;
      fits = below_2 (get_or p 0 0) (get_or p 1 0) (small 0) (small 1);
      bytes = bytes-drop 2 x h;
      parts = sym (ap (λ (l : List ℕ). l ++ drop 2 x) e ∙ take-append-drop 2 x);
      size = omega (arith, length-drop 2 x);
    }

pub front_32 : (x : List ℕ) → IsBytes x → 4 ≤ length x → Front32 x
front_32 x h le =
    let p = take 4 x in
    let small = bytes-take 4 x h in
    let e : to_le_bytes w32 (from_le_bytes w32 p) ≡ p = le_bytes_4 p (from_le_bytes w32 p) (length-take-le 4 x le) small refl in
    record {
      number = from_le_bytes w32 p;
      rest = drop 4 x;
      fits = below_4 (get_or p 0 0) (get_or p 1 0) (get_or p 2 0) (get_or p 3 0) (small 0) (small 1) (small 2) (small 3);
      bytes = bytes-drop 4 x h;
      parts = sym (ap (λ (l : List ℕ). l ++ drop 4 x) e ∙ take-append-drop 4 x);
      size = omega (arith, length-drop 4 x);
    }

pub front_place : (x : List ℕ) → IsBytes x → 6 ≤ length x → FrontPlace x
front_place x h le =
    let a = front_32 x h (omega arith) in
    let b = front_16 a.rest a.bytes (omega (arith, a.size)) in
    record {
      place = record { ip = a.number; port = b.number };
      rest = b.rest;
      fits = record { ip_fits = a.fits; port_fits = b.fits };
      bytes = b.bytes;
      parts = a.parts ∙ ap (λ (l : List ℕ). to_le_bytes w32 a.number ++ l) b.parts;
      size = omega (arith, a.size, b.size);
    }

pub whole_from_nil : (x p rest : List ℕ) → x ≡ p ++ rest → length rest ≡ 0 → x ≡ p
whole_from_nil x p [] e z = e ∙ append-nil p
whole_from_nil x p (c ∷ rest) e z = absurd (omega arith)

pub bytes_behind : (b p rest : List ℕ) → b ≡ p ++ rest → IsBytes b → (i : ℕ) → get_or rest i 0 < 256
bytes_behind b p rest e h i =
    let there : get_or b (length p + i) 0 ≡ get_or rest i 0 = ap (λ (l : List ℕ). get_or l (length p + i) 0) e ∙ get_or-append-add p rest i 0 in
    omega (arith, h (length p + i))

-- one part after another
pub after_two : (b : List ℕ) (first second : Address) (x y : List ℕ) → b ≡ address_bytes first ++ x → x ≡ address_bytes second ++ y → b ≡ address_bytes first ++ address_bytes second ++ y
after_two b first second x y e f = e ∙ ap (λ (l : List ℕ). address_bytes first ++ l) f

pub after_three : (b : List ℕ) (first second : Address) (size : ℕ) (x y z : List ℕ) → b ≡ address_bytes first ++ x → x ≡ address_bytes second ++ y → y ≡ to_le_bytes w16 size ++ z
    → b ≡ address_bytes first ++ address_bytes second ++ to_le_bytes w16 size ++ z
after_three b first second size x y z e f g = after_two b first second x y e f ∙ ap (λ (l : List ℕ). address_bytes first ++ address_bytes second ++ l) g
