-- The bytes of a greeting.
use Rattle.std.proofs.Common.{◌≡◌, ℕ, zero, suc, ◌+◌, ◌++◌, List, [], ◌∷◌, length, take, drop, arith, ◌∙◌, sym, ap, append-nil, length-append, take-append-drop}
use Rattle.std.proofs.lemmas.List.{take_at, drop_all, length-take-le, length-drop, get_or-drop}
use Rattle.std.specs.Int.{bytes_low_first}
use borrow.Rule.Slice.PartMut.{put_mid}
use Rattle.byteorder.specs.Endian.{little_from}
use Rattle.byteorder.specs.Numbers.{length-bytes_low_first, little_from-take}
use Rattle.dcp_types.specs.Values.{digits}
use Rattle.dcp_types.proofs.Digits.{IsBytes, digits-little_from, low_bytes, written}

-- an ip written to the front of six bytes, and a port behind it
pub hello_put : (ip port : ℕ) (room first second : List ℕ) → length room ≡ 6 → first ≡ bytes_low_first 0 4 ip ++ drop 4 room
    → second ≡ bytes_low_first 0 2 port ++ drop 2 (take 2 (drop 4 first)) → put_mid 4 2 first second ≡ digits 4 ip ++ digits 2 port
hello_put ip port room first second six e f =
    let front : take 4 first ≡ digits 4 ip = ap (take 4) e ∙ take_at (bytes_low_first 0 4 ip) (drop 4 room) 4 (length-bytes_low_first 0 4 ip) ∙ low_bytes 4 ip in
    let l0 = ap (λ (l : List ℕ). length l) e in
    let l1 = length-append (bytes_low_first 0 4 ip) (drop 4 room) in
    let l2 = length-bytes_low_first 0 4 ip in
    let l3 = length-drop 4 room in
    let size : length first ≡ 6 = omega (arith, l0, l1, l2, l3, six) in
    let l4 = length-drop 4 first in
    let none : drop 2 (drop 4 first) ≡ [] = drop_all 2 (drop 4 first) (omega (arith, l4, size)) in
    let back : second ≡ digits 2 port = f ∙ written 2 port (take 2 (drop 4 first)) (length-take-le 2 (drop 4 first) (omega (arith, l4, size))) in
    ap (λ (l : List ℕ). l ++ (second ++ drop 2 (drop 4 first))) front
    ∙ ap (λ (l : List ℕ). digits 4 ip ++ (l ++ drop 2 (drop 4 first))) back
    ∙ ap (λ (l : List ℕ). digits 4 ip ++ (digits 2 port ++ l)) none
    ∙ ap (λ (l : List ℕ). digits 4 ip ++ l) (append-nil (digits 2 port))

-- an ip and a port read from six bytes
pub hello_read : (ip port : ℕ) (bytes part : List ℕ) → length bytes ≡ 6 → IsBytes bytes → part ≡ drop 4 bytes
    → ip ≡ little_from 0 4 bytes → port ≡ little_from 0 2 part → digits 4 ip ++ digits 2 port ≡ bytes
hello_read ip port bytes part six are same e f =
    let four : digits 4 ip ≡ take 4 bytes =
    ap (digits 4) (e ∙ sym (little_from-take 0 4 4 bytes (omega arith)))
    ∙ digits-little_from 4 (take 4 bytes) (length-take-le 4 bytes (omega (arith, six))) (λ i. taken i) in
    let l = length-drop 4 bytes in
    let two : digits 2 port ≡ drop 4 bytes =
    ap (digits 2) (f ∙ ap (little_from 0 2) same) ∙ digits-little_from 2 (drop 4 bytes) (omega (arith, l, six)) (λ i. behind i) in
    ap (λ (x : List ℕ). x ++ digits 2 port) four ∙ ap (λ (x : List ℕ). take 4 bytes ++ x) two ∙ take-append-drop 4 bytes
  where
    taken : IsBytes (take 4 bytes)
    taken i = small 4 bytes are i
      where
        small : (n : ℕ) (xs : List ℕ) → IsBytes xs → IsBytes (take n xs)
        small zero xs h i = omega arith
        small (suc n) [] h i = omega arith
        small (suc n) (x ∷ xs) h zero = h 0
        small (suc n) (x ∷ xs) h (suc i) = small n xs (λ k. h (suc k)) i

    behind : IsBytes (drop 4 bytes)
    behind i = let e = get_or-drop 4 bytes i 0 in let h = are (4 + i) in omega (arith, e, h)
