-- The four bytes of a length, and the room of a reader.
use Rattle.std.proofs.Common.{◌≡◌, ℕ, zero, suc, ◌+◌, ◌-◌, ◌<◌, ◌≤◌, ◌++◌, Bool, true, false, List, [], ◌∷◌, length, take, drop, get_or, refl, arith, ◌∙◌, sym, ap, append_assoc}
use Rattle.std.proofs.lemmas.List.{take_at, drop_at, drop-drop}
use Rattle.std.specs.Int.{bytes_low_first}
use borrow.Rule.Slice.PartMut.{put_mid}
use Rattle.byteorder.specs.Endian.{little_from}
use Rattle.byteorder.specs.Numbers.{length-bytes_low_first}
use Rattle.dcp_types.specs.Values.{digits}
use Rattle.dcp_types.proofs.Digits.{IsBytes, digits-little_from, low_bytes}
use Rattle.stream_frame.specs.Frames.{in_stream}
use Rattle.stream_frame.specs.Framing.{space_of}

pub first_four : (xs : List ℕ) → 4 ≤ length xs → take 4 xs ≡ get_or xs 0 0 ∷ get_or xs 1 0 ∷ get_or xs 2 0 ∷ get_or xs 3 0 ∷ []
first_four [] h = absurd (omega (arith, h))
first_four (a ∷ []) h = absurd (omega (arith, h))
first_four (a ∷ b ∷ []) h = absurd (omega (arith, h))
first_four (a ∷ b ∷ c ∷ []) h = absurd (omega (arith, h))
first_four (a ∷ b ∷ c ∷ d ∷ xs) h = refl

four_bytes : (a b c d : ℕ) → a < 256 → b < 256 → c < 256 → d < 256 → IsBytes (a ∷ b ∷ c ∷ d ∷ [])
four_bytes a b c d la lb lc ld zero = la
four_bytes a b c d la lb lc ld (suc zero) = lb
four_bytes a b c d la lb lc ld (suc (suc zero)) = lc
four_bytes a b c d la lb lc ld (suc (suc (suc zero))) = ld
four_bytes a b c d la lb lc ld (suc (suc (suc (suc i)))) = omega arith

-- the four bytes that were read are the digits of the number
pub number_read : (xs : List ℕ) (a b c d n : ℕ) → 4 ≤ length xs → a ≡ get_or xs 0 0 → b ≡ get_or xs 1 0 → c ≡ get_or xs 2 0 → d ≡ get_or xs 3 0
    → a < 256 → b < 256 → c < 256 → d < 256 → n ≡ little_from 0 4 (a ∷ b ∷ c ∷ d ∷ []) → take 4 xs ≡ digits 4 n
number_read xs a b c d n h ea eb ec ed la lb lc ld is =
    let front : take 4 xs ≡ a ∷ b ∷ c ∷ d ∷ [] = rw (ea, eb, ec, ed) (first_four xs h) in
    front ∙ sym (digits-little_from 4 (a ∷ b ∷ c ∷ d ∷ []) refl (four_bytes a b c d la lb lc ld)) ∙ ap (digits 4) (sym is)

-- the space of a reader that answered no bad length
pub open_space : (b : Bool) (held : List ℕ) (capacity : ℕ) → b ≡ false → capacity ≡ 1028 → capacity - length held ≡ space_of b held
open_space true held capacity closed e = absurd cc
open_space false held capacity closed e = ap (λ (n : ℕ). n - length held) e

-- a length and its message, written over the front of a room
pub put_bytes : (n : ℕ) (pdu room wrote copied : List ℕ) → n ≡ length pdu → wrote ≡ bytes_low_first 0 4 n ++ drop 4 room → copied ≡ pdu
    → put_mid 4 (4 + length pdu - 4) wrote copied ≡ in_stream pdu ++ drop (4 + length pdu) room
put_bytes n pdu room wrote copied size e same =
    let front : take 4 wrote ≡ digits 4 (length pdu) = ap (take 4) e ∙ take_at (bytes_low_first 0 4 n) (drop 4 room) 4 (length-bytes_low_first 0 4 n) ∙ low_bytes 4 n ∙ ap (digits 4) size in
    let back : drop 4 wrote ≡ drop 4 room = ap (drop 4) e ∙ drop_at (bytes_low_first 0 4 n) (drop 4 room) 4 (length-bytes_low_first 0 4 n) in
    let far : 4 + (4 + length pdu - 4) ≡ 4 + length pdu = omega arith in
    let rest : drop (4 + length pdu - 4) (drop 4 wrote) ≡ drop (4 + length pdu) room =
    ap (drop (4 + length pdu - 4)) back ∙ drop-drop (4 + length pdu - 4) 4 room ∙ ap (λ (m : ℕ). drop m room) far in
    ap (λ (l : List ℕ). l ++ (copied ++ drop (4 + length pdu - 4) (drop 4 wrote))) front
    ∙ ap (λ (l : List ℕ). digits 4 (length pdu) ++ (l ++ drop (4 + length pdu - 4) (drop 4 wrote))) same
    ∙ ap (λ (l : List ℕ). digits 4 (length pdu) ++ (pdu ++ l)) rest
    ∙ sym (append_assoc (digits 4 (length pdu)) pdu (drop (4 + length pdu) room))
