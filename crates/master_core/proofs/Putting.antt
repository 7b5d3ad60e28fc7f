-- The values that are put behind the others.
use Rattle.std.proofs.Common.{◌≡◌, ℕ, zero, suc, ◌+◌, ◌*◌, ◌-◌, ◌/◌, ◌%◌, ◌^◌, ◌<◌, ◌≤◌, List, [], ◌∷◌, ◌++◌, take, drop, length, get_or, refl, sym, ap, ◌∙◌, arith, append_assoc, append-nil, length-append, add-one, IsTrue}
use Rattle.std.specs.Prelude.{ℤ}
use Rattle.std.specs.List.{flat_map}
use Rattle.std.proofs.lemmas.List.{take_more, drop-drop}
use Rattle.std.proofs.lemmas.Grind.{flat_map-append}
use Rattle.dcp_types.specs.declared.data_types.DataType.{DataType}
use Rattle.std.proofs.lemmas.List.{length-take-le}
use Rattle.dcp_types.specs.Values.{width, fits, value_bytes}
use Rattle.dcp_types.specs.Values as values
use Rattle.dcp_types.specs.Values.{digits, residue}
use Rattle.dcp_types.proofs.Residues.{value_of, value_of-residue, residue_below}
use Rattle.std.proofs.Math.Nat.{pow-suc}
use Rattle.pdu_layout.specs.Reading.{value_in, number}
use Rattle.master_spec.specs.Course.{values_in, payload_size}
use Rattle.master_core.specs.declared.records.Talk.{Talk}
use Rattle.master_core.specs.Talking.{values_kept, outputs_width}

number-digits : (w n : ℕ) → n < 256 ^ w → number (digits w n) ≡ n
unfolding digits
number-digits zero n h = omega (arith, h)
number-digits (suc w) n h =
    let r : n / 256 < 256 ^ w = omega (arith, h, pow-suc 256 w) in
    let e : n % 256 + 256 * (n / 256) ≡ n = omega arith in
    ap (λ (m : ℕ). n % 256 + 256 * m) (number-digits w (n / 256) r) ∙ e

value_read : (kind : DataType) (z : ℤ) → IsTrue (fits kind z) → value_in kind (value_bytes kind z) ≡ z
value_read kind z h = ap (value_of kind) (number-digits (values.width kind) (residue (values.width kind) z) (residue_below kind z h)) ∙ value_of-residue kind z h

pub length_values : (kinds : List DataType) (payload : List ℕ) → length (values_in kinds payload) ≡ length kinds
length_values [] payload = refl
length_values (kind ∷ kinds) payload = omega (arith, length_values kinds (drop (width kind) payload))

pub values_more : (kinds : List DataType) (i : ℕ) (d : DataType) (payload : List ℕ) → i < length kinds
    → values_in (take (suc i) kinds) payload ≡ values_in (take i kinds) payload ++ value_in (get_or kinds i d) (take (width (get_or kinds i d)) (drop (payload_size (take i kinds)) payload)) ∷ []
values_more [] i d payload h = absurd (omega (arith, h))
values_more (kind ∷ kinds) zero d payload h = refl
values_more (kind ∷ kinds) (suc i) d payload h =
    let k = get_or kinds i d in
    let at = payload_size (take i kinds) in
    ap (λ (l : List ℤ). value_in kind (take (width kind) payload) ∷ l)
    (values_more kinds i d (drop (width kind) payload) (omega (arith, h))
    ∙ ap (λ (l : List ℕ). values_in (take i kinds) (drop (width kind) payload) ++ value_in k (take (width k) l) ∷ []) (drop-drop at (width kind) payload))

pub length_kept : (ts : List Talk) → length (flat_map values_kept ts) ≡ outputs_width ts
length_kept [] = refl
length_kept (t ∷ ts) = omega (arith, length-append (values_kept t) (flat_map values_kept ts), length_values t.slave.types t.outputs, length_kept ts)

pub width_more : (ts : List Talk) (i : ℕ) (d : Talk) → i < length ts → outputs_width (take (i + 1) ts) ≡ outputs_width (take i ts) + length (get_or ts i d).slave.types
width_more ts i d h = ap outputs_width (take_more ts i d h) ∙ width_behind (take i ts) (get_or ts i d)
  where
    width_behind : (xs : List Talk) (t : Talk) → outputs_width (xs ++ t ∷ []) ≡ outputs_width xs + length t.slave.types
    width_behind [] t = omega arith
    width_behind (x ∷ xs) t = omega (arith, width_behind xs t)

-- one more slave's outputs
pub row_step : (ts : List Talk) (i : ℕ) (d : Talk) (old now new : List ℤ) (cap : ℕ) → i < length ts → (length old + outputs_width (take i ts) ≤ cap → now ≡ old ++ flat_map values_kept (take i ts))
    → (length now + length (get_or ts i d).slave.types ≤ cap → new ≡ now ++ values_kept (get_or ts i d)) → length old + outputs_width (take (i + 1) ts) ≤ cap → new ≡ old ++ flat_map values_kept (take (i + 1) ts)
row_step ts i d old now new cap h before put room =
    let e = before (omega (arith, room, width_more ts i d h)) in
    let n : length now ≡ length old + outputs_width (take i ts) = ap (λ (l : List ℤ). length l) e ∙ length-append old (flat_map values_kept (take i ts)) ∙ ap (λ (n : ℕ). length old + n) (length_kept (take i ts)) in
    let p = put (omega (arith, n, room, width_more ts i d h)) in
    p ∙ ap (λ (l : List ℤ). l ++ values_kept (get_or ts i d)) e ∙ append_assoc old (flat_map values_kept (take i ts)) (values_kept (get_or ts i d))
    ∙ ap (λ (l : List ℤ). old ++ l) (sym (more ts i d h))
  where
    more : (ts : List Talk) (i : ℕ) (d : Talk) → i < length ts → flat_map values_kept (take (i + 1) ts) ≡ flat_map values_kept (take i ts) ++ values_kept (get_or ts i d)
    more ts i d h =
        ap (λ (l : List Talk). flat_map values_kept l) (take_more ts i d h) ∙ flat_map-append values_kept (take i ts) (get_or ts i d ∷ [])
        ∙ ap (λ (l : List ℤ). flat_map values_kept (take i ts) ++ l) (append-nil (values_kept (get_or ts i d)))

-- one more value
pub values_step : (kinds : List DataType) (i : ℕ) (d : DataType) (payload piece : List ℕ) (old now new : List ℤ) (z : ℤ) (cap at : ℕ) → i < length kinds → at ≡ payload_size (take i kinds)
    → piece ≡ take (width (get_or kinds i d)) (drop at payload) → IsTrue (fits (get_or kinds i d) z) → value_bytes (get_or kinds i d) z ≡ piece
    → (length old + i ≤ cap → now ≡ old ++ values_in (take i kinds) payload) → (length now < cap → new ≡ now ++ z ∷ []) → length old + (i + 1) ≤ cap → new ≡ old ++ values_in (take (i + 1) kinds) payload
values_step kinds i d payload piece old now new z cap at h place is fit bytes before put room =
    let k = get_or kinds i d in
    let e = before (omega (arith, room)) in
    let n : length now ≡ length old + i = ap (λ (l : List ℤ). length l) e ∙ length-append old (values_in (take i kinds) payload) ∙ ap (λ (n : ℕ). length old + n) (length_values (take i kinds) payload ∙ length-take-le i kinds (omega (arith, h))) in
    let p = put (omega (arith, n, room)) in
    let whole : take (width k) (drop at payload) ≡ value_bytes k z = sym is ∙ sym bytes in
    let value : value_in k (take (width k) (drop (payload_size (take i kinds)) payload)) ≡ z = ap (λ (n : ℕ). value_in k (take (width k) (drop n payload))) (sym place) ∙ ap (λ (l : List ℕ). value_in k l) whole ∙ value_read k z fit in
    p ∙ ap (λ (l : List ℤ). l ++ z ∷ []) e ∙ append_assoc old (values_in (take i kinds) payload) (z ∷ [])
    ∙ ap (λ (l : List ℤ). old ++ l) (ap (λ (x : ℤ). values_in (take i kinds) payload ++ x ∷ []) (sym value) ∙ sym (values_more kinds i d payload h) ∙ ap (λ (n : ℕ). values_in (take n kinds) payload) (sym (add-one i)))

pub piece_is : (at w n : ℕ) (payload : List ℕ) → w ≡ n → take ((at + w) - at) (drop at payload) ≡ take n (drop at payload)
piece_is at w n payload e = ap (λ (m : ℕ). take m (drop at payload)) (omega (arith, e))
