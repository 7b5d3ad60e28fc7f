-- Values are cut back from their bytes.
use Rattle.std.proofs.Common.{◌≡◌, ℕ, zero, suc, ◌+◌, ◌*◌, ◌/◌, ◌%◌, ◌^◌, ◌<◌, ◌==◌, Bool, true, false, if◌then◌else◌, List, [], ◌∷◌, ◌++◌, length, take, drop, map, Some, refl, sym, ap, ◌∙◌, arith, ℤ, pos}
use Rattle.std.specs.Prelude.{reverse}
use Rattle.std.specs.List.{flat_map}
use Rattle.std.proofs.Math.Nat.{pow-suc}
use Rattle.std.proofs.Math.Seq.{take-append_seam, drop-append_seam}
use Rattle.std.proofs.lemmas.Bool.{and_parts}
use Rattle.dcp_types.specs.declared.data_types.DataType.{DataType}
use Rattle.dcp_types.specs.declared.data_types.DataType.TheVariants.{U8, U16, U32, U64, I8, I16, I32, I64}
use Rattle.dcp_types.specs.Values.{width, digits, residue, fits, value_bytes}
use Rattle.dcp_types.proofs.Residues.{value_of, value_of-residue, residue_below}
use Rattle.fixed_models.specs.Steps.{all_fit}
use Rattle.pdu_layout.specs.Reading.{number, value_in}
use Rattle.slave_desc.specs.declared.ports.Port.{Port}
use Rattle.slave_spec.specs.Changes.{output, entries}
use Rattle.slave_spec.specs.Refusals.{port_with}
use Rattle.slave_spec.specs.Payloads.{port_type, cut_values, output_value}
use Rattle.slave_laws.proofs.Talk.Bytes.{digits_length}
use Rattle.slave_laws.specs.Wiring.Back.{PayloadsReadBack}

-- ---- one value
number-digits : (w n : ℕ) → n < 256 ^ w → number (digits w n) ≡ n
unfolding digits
number-digits zero n h = omega (arith, h)
number-digits (suc w) n h =
    let r : n / 256 < 256 ^ w = omega (arith, h, pow-suc 256 w) in
    let e : n % 256 + 256 * (n / 256) ≡ n = omega arith in
    ap (λ (m : ℕ). n % 256 + 256 * m) (number-digits w (n / 256) r) ∙ e

pub value_back : (kind : DataType) (z : ℤ) → fits kind z ≡ true → value_in kind (value_bytes kind z) ≡ z
value_back kind z h = ap (value_of kind) (number-digits (width kind) (residue (width kind) z) (residue_below kind z h)) ∙ value_of-residue kind z h

-- ---- values one behind the other
pub cut_back : (K : ℕ → DataType) (V : ℕ → ℤ) → ((vr : ℕ) → fits (K vr) (V vr) ≡ true) → (vrs : List ℕ) → cut_values (map K vrs) (flat_map (λ vr. value_bytes (K vr) (V vr)) vrs) ≡ map V vrs
cut_back K V f [] = refl
cut_back K V f (vr ∷ vrs) =
    let k = K vr in
    let own = value_bytes k (V vr) in
    let rest = flat_map (λ v. value_bytes (K v) (V v)) vrs in
    let size : length own ≡ width k = digits_length (width k) (residue (width k) (V vr)) in
    let head : take (width k) (own ++ rest) ≡ own = ap (λ n. take n (own ++ rest)) (sym size) ∙ take-append_seam own rest in
    let more : drop (width k) (own ++ rest) ≡ rest = ap (λ n. drop n (own ++ rest)) (sym size) ∙ drop-append_seam own rest in
    ap (λ l. value_in k l ∷ cut_values (map K vrs) (drop (width k) (own ++ rest))) head
    ∙ ap (λ z. z ∷ cut_values (map K vrs) (drop (width k) (own ++ rest))) (value_back k (V vr) (f vr))
    ∙ ap (λ l. V vr ∷ cut_values (map K vrs) l) more
    ∙ ap (λ l. V vr ∷ l) (cut_back K V f vrs)

-- ---- outputs by their references
zero_fits : (kind : DataType) → fits kind (pos 0) ≡ true
zero_fits U8 = refl
zero_fits U16 = refl
zero_fits U32 = refl
zero_fits U64 = refl
zero_fits I8 = refl
zero_fits I16 = refl
zero_fits I32 = refl
zero_fits I64 = refl

-- the value of a reference lies in its port's type
pub output_fits : (ports : List Port) (vs : List ℤ) → all_fit (map (λ p. p.kind) ports) vs ≡ true → (vr : ℕ) → fits (port_type (port_with vr ports)) (output_value vr ports vs) ≡ true
output_fits [] vs h vr = zero_fits I64
output_fits (p ∷ ports) [] h vr = zero_fits (port_type (port_with vr (p ∷ ports)))
output_fits (p ∷ ports) (v ∷ vs) h vr = by (output_fits ports vs a.1 vr) (p.vr == vr)
  where
    a : (fits p.kind v ≡ true) × (all_fit (map (λ q. q.kind) ports) vs ≡ true)
    a = and_parts (fits p.kind v) (all_fit (map (λ q. q.kind) ports) vs) h

    by : fits (port_type (port_with vr ports)) (output_value vr ports vs) ≡ true → (b : Bool) → fits (port_type (if b then Some p else port_with vr ports)) (if b then v else output_value vr ports vs) ≡ true
    by g true = a.0
    by g false = g

pub read_back : PayloadsReadBack
read_back d id changes vs h = cut_back (λ vr. port_type (port_with vr d.outputs)) (λ vr. output_value vr d.outputs vs) (output_fits d.outputs vs h) (reverse (entries output id changes))
