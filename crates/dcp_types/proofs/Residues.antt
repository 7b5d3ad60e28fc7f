-- Values and the numbers that stand for them.
use Rattle.std.proofs.Common.{◌≡◌, ℕ, ◌+◌, ◌-◌, ◌*◌, ◌^◌, ◌<◌, ◌⊎◌, inl, inr, refl, sym, ap, ◌∙◌, arith}
use Rattle.std.specs.Prelude.{ℤ, pos, negsuc, IsTrue, nat_le, if◌then◌else◌, ◌&&◌}
use Rattle.std.proofs.lemmas.Bool.Decides.{nat_tests}
use Rattle.dcp_types.specs.declared.data_types.DataType.{DataType}
use Rattle.dcp_types.specs.declared.data_types.DataType.TheVariants.{U8, U16, U32, U64, I8, I16, I32, I64}
use Rattle.dcp_types.specs.Values.{width, is_signed, fits, residue, value_bytes}
use Rattle.dcp_types.proofs.Digits.{same_number}

-- the value that a number stands for
abbrev pub value_of : DataType → ℕ → ℤ
value_of kind n = if is_signed kind && nat_le (256 ^ width kind) (2 * n) then negsuc (256 ^ width kind - (n + 1)) else pos n

pub residue_below : (kind : DataType) (z : ℤ) → IsTrue (fits kind z) → residue (width kind) z < 256 ^ width kind
residue_below U8 (pos n) h = grind (arith, nat_tests)
residue_below U16 (pos n) h = grind (arith, nat_tests)
residue_below U32 (pos n) h = grind (arith, nat_tests)
residue_below U64 (pos n) h = grind (arith, nat_tests)
residue_below I8 (pos n) h = grind (arith, nat_tests)
residue_below I16 (pos n) h = grind (arith, nat_tests)
residue_below I32 (pos n) h = grind (arith, nat_tests)
residue_below I64 (pos n) h = grind (arith, nat_tests)
residue_below U8 (negsuc n) h = grind (arith, nat_tests)
residue_below U16 (negsuc n) h = grind (arith, nat_tests)
residue_below U32 (negsuc n) h = grind (arith, nat_tests)
residue_below U64 (negsuc n) h = grind (arith, nat_tests)
residue_below I8 (negsuc n) h = grind (arith, nat_tests)
residue_below I16 (negsuc n) h = grind (arith, nat_tests)
residue_below I32 (negsuc n) h = grind (arith, nat_tests)
residue_below I64 (negsuc n) h = grind (arith, nat_tests)

pub value_of-residue : (kind : DataType) (z : ℤ) → IsTrue (fits kind z) → value_of kind (residue (width kind) z) ≡ z
value_of-residue U8 (pos n) h = refl
value_of-residue U16 (pos n) h = refl
value_of-residue U32 (pos n) h = refl
value_of-residue U64 (pos n) h = refl
value_of-residue I8 (pos n) h = grind (arith, nat_tests)
value_of-residue I16 (pos n) h = grind (arith, nat_tests)
value_of-residue I32 (pos n) h = grind (arith, nat_tests)
value_of-residue I64 (pos n) h = grind (arith, nat_tests)
value_of-residue U8 (negsuc n) h = grind (arith, nat_tests)
value_of-residue U16 (negsuc n) h = grind (arith, nat_tests)
value_of-residue U32 (negsuc n) h = grind (arith, nat_tests)
value_of-residue U64 (negsuc n) h = grind (arith, nat_tests)
value_of-residue I8 (negsuc n) h = grind (arith, nat_tests)
value_of-residue I16 (negsuc n) h = grind (arith, nat_tests)
value_of-residue I32 (negsuc n) h = grind (arith, nat_tests)
value_of-residue I64 (negsuc n) h = grind (arith, nat_tests)

pub one_value : (kind : DataType) (a b : ℤ) → IsTrue (fits kind a) → IsTrue (fits kind b) → value_bytes kind a ≡ value_bytes kind b → a ≡ b
one_value kind a b fa fb e =
    let same = same_number (width kind) (residue (width kind) a) (residue (width kind) b) (residue_below kind a fa) (residue_below kind b fb) e in
    sym (value_of-residue kind a fa) ∙ ap (value_of kind) same ∙ value_of-residue kind b fb

-- the widths of two types
pub width_is : (w : ℕ) (kind k l : DataType) → width k ≡ w → width l ≡ w → (kind ≡ k) ⊎ (kind ≡ l) → width kind ≡ w
width_is w kind k l ek el (inl e) = ap width e ∙ ek
width_is w kind k l ek el (inr e) = ap width e ∙ el
