use Rattle.std.proofs.Common.{◌≡◌, ℕ, List, length, refl, sym, ap, subst, ◌∙◌, arith}
use Rattle.byteorder.specs.Endian.{little_from}
use Rattle.dcp_types.specs.Values.{width, digits}
use Rattle.dcp_types.specs.declared.data_types.DataType.{DataType}
use Rattle.dcp_types.specs.declared.data_types.DataType.TheVariants.{U8, U16, U32, U64, I8, I16, I32, I64}
use Rattle.dcp_types.proofs.Digits.{IsBytes, digits-little_from}
use Rattle.dcp_types.proofs.Residues.{width_is}
use Rattle.dcp_types.proofs.values.number_in.Goals as goal

-- the digits of what was read are the bytes
read : (w : ℕ) (kind : DataType) (x : List ℕ) (n : ℕ) → width kind ≡ w → length x ≡ width kind → IsBytes x → n ≡ little_from 0 w x → digits (width kind) n ≡ x
read w kind x n e len h is =
    subst (λ (m : ℕ). digits (width kind) m ≡ x) (ap (λ (v : ℕ). little_from 0 v x) e ∙ sym is) (digits-little_from (width kind) x len h)

pub returns-in-U8-clause-digits : goal.returns-in-U8-clause-digits
returns-in-U8-clause-digits c =
    read 1 c.args.kind c.args.bytes.now _ (width_is 1 c.args.kind U8 I8 refl refl c.in-U8.is) c.requires (λ i. omega (arith, c.type_inv.bytes i)) (omega arith)

pub returns-in-U16-clause-digits : goal.returns-in-U16-clause-digits
returns-in-U16-clause-digits c =
    read 2 c.args.kind c.args.bytes.now _ (width_is 2 c.args.kind U16 I16 refl refl c.in-U16.is) c.requires (λ i. omega (arith, c.type_inv.bytes i)) c.read_u16.ensures

pub returns-in-U32-clause-digits : goal.returns-in-U32-clause-digits
returns-in-U32-clause-digits c =
    read 4 c.args.kind c.args.bytes.now _ (width_is 4 c.args.kind U32 I32 refl refl c.in-U32.is) c.requires (λ i. omega (arith, c.type_inv.bytes i)) c.read_u32.ensures

pub returns-in-U64-clause-digits : goal.returns-in-U64-clause-digits
returns-in-U64-clause-digits c =
    read 8 c.args.kind c.args.bytes.now _ (width_is 8 c.args.kind U64 I64 refl refl c.in-U64.is) c.requires (λ i. omega (arith, c.type_inv.bytes i)) c.read_u64.ensures
