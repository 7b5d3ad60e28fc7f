use Rattle.std.proofs.Common.{◌≡◌, ℕ, ◌<◌, ◌^◌, List, length, refl, sym, ap, subst, ◌∙◌}
use Rattle.std.specs.Prelude.{ℤ, drop, ◌++◌}
use Rattle.std.specs.Int.{bytes_low_first}
use Rattle.dcp_types.specs.Values.{width, digits, residue, value_bytes}
use Rattle.dcp_types.specs.declared.data_types.DataType.{DataType}
use Rattle.dcp_types.specs.declared.data_types.DataType.TheVariants.{U8, U16, U32, U64, I8, I16, I32, I64}
use Rattle.dcp_types.proofs.Digits.{written, one_written}
use Rattle.dcp_types.proofs.Residues.{width_is}
use Rattle.std.proofs.lemmas.Int.{to_z-of_z}
use mir.Syntax.{w128}
use Rattle.dcp_types.proofs.values.put_value.Goals as goal

-- what was written over the room are the value's bytes
wrote : (w : ℕ) (kind : DataType) (z : ℤ) (room : List ℕ) (n : ℕ) → width kind ≡ w → length room ≡ width kind → n ≡ residue (width kind) z → bytes_low_first 0 w n ++ drop w room ≡ value_bytes kind z
wrote w kind z room n e len is =
    written w n room (len ∙ e) ∙ ap (λ (v : ℕ). digits v n) (sym e) ∙ ap (digits (width kind)) is

pub returns-in-U8 : goal.returns-in-U8
returns-in-U8 c =
    let one = width_is 1 c.args.kind U8 I8 refl refl c.in-U8.is in
    one_written c.residue_of-residue.result c.args.room.now (subst (λ (v : ℕ). c.residue_of-residue.result < 256 ^ v) one c.residue_of-residue.ensures.small) (c.requires.room ∙ one) ∙ ap (λ (v : ℕ). digits v c.residue_of-residue.result) (sym one) ∙ ap (digits (width c.args.kind)) (c.residue_of-residue.ensures.residue ∙ ap (residue (width c.args.kind)) (to_z-of_z w128 c.args.value c.ranges.value))

pub returns-in-U16 : goal.returns-in-U16
returns-in-U16 c =
    c.write_u16.ensures ∙ wrote 2 c.args.kind c.args.value c.args.room.now _ (width_is 2 c.args.kind U16 I16 refl refl c.in-U16.is) c.requires.room (c.residue_of-residue.ensures.residue ∙ ap (residue (width c.args.kind)) (to_z-of_z w128 c.args.value c.ranges.value))

pub returns-in-U32 : goal.returns-in-U32
returns-in-U32 c =
    c.write_u32.ensures ∙ wrote 4 c.args.kind c.args.value c.args.room.now _ (width_is 4 c.args.kind U32 I32 refl refl c.in-U32.is) c.requires.room (c.residue_of-residue.ensures.residue ∙ ap (residue (width c.args.kind)) (to_z-of_z w128 c.args.value c.ranges.value))

pub returns-in-U64 : goal.returns-in-U64
returns-in-U64 c =
    c.write_u64.ensures ∙ wrote 8 c.args.kind c.args.value c.args.room.now _ (width_is 8 c.args.kind U64 I64 refl refl c.in-U64.is) c.requires.room (c.residue_of-residue.ensures.residue ∙ ap (residue (width c.args.kind)) (to_z-of_z w128 c.args.value c.ranges.value))
