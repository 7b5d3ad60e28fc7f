-- The range of a type, and the bytes of a value.
use Rattle.std.specs.Prelude.{ℕ, zero, suc, ◌-◌, ◌+◌, ◌/◌, ◌%◌, ◌^◌, Bool, true, false, ◌&&◌, List, [], ◌∷◌, ℤ, pos, negsuc, int_le}
use Rattle.dcp_types.specs.declared.data_types.DataType.{DataType}
use Rattle.dcp_types.specs.declared.data_types.DataType.TheVariants.{U8, U16, U32, U64, I8, I16, I32, I64}

-- how many bytes a value has
abbrev pub width : DataType → ℕ
width U8 = 1
width U16 = 2
width U32 = 4
width U64 = 8
width I8 = 1
width I16 = 2
width I32 = 4
width I64 = 8

abbrev pub least : DataType → ℤ
least U8 = pos 0
least U16 = pos 0
least U32 = pos 0
least U64 = pos 0
least I8 = negsuc (2 ^ 7 - 1)
least I16 = negsuc (2 ^ 15 - 1)
least I32 = negsuc (2 ^ 31 - 1)
least I64 = negsuc (2 ^ 63 - 1)

abbrev pub greatest : DataType → ℤ
greatest U8 = pos (2 ^ 8 - 1)
greatest U16 = pos (2 ^ 16 - 1)
greatest U32 = pos (2 ^ 32 - 1)
greatest U64 = pos (2 ^ 64 - 1)
greatest I8 = pos (2 ^ 7 - 1)
greatest I16 = pos (2 ^ 15 - 1)
greatest I32 = pos (2 ^ 31 - 1)
greatest I64 = pos (2 ^ 63 - 1)

abbrev pub is_signed : DataType → Bool
is_signed U8 = false
is_signed U16 = false
is_signed U32 = false
is_signed U64 = false
is_signed I8 = true
is_signed I16 = true
is_signed I32 = true
is_signed I64 = true

-- the value lies in the type's range
abbrev pub fits : DataType → ℤ → Bool
fits kind z = int_le (least kind) z && int_le z (greatest kind)

-- the w digits of n in base 256, the lowest first
unfoldable pub digits : ℕ → ℕ → List ℕ
digits zero n = []
digits (suc w) n = n % 256 ∷ digits w (n / 256)

-- z modulo 256 ^ w, for z from -(256 ^ w) on
abbrev pub residue : ℕ → ℤ → ℕ
residue w (pos n) = n
residue w (negsuc n) = 256 ^ w - (n + 1)

-- the bytes of a value: two's complement, the lowest byte first
abbrev pub value_bytes : DataType → ℤ → List ℕ
value_bytes kind z = digits (width kind) (residue (width kind) z)
