-- Bytes, one behind the other.
use Rattle.std.proofs.Common.{◌≡◌, ℕ, zero, suc, ◌+◌, ◌*◌, ◌<◌, ◌≤◌, ◌/◌, List, [], ◌∷◌, ◌++◌, length, refl, arith}
use Rattle.std.specs.Prelude.{slice_index, ℤ}
use Rattle.std.proofs.lemmas.List.{length-append}
use Rattle.std.specs.List.{flat_map}
use Rattle.dcp_types.specs.Values.{digits, residue, value_bytes, width}
use Rattle.dcp_types.specs.declared.data_types.DataType.{DataType}
use Rattle.dcp_types.specs.declared.data_types.DataType.TheVariants.{U8, U16, U32, U64, I8, I16, I32, I64}
use Rattle.slave_laws.specs.Talk.Ranges.{AreBytes}

pub bytes_at : (bytes : List ℕ) → AreBytes bytes → (i : ℕ) → slice_index bytes i < 256
bytes_at [] h i = omega arith
bytes_at (b ∷ bytes) h zero = h.0
bytes_at (b ∷ bytes) h (suc i) = bytes_at bytes h.1 i

pub bytes_joined : (xs ys : List ℕ) → AreBytes xs → AreBytes ys → AreBytes (xs ++ ys)
bytes_joined [] ys h k = k
bytes_joined (x ∷ xs) ys h k = (h.0, bytes_joined xs ys h.1 k)

pub digits_are : (w n : ℕ) → AreBytes (digits w n)
unfolding digits
digits_are zero n = tt
digits_are (suc w) n = (omega arith, digits_are w (n / 256))

pub digits_length : (w n : ℕ) → length (digits w n) ≡ w
unfolding digits
digits_length zero n = refl
digits_length (suc w) n = let h = digits_length w (n / 256) in omega (arith, h)

width_small : (kind : DataType) → width kind ≤ 8
width_small U8 = omega arith
width_small U16 = omega arith
width_small U32 = omega arith
width_small U64 = omega arith
width_small I8 = omega arith
width_small I16 = omega arith
width_small I32 = omega arith
width_small I64 = omega arith

pub value_length : (kind : DataType) (z : ℤ) → length (value_bytes kind z) ≤ 8
value_length kind z = omega (arith, digits_length (width kind) (residue (width kind) z), width_small kind)

-- parts of at most so many bytes each
pub parts_are : {A : Type 0} (f : A → List ℕ) (xs : List A) → ((x : A) → AreBytes (f x)) → AreBytes (flat_map f xs)
parts_are f [] h = tt
parts_are f (x ∷ xs) h = bytes_joined (f x) (flat_map f xs) (h x) (parts_are f xs h)

pub parts_length : {A : Type 0} (f : A → List ℕ) (most : ℕ) (xs : List A) → ((x : A) → length (f x) ≤ most) → length (flat_map f xs) ≤ length xs * most
parts_length f most [] h = omega arith
parts_length f most (x ∷ xs) h =
    let rest = parts_length f most xs h in
    let all = length-append (f x) (flat_map f xs) in
    let one : length (x ∷ xs) * most ≡ most + length xs * most = omega arith in
    omega (arith, rest, all, h x, one)
