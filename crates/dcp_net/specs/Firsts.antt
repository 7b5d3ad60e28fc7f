-- The first element of a list that passes a test.
use Rattle.std.specs.Prelude.{◌≡◌, ℕ, ◌<◌, List, [], ◌∷◌, length, slice_get, remove, Bool, if◌then◌else◌, Option, None, Some}

-- the first that passes, if any
abbrev pub first_that : {A : Type 0} → (A → Bool) → List A → Option A
first_that passes [] = None
first_that passes (x ∷ xs) = if passes x then Some x else first_that passes xs

-- all but that one
abbrev pub without_first : {A : Type 0} → (A → Bool) → List A → List A
without_first passes [] = []
without_first passes (x ∷ xs) = if passes x then xs else x ∷ without_first passes xs

-- the place of the first that passes, if any
abbrev pub FindsFirst : {A : Type 0} → (A → Bool) → List A → Option ℕ → Type 0
FindsFirst passes xs None = first_that passes xs ≡ None
FindsFirst passes xs (Some i) = (i < length xs) × (first_that passes xs ≡ slice_get xs i) × (without_first passes xs ≡ remove xs i)
