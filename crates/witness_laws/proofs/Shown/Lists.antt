-- What holds of each request of a list, by a test of the list.
use Rattle.std.proofs.Common.{◌≡◌, ℕ, zero, suc, ◌&&◌, ◌||◌, Bool, true, false, Some, List, [], ◌∷◌, refl, subst, slice_get}
use Rattle.std.specs.List.{list_all, list_any}
use Rattle.master_spec.specs.Requests.{Asking}

both : (b c : Bool) → (b && c) ≡ true → (b ≡ true) × (c ≡ true)
both true c h = (refl, h)
both false c h = absurd cc

neither : (b c : Bool) → (b || c) ≡ false → (b ≡ false) × (c ≡ false)
neither true c h = absurd cc
neither false c h = (refl, h)

pub each_passes : (f : Asking → Bool) (xs : List Asking) (i : ℕ) (a : Asking) → list_all f xs ≡ true → slice_get xs i ≡ Some a → f a ≡ true
each_passes f [] i a h e = absurd cc
each_passes f (x ∷ xs) zero a h e = let same : x ≡ a = cc in subst (λ x. f x ≡ true) same (both (f x) (list_all f xs) h).0
each_passes f (x ∷ xs) (suc i) a h e = each_passes f xs i a (both (f x) (list_all f xs) h).1 e

pub none_passes : (f : Asking → Bool) (xs : List Asking) (i : ℕ) (a : Asking) → list_any f xs ≡ false → slice_get xs i ≡ Some a → f a ≡ true → ⊥
none_passes f [] i a h e t = cc
none_passes f (x ∷ xs) zero a h e t =
    let same : x ≡ a = cc in let no = subst (λ x. f x ≡ false) same (neither (f x) (list_any f xs) h).0 in cc
none_passes f (x ∷ xs) (suc i) a h e t = none_passes f xs i a (neither (f x) (list_any f xs) h).1 e t
