-- The first element that passes, along the list.
use Rattle.std.proofs.Common.{◌≡◌, ℕ, ◌+◌, ◌<◌, ◌≤◌, List, [], ◌∷◌, ◌++◌, length, take, drop, get_or, Bool, true, false, None, Some, refl, sym, ◌∙◌, append_assoc, add-one}
use Rattle.std.proofs.lemmas.List.{drop_more, take_more, drop_all}
use Rattle.std.proofs.lemmas.Option.{slice_get-get_or}
use Rattle.dcp_net.specs.Firsts.{first_that, without_first, FindsFirst}

-- none of the first i passes
pub record Passed {A : Type 0} (passes : A → Bool) (xs : List A) (i : ℕ) : Type 0 where
  pub same : first_that passes xs ≡ first_that passes (drop i xs)
  pub kept : without_first passes xs ≡ take i xs ++ without_first passes (drop i xs)

pub Passed-none : {A : Type 0} (passes : A → Bool) (xs : List A) → Passed passes xs 0
Passed-none passes xs = record { same = refl; kept = refl }

module _ {A : Type 0} (passes : A → Bool) (xs : List A) (i : ℕ) (d : A) (here : i < length xs) (passed : Passed passes xs i) where
  pub Passed-more : passes (get_or xs i d) ≡ false → Passed passes xs (i + 1)
  Passed-more other =
      let rest = drop_more xs i d here in
      record {
        same = passed.same ∙ rw (rest, other) refl;
        kept = passed.kept ∙ rw (rest, other, take_more xs i d here) (sym (append_assoc (take i xs) (get_or xs i d ∷ []) (without_first passes (drop (i + 1) xs))));
      }

  pub Passed-found : passes (get_or xs i d) ≡ true → FindsFirst passes xs (Some i)
  Passed-found found =
      let rest = drop_more xs i d here in
      (here, passed.same ∙ rw (rest, found) (sym (slice_get-get_or xs i d here)), passed.kept ∙ rw (rest, found, add-one) refl)

pub Passed-all : {A : Type 0} (passes : A → Bool) (xs : List A) (i : ℕ) → length xs ≤ i → Passed passes xs i → FindsFirst passes xs None
Passed-all passes xs i all passed = passed.same ∙ rw (drop_all i xs all) refl
