-- Lists from which the first that passes a test is taken.
use Rattle.std.proofs.Common.{◌≡◌, ℕ, ◌+◌, Bool, true, false, if◌then◌else◌, ◌⊎◌, inl, inr, Some, None, List, [], ◌∷◌, length, refl, sym, ap, ◌∙◌, subst, arith}
use Rattle.dcp_net.specs.Firsts.{first_that, without_first}

abbrev pub bit : Bool → ℕ
bit true = 1
bit false = 0

-- how many pass a test
abbrev pub tally : {A : Type 0} → (A → Bool) → List A → ℕ
tally p [] = 0
tally p (x ∷ xs) = bit (p x) + tally p xs

-- it is one of them
abbrev pub Among : {A : Type 0} → A → List A → Type 0
Among x [] = ⊥
Among x (y ∷ ys) = (x ≡ y) ⊎ Among x ys

abbrev pub Each : {A : Type 0} → (A → Type 0) → List A → Type 0
Each P [] = Unit {0}
Each P (x ∷ xs) = P x × Each P xs

clash : true ≡ false → ⊥
clash z = cc

module _ {A : Type 0} where
  same_some : (x d : A) → Some x ≡ Some d → x ≡ d
  same_some x d z = cc

  none_some : (d : A) → None ≡ Some d → ⊥
  none_some d z = cc

  pub each_among : (P : A → Type 0) (xs : List A) (x : A) → Each P xs → Among x xs → P x
  each_among P [] x a m = absurd m
  each_among P (y ∷ ys) x a (inl e) = subst P (sym e) a.0
  each_among P (y ∷ ys) x a (inr m) = each_among P ys x a.1 m

  pub each_weaker : (P Q : A → Type 0) → ((x : A) → P x → Q x) → (xs : List A) → Each P xs → Each Q xs
  each_weaker P Q f [] a = tt
  each_weaker P Q f (x ∷ xs) a = (f x a.0, each_weaker P Q f xs a.1)

  pub each_both : (P Q : A → Type 0) (xs : List A) → Each P xs → Each Q xs → Each (λ x. P x × Q x) xs
  each_both P Q [] a b = tt
  each_both P Q (x ∷ xs) a b = ((a.0, b.0), each_both P Q xs a.1 b.1)

  -- ---- the first that passes
  pub first_passes : (p : A → Bool) (xs : List A) (d : A) → first_that p xs ≡ Some d → p d ≡ true
  first_passes p [] d e = absurd (none_some d e)
  first_passes p (x ∷ xs) d e = by (p x) refl e (λ z. first_passes p xs d z)
    where
      by : (b : Bool) → p x ≡ b → (if b then Some x else first_that p xs) ≡ Some d → (first_that p xs ≡ Some d → p d ≡ true) → p d ≡ true
      by true h z f = ap p (sym (same_some x d z)) ∙ h
      by false h z f = f z

  pub first_among : (p : A → Bool) (xs : List A) (d : A) → first_that p xs ≡ Some d → Among d xs
  first_among p [] d e = none_some d e
  first_among p (x ∷ xs) d e = by (p x) e (λ z. first_among p xs d z)
    where
      by : (b : Bool) → (if b then Some x else first_that p xs) ≡ Some d → (first_that p xs ≡ Some d → Among d xs) → Among d (x ∷ xs)
      by true z f = inl (sym (same_some x d z))
      by false z f = inr (f z)

  pub tally_without : (p q : A → Bool) (xs : List A) (d : A) → first_that p xs ≡ Some d → tally q xs ≡ tally q (without_first p xs) + bit (q d)
  tally_without p q [] d e = absurd (none_some d e)
  tally_without p q (x ∷ xs) d e = by (p x) e (λ z. tally_without p q xs d z)
    where
      by : (b : Bool) → (if b then Some x else first_that p xs) ≡ Some d → (first_that p xs ≡ Some d → tally q xs ≡ tally q (without_first p xs) + bit (q d))
          → tally q (x ∷ xs) ≡ tally q (if b then xs else x ∷ without_first p xs) + bit (q d)
      by true z f = let k : bit (q x) ≡ bit (q d) = ap (λ (w : A). bit (q w)) (same_some x d z) in omega (arith, k)
      by false z f = let k = f z in omega (arith, k)

  pub length_without : (p : A → Bool) (xs : List A) (d : A) → first_that p xs ≡ Some d → length xs ≡ length (without_first p xs) + 1
  length_without p [] d e = absurd (none_some d e)
  length_without p (x ∷ xs) d e = by (p x) e (λ z. length_without p xs d z)
    where
      by : (b : Bool) → (if b then Some x else first_that p xs) ≡ Some d → (first_that p xs ≡ Some d → length xs ≡ length (without_first p xs) + 1) → length (x ∷ xs) ≡ length (if b then xs else x ∷ without_first p xs) + 1
      by true z f = omega arith
      by false z f = let k = f z in omega (arith, k)

  pub each_without : (P : A → Type 0) (p : A → Bool) (xs : List A) → Each P xs → Each P (without_first p xs)
  each_without P p [] a = tt
  each_without P p (x ∷ xs) a = by (p x) (each_without P p xs a.1)
    where
      by : (b : Bool) → Each P (without_first p xs) → Each P (if b then xs else x ∷ without_first p xs)
      by true r = a.1
      by false r = (a.0, r)

  pub among_without : (p : A → Bool) (xs : List A) (d x : A) → first_that p xs ≡ Some d → Among x xs → (x ≡ d) ⊎ Among x (without_first p xs)
  among_without p [] d x e m = absurd m
  among_without p (y ∷ ys) d x e m = by (p y) e m (λ z n. among_without p ys d x z n)
    where
      by : (b : Bool) → (if b then Some y else first_that p ys) ≡ Some d → (x ≡ y) ⊎ Among x ys → (first_that p ys ≡ Some d → Among x ys → (x ≡ d) ⊎ Among x (without_first p ys)) → (x ≡ d) ⊎ Among x (if b then ys else y ∷ without_first p ys)
      by true z (inl h) f = inl (h ∙ same_some y d z)
      by true z (inr n) f = inr n
      by false z (inl h) f = inr (inl h)
      by false z (inr n) f = two (f z n)
        where
          two : (x ≡ d) ⊎ Among x (without_first p ys) → (x ≡ d) ⊎ ((x ≡ y) ⊎ Among x (without_first p ys))
          two (inl h) = inl h
          two (inr h) = inr (inr h)

  -- ---- none passes
  pub none_passes : (p q : A → Bool) (xs : List A) → first_that p xs ≡ None → Each (λ (x : A). q x ≡ true → p x ≡ true) xs → tally q xs ≡ 0
  none_passes p q [] e a = refl
  none_passes p q (x ∷ xs) e a = by (p x) refl e (q x) refl (λ z. none_passes p q xs z a.1)
    where
      some_none : Some x ≡ None → ⊥
      some_none z = cc

      by : (b : Bool) → p x ≡ b → (if b then Some x else first_that p xs) ≡ None → (c : Bool) → q x ≡ c → (first_that p xs ≡ None → tally q xs ≡ 0) → bit c + tally q xs ≡ 0
      by true h z c k f = absurd (some_none z)
      by false h z true k f = absurd (clash (sym (a.0 k) ∙ h))
      by false h z false k f = let r = f z in omega (arith, r)

  pub tally_among : (q : A → Bool) (xs : List A) (x : A) → Among x xs → q x ≡ true → tally q xs ≡ 0 → ⊥
  tally_among q [] x m h z = m
  tally_among q (y ∷ ys) x (inl e) h z = let k : bit (q y) ≡ 1 = ap (λ (w : A). bit (q w)) (sym e) ∙ ap bit h in absurd (omega (arith, k, z))
  tally_among q (y ∷ ys) x (inr m) h z = tally_among q ys x m h (omega (arith, z))
