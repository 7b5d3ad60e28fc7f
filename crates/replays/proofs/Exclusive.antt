-- One answer excludes the others.
use Rattle.std.proofs.Common.{◌≡◌, ℕ, ◌<◌, List, [], ◌∷◌, take, Option, Ok, Err, zero, suc, refl, sym, ap, ◌∙◌, ◌⊎◌, inl, inr, arith, subst}
use Rattle.std.specs.List.{slice_get}
use Rattle.dcp_ends.specs.declared.entries.LogEntry.{LogEntry}
use Rattle.dcp_ends.specs.Events.{Rules}
use Rattle.replays.specs.declared.faults.ReplayFault.TheVariants.{Differs, Unended, OutOfMemory}
use Rattle.replays.specs.Differences.{FirstDiffers}
use Rattle.replays.specs.Expected.{AreRight, IsRight}
use Rattle.replays.specs.Laws.{OneAnswer}

slice_get-take : {X : Type 0} (n : ℕ) (xs : List X) (k : ℕ) → k < n → slice_get (take n xs) k ≡ slice_get xs k
slice_get-take zero xs k lt = absurd (omega arith)
slice_get-take (suc n) [] k lt = refl
slice_get-take (suc n) (x ∷ xs) zero lt = refl
slice_get-take (suc n) (x ∷ xs) (suc k) lt = slice_get-take n xs k (omega arith)

take-less : {X : Type 0} (n : ℕ) (xs : List X) (k : ℕ) → k < n → take k (take n xs) ≡ take k xs
take-less zero xs k lt = absurd (omega arith)
take-less (suc n) [] zero lt = refl
take-less (suc n) [] (suc k) lt = refl
take-less (suc n) (x ∷ xs) zero lt = refl
take-less {X = X} (suc n) (x ∷ xs) (suc k) lt = ap (λ (rest : List X). x ∷ rest) (take-less n xs k (omega arith))

three : (a b : ℕ) → (a ≡ b) ⊎ ((a < b) ⊎ (b < a))
three zero zero = inl refl
three zero (suc b) = inr (inl (omega arith))
three (suc a) zero = inr (inr (omega arith))
three (suc a) (suc b) = by (three a b) where
  by : (a ≡ b) ⊎ ((a < b) ⊎ (b < a)) → (suc a ≡ suc b) ⊎ ((suc a < suc b) ⊎ (suc b < suc a))
  by (inl same) = inl (ap suc same)
  by (inr (inl lt)) = inr (inl (omega arith))
  by (inr (inr lt)) = inr (inr (omega arith))

module _ (master : Option Rules) (slaves : List Rules) (entries : List LogEntry) where
  pub right_or_differs : (at : ℕ) → AreRight master slaves entries → FirstDiffers master slaves entries at → ⊥
  right_or_differs at right differs = differs.differs (right at differs.entry differs.here)

  -- none before the first
  not_before : (at place : ℕ) → FirstDiffers master slaves entries at → FirstDiffers master slaves entries place → at < place → ⊥
  not_before at place one other lt =
      one.differs (subst (λ (l : List LogEntry). IsRight master slaves l one.entry) (take-less place entries at lt) (other.before at one.entry (slice_get-take place entries at lt ∙ one.here)))

  pub one_first : (at place : ℕ) → FirstDiffers master slaves entries at → FirstDiffers master slaves entries place → at ≡ place
  one_first at place one other = by (three at place) where
    by : (at ≡ place) ⊎ ((at < place) ⊎ (place < at)) → at ≡ place
    by (inl same) = same
    by (inr (inl lt)) = absurd (not_before at place one other lt)
    by (inr (inr lt)) = absurd (not_before place at other one lt)

pub same_answer : OneAnswer
same_answer sc h entries (Err OutOfMemory) other a b = tt
same_answer sc h entries (Ok x) (Err OutOfMemory) a b = tt
same_answer sc h entries (Ok x) (Ok y) a b = tt
same_answer sc h entries (Ok x) (Err (Differs at)) a b = right_or_differs _ _ entries at a.0 b
same_answer sc h entries (Ok x) (Err (Unended count)) a b = b.2 a.1
same_answer sc h entries (Err (Differs at)) (Err OutOfMemory) a b = tt
same_answer sc h entries (Err (Differs at)) (Ok y) a b = right_or_differs _ _ entries at b.0 a
same_answer sc h entries (Err (Differs at)) (Err (Differs place)) a b = one_first _ _ entries at place a b
same_answer sc h entries (Err (Differs at)) (Err (Unended count)) a b = right_or_differs _ _ entries at b.1 a
same_answer sc h entries (Err (Unended count)) (Err OutOfMemory) a b = tt
same_answer sc h entries (Err (Unended count)) (Ok y) a b = a.2 b.1
same_answer sc h entries (Err (Unended count)) (Err (Differs at)) a b = right_or_differs _ _ entries at a.1 b
same_answer sc h entries (Err (Unended count)) (Err (Unended number)) a b = a.0 ∙ sym b.0
