-- A log of right entries with one more that is right.
use Rattle.std.proofs.Common.{◌≡◌, ℕ, ◌<◌, ◌≤◌, List, [], ◌∷◌, ◌++◌, length, take, Option, Some, zero, suc, refl, sym, ap, ◌∙◌, inl, inr, arith}
use Rattle.std.proofs.Math.Seq.{take-append_seam}
use Rattle.std.proofs.lemmas.Bool.{cases_eq}
use Rattle.std.proofs.lemmas.List.{length-append, take-append-le}
use Rattle.std.proofs.lemmas.Option.{slice_get_within}
use Rattle.std.specs.List.{slice_get}
use Rattle.dcp_ends.specs.declared.entries.LogEntry.{LogEntry}
use Rattle.dcp_ends.specs.Events.{Rules}
use Rattle.replays.specs.Expected.{AreRight, IsRight}

slice_get-seam : {X : Type 0} (xs : List X) (y : X) → slice_get (xs ++ y ∷ []) (length xs) ≡ Some y
slice_get-seam [] y = refl
slice_get-seam (x ∷ xs) y = slice_get-seam xs y

slice_get-front : {X : Type 0} (xs ys : List X) (k : ℕ) → k < length xs → slice_get (xs ++ ys) k ≡ slice_get xs k
slice_get-front [] ys k lt = absurd (omega arith)
slice_get-front (x ∷ xs) ys zero lt = refl
slice_get-front (x ∷ xs) ys (suc k) lt = slice_get-front xs ys k (omega arith)

module _ (master : Option Rules) (slaves : List Rules) where
  pub right-nil : AreRight master slaves []
  right-nil k entry found = cc

  module _ (log : List LogEntry) (e : LogEntry) (all : AreRight master slaves log) (one : IsRight master slaves log e) (k : ℕ) (entry : LogEntry) (found : slice_get (log ++ e ∷ []) k ≡ Some entry) where
    last : k ≡ length log → IsRight master slaves (take k (log ++ e ∷ [])) entry
    last same =
        let it : entry ≡ e = cc (slice_get-seam log e, ap (slice_get (log ++ e ∷ [])) same) in
        let front : take k (log ++ e ∷ []) ≡ log = ap (λ (n : ℕ). take n (log ++ e ∷ [])) same ∙ take-append_seam log (e ∷ []) in
        rw (front, it) one

    earlier : k < length log → IsRight master slaves (take k (log ++ e ∷ [])) entry
    earlier lt =
        let le : k ≤ length log = omega arith in
        rw (take-append-le k log (e ∷ []) le) (all k entry (sym (slice_get-front log (e ∷ []) k lt) ∙ found))

    either : IsRight master slaves (take k (log ++ e ∷ [])) entry
    either =
        let within : k < length (log ++ e ∷ []) = slice_get_within _ k entry found in
        elim (cases_eq k (length log)) [
          | inl same ↦ last same
          | inr ne ↦ earlier (omega (arith, length-append log (e ∷ [])))
        ]

  pub right-more : (log : List LogEntry) (e : LogEntry) → AreRight master slaves log → IsRight master slaves log e → AreRight master slaves (log ++ e ∷ [])
  right-more log e all one k entry found = either log e all one k entry found
