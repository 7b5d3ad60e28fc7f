-- What a step and an end owe a judging, and what follows for the whole text.
use Rattle.std.proofs.Common.{◌≡◌, ℕ, ◌+◌, ◌<◌, ⊎_elim, List, [], ◌∷◌, ◌++◌, length, Option, Some, None, Result, Ok, Err, sym, ap, ◌∙◌, subst, arith, append-nil, append_assoc, length-append, below_more}
use Rattle.std.proofs.str.Laws.{order}
use Rattle.text_lines.specs.Runs.{at_line, run_of}
use Rattle.text_lines.specs.Readings.{IsFirst, line_number}
use Rattle.text_lines.proofs.Results.{at_ok, at_err, and_ok, and_err}
use Rattle.text_lines.specs.declared.reasons.TextWhy.{TextWhy}
use Rattle.text_lines.specs.declared.reasons.TextFault.{TextFault}

-- what a reader owes: Holds is kept by a line that is taken, and each refusal is the judging's
pub record Judges {S V : Type 0} (step : S → List ℕ → Result S TextWhy) (finish : S → Result V TextWhy) (why : List (List ℕ) → ℕ → Option TextWhy) (Holds : List (List ℕ) → S → Type 0) : Type 0 where
  pub taken : (done rest : List (List ℕ)) (line : List ℕ) (s t : S) → Holds done s → step s line ≡ Ok t → (why (done ++ line ∷ rest) (length done + 1) ≡ None) × Holds (done ++ line ∷ []) t
  pub refused : (done rest : List (List ℕ)) (line : List ℕ) (s : S) (w : TextWhy) → Holds done s → step s line ≡ Err w → why (done ++ line ∷ rest) (length done + 1) ≡ Some w
  pub ended : (done : List (List ℕ)) (s : S) (w : TextWhy) → Holds done s → finish s ≡ Err w → why done (length done + 1) ≡ Some w

module _ {S V : Type 0} (step : S → List ℕ → Result S TextWhy) (finish : S → Result V TextWhy) (why : List (List ℕ) → ℕ → Option TextWhy) (Holds : List (List ℕ) → S → Type 0) (owes : Judges step finish why Holds) where
  -- a run that ends well ends in a state that holds all lines
  pub run_ok : (done rest : List (List ℕ)) (s : S) (v : V) → Holds done s → run_of step finish (length done + 1) s rest ≡ Ok v → (t : S) × Holds (done ++ rest) t × (finish t ≡ Ok v)
  run_ok done [] s v h e = (s, subst (λ (l : List (List ℕ)). Holds l s) (sym (append-nil done)) h, at_ok (length done + 1) (finish s) v e)
  run_ok done (line ∷ rest) s v h e =
      let t = and_ok (at_line (length done + 1) (step s line)) (λ t. run_of step finish (length done + 1 + 1) t rest) v e in
      let took = owes.taken done rest line s t.0 h (at_ok (length done + 1) (step s line) t.0 t.1) in
      let longer : length done + 1 ≡ length (done ++ line ∷ []) = omega (arith, length-append done (line ∷ [])) in
      let more = run_ok (done ++ line ∷ []) rest t.0 v took.1 (subst (λ (n : ℕ). run_of step finish (n + 1) t.0 rest ≡ Ok v) longer t.2) in
      (more.0, subst (λ (l : List (List ℕ)). Holds l more.0) (append_assoc done (line ∷ []) rest) more.1, more.2)

  first_at : (all : List (List ℕ)) (n : ℕ) (f : TextFault) → f.line ≡ line_number n → 0 < n → n < length all + 2 → ((m : ℕ) → m < n → 0 < m → why all m ≡ None) → why all n ≡ Some f.why → IsFirst why all f.line f.why
  first_at all n f line some within earlier here = record { place = n; told = line; counted = (some, within); earlier = λ m above below. earlier m below above; here = here }

  -- a run that is refused is refused at the first such line
  pub run_err : (done rest : List (List ℕ)) (s : S) (f : TextFault) → Holds done s → ((n : ℕ) → n < length done + 1 → 0 < n → why (done ++ rest) n ≡ None) → run_of step finish (length done + 1) s rest ≡ Err f → IsFirst why (done ++ rest) f.line f.why
  run_err done [] s f h earlier e =
      let t = at_err (length done + 1) (finish s) f e in
      first_at (done ++ []) (length done + 1) f t.0 (omega arith) (omega (arith, length-append done [])) earlier
      (ap (λ (l : List (List ℕ)). why l (length done + 1)) (append-nil done) ∙ owes.ended done s f.why h t.1)
  run_err done (line ∷ rest) s f h earlier e =
      ⊎_elim
      (λ here.
      let t = at_err (length done + 1) (step s line) f here in
      first_at (done ++ line ∷ rest) (length done + 1) f t.0 (omega arith) (omega (arith, length-append done (line ∷ rest))) earlier (owes.refused done rest line s f.why h t.1))
      (λ t.
      let took = owes.taken done rest line s t.0 h (at_ok (length done + 1) (step s line) t.0 t.1) in
      let longer : length done + 1 ≡ length (done ++ line ∷ []) = omega (arith, length-append done (line ∷ [])) in
      let same = append_assoc done (line ∷ []) rest in
      let more : (n : ℕ) → n < length done + 1 + 1 → 0 < n → why (done ++ line ∷ rest) n ≡ None = below_more (λ n. 0 < n → why (done ++ line ∷ rest) n ≡ None) (length done + 1) earlier (λ _. took.0) in
      subst (λ (l : List (List ℕ)). IsFirst why l f.line f.why) same
      (run_err (done ++ line ∷ []) rest t.0 f took.1
      (subst (λ (l : List (List ℕ)). (n : ℕ) → n < length (done ++ line ∷ []) + 1 → 0 < n → why l n ≡ None) (sym same) (subst (λ (k : ℕ). (n : ℕ) → n < k + 1 → 0 < n → why (done ++ line ∷ rest) n ≡ None) longer more))
      (subst (λ (n : ℕ). run_of step finish (n + 1) t.0 rest ≡ Err f) longer t.2)))
      (and_err (at_line (length done + 1) (step s line)) (λ t. run_of step finish (length done + 1 + 1) t rest) f e)

-- a text has one first line that is refused, whatever judges
pub one_first : (why : List (List ℕ) → ℕ → Option TextWhy) (all : List (List ℕ)) (l m : ℕ) (v w : TextWhy) → IsFirst why all l v → IsFirst why all m w → (l ≡ m) × (v ≡ w)
one_first why all l m v w a b =
    let not_less : a.place < b.place → ⊥ = λ less. let none = b.earlier a.place a.counted.0 less in let here = a.here in cc in
    let not_more : b.place < a.place → ⊥ = λ less. let none = a.earlier b.place b.counted.0 less in let here = b.here in cc in
    let same : a.place ≡ b.place = ⊎_elim (λ less. absurd (not_less less)) (λ le. ⊎_elim (λ less. absurd (not_more less)) (λ ge. omega arith) (order b.place a.place)) (order a.place b.place) in
    (a.told ∙ ap line_number same ∙ sym b.told, some_same v w (sym a.here ∙ ap (why all) same ∙ b.here))
  where
    some_same : (v w : TextWhy) → Some v ≡ Some w → v ≡ w
    some_same v w e = cc
