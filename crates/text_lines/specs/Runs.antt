-- A text line by line, whatever a line does.
use Rattle.std.specs.Prelude.{ℕ, ◌+◌, List, [], ◌∷◌, Result, Ok, Err}
use Rattle.text_lines.specs.Readings.{line_number}
use Rattle.text_lines.specs.declared.reasons.TextWhy.{TextWhy}
use Rattle.text_lines.specs.declared.reasons.TextFault.{TextFault}

-- the cause at a place
abbrev pub at_line : {X : Type 0} → ℕ → Result X TextWhy → Result X TextFault
at_line place (Ok x) = Ok x
at_line place (Err why) = Err (record { line = line_number place; why = why })

abbrev pub then_text : {X Y : Type 0} → Result X TextFault → (X → Result Y TextFault) → Result Y TextFault
then_text (Ok x) f = f x
then_text (Err e) f = Err e

-- the lines from this place on, where step takes a line and finish the end
abbrev pub run_of : {S V : Type 0} → (S → List ℕ → Result S TextWhy) → (S → Result V TextWhy) → ℕ → S → List (List ℕ) → Result V TextFault
run_of step finish place s [] = at_line place (finish s)
run_of step finish place s (line ∷ lines) = then_text (at_line place (step s line)) (λ t. run_of step finish (place + 1) t lines)
