-- What is told of every kind of text: what its texts read as, and the first line that is refused.
use Rattle.std.specs.Prelude.{◌≡◌, ℕ, ◌+◌, ◌-◌, ◌^◌, ◌<◌, min, List, length, Option, Some, None, ◌⊎◌}
use Rattle.std.specs.Str.Lines.{lines}
use Rattle.text_lines.specs.declared.reasons.TextWhy.{TextWhy}
use Rattle.text_lines.specs.declared.reasons.TextRefused.{TextRefused}
use Rattle.text_lines.specs.declared.reasons.TextRefused.TheVariants as refusals

-- how the place of a line is told: it stands still at the end of its type
abbrev pub line_number : ℕ → ℕ
line_number place = min place (2 ^ 32 - 1)

-- the fault at the first place that a judging refuses: `why all place` is what is wrong with the line of this place of all, the places beginning with 1, and the end being the line after the last
pub record IsFirst (why : List (List ℕ) → ℕ → Option TextWhy) (all : List (List ℕ)) (line : ℕ) (cause : TextWhy) : Type 0 where
  pub place : ℕ
  pub told : line ≡ line_number place
  pub counted : (0 < place) × (place < length all + 2)
  pub earlier : (n : ℕ) → 0 < n → n < place → why all n ≡ None
  pub here : why all place ≡ Some cause

-- the first line of a text that is refused, and why
abbrev pub FirstBad : (why : List (List ℕ) → ℕ → Option TextWhy) → List ℕ → ℕ → TextWhy → Type 0
FirstBad why text line cause = IsFirst why (lines text) line cause

-- the fault that was answered is the first line that is refused
abbrev pub IsFirstBad : (why : List (List ℕ) → ℕ → Option TextWhy) → List ℕ → TextRefused → Type 0
IsFirstBad why text refusals.OutOfMemory = Unit {0}
IsFirstBad why text (refusals.Fault fault) = FirstBad why text fault.line fault.why

-- each text reads or has a first line that is refused
abbrev pub ReadsOrRefused : {V : Type 0} → (Reads : List ℕ → V → Type 0) → (why : List (List ℕ) → ℕ → Option TextWhy) → Type 0
ReadsOrRefused {V} Reads why = (text : List ℕ) → ((v : V) × Reads text v) ⊎ ((line : ℕ) × (cause : TextWhy) × FirstBad why text line cause)

-- and never both
abbrev pub NeverReadsAndRefused : {V : Type 0} → (Reads : List ℕ → V → Type 0) → (why : List (List ℕ) → ℕ → Option TextWhy) → Type 0
NeverReadsAndRefused {V} Reads why = (text : List ℕ) (v : V) (line : ℕ) (cause : TextWhy) → Reads text v → FirstBad why text line cause → ⊥

-- it has one value, or one such line
abbrev pub OneValue : {V : Type 0} → (Reads : List ℕ → V → Type 0) → Type 0
OneValue {V} Reads = (text : List ℕ) (a b : V) → Reads text a → Reads text b → a ≡ b

abbrev pub OneFault : (why : List (List ℕ) → ℕ → Option TextWhy) → Type 0
OneFault why = (text : List ℕ) (m n : ℕ) (v w : TextWhy) → FirstBad why text m v → FirstBad why text n w → (m ≡ n) × (v ≡ w)
