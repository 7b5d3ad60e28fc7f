-- The lines that say why an input is refused.
use Rattle.std.specs.Prelude.{◌≡◌, ◌⊎◌, ℕ, ◌<◌, ◌≤◌, List, ◌++◌, length, codes, decimal}
use Rattle.text_lines.specs.Causes.{cause_word}
use Rattle.text_lines.specs.declared.reasons.TextRefused.{TextRefused}
use Rattle.text_lines.specs.declared.reasons.TextRefused.TheVariants as refused
use Rattle.commands.specs.declared.said.Statement.{Statement}
use Rattle.commands.specs.declared.statuses.Judgement.{Judgement}
use Rattle.commands.specs.declared.statuses.Judgement.TheVariants.{Refused}
use Rattle.commands.specs.Limits.{input_limit}
use Rattle.commands.specs.Said.{past_limit, text_of}

-- the line of a text that is refused, and the word that says why
abbrev pub line_refusal : ℕ → List ℕ → List ℕ
line_refusal line word = codes "input: line " ++ (decimal line ++ (codes " " ++ (word ++ codes "\n")))

-- the place in bytes that are refused, and the word that says why
abbrev pub byte_refusal : ℕ → List ℕ → List ℕ
byte_refusal at word = codes "input: byte " ++ (decimal at ++ (codes " " ++ (word ++ codes "\n")))

-- this line refuses the input
abbrev pub Refuses : List ℕ → Statement → Type 0
Refuses line said = (said.judgement ≡ Refused) × (text_of said.text ≡ line)

-- the line of a text that is refused, and why; want of memory refuses none
abbrev pub RefusesText : TextRefused → Statement → Type 0
RefusesText (refused.Fault fault) said = Refuses (line_refusal fault.line (cause_word fault.why)) said
RefusesText refused.OutOfMemory said = ⊥

-- a text past its limit is refused as a whole, and any other is judged
abbrev pub OfText : (List ℕ → Judgement → List ℕ → Type 0) → List ℕ → Judgement → List ℕ → Type 0
OfText Judges input judgement text =
    ((length input ≤ input_limit) × Judges input judgement text)
    ⊎ ((input_limit < length input) × (judgement ≡ Refused) × (text ≡ past_limit))
