-- How a scenario or a description is refused that has a slave whose model is not this program's, where that slave would have to run here.
use Rattle.std.specs.Prelude.{◌≡◌, ℕ, ◌+◌, ◌-◌, ◌==◌, Bool, false, List, [], ◌∷◌, Some, codes, if◌then◌else◌}
use Rattle.std.specs.Str.{bytes_eq}
use Rattle.std.specs.Str.Lines.{lines}
use Rattle.text_lines.specs.Readings.{line_number}
use Rattle.text_lines.specs.Texts.{words}
use Rattle.scenario.specs.declared.scenarios.Scenario.{Scenario}
use Rattle.scenario_text.specs.Reads.{ReadsAsScenario}
use Rattle.host.specs.declared.hosted.Hosted.{Hosted}
use Rattle.host.specs.Externals.{external_in}
use Rattle.commands.specs.Refusals.{line_refusal}

-- the first word is the key of a model
abbrev pub names_model : List (List ℕ) → Bool
names_model [] = false
names_model (w ∷ ws) = bytes_eq w (codes "model")

-- the place of the nth line of a model, counted from 1, where `at` is the place of the first of these lines; 0 where there are fewer
abbrev pub model_place : (nth at : ℕ) → List (List ℕ) → ℕ
model_place nth at [] = 0
model_place nth at (line ∷ rest) =
    if names_model (words line) then (if nth == 1 then at else model_place (nth - 1) (at + 1) rest) else model_place nth (at + 1) rest

-- the line of the model of the nth slave of a text, as it is told: each slave of a text that reads has one such line
abbrev pub model_line : (nth : ℕ) → (text : List ℕ) → ℕ
model_line nth text = line_number (model_place nth 1 (lines text))

abbrev pub external_refusal : (nth : ℕ) → (text : List ℕ) → List ℕ
external_refusal nth text = line_refusal (model_line nth text) (codes "EXTERNAL")

-- the text is a scenario, and of the slaves that would run here this is the first whose model is not this program's
pub record LacksModel (hosted : Hosted) (input text : List ℕ) : Type 0 where
  pub scenario : Scenario
  pub reads : ReadsAsScenario input scenario
  pub slave : ℕ
  pub first : external_in scenario hosted ≡ Some slave
  pub text_is : text ≡ external_refusal slave input
