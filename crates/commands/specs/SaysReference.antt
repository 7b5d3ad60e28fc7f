-- What `reference` says of a text.
use Rattle.std.specs.Prelude.{◌≡◌, ◌⊎◌, ℕ, ℤ, List, Option}
use Rattle.text_lines.specs.declared.reasons.TextWhy.{TextWhy}
use Rattle.text_lines.specs.Causes.{cause_word}
use Rattle.scenario.specs.declared.scenarios.Scenario.{Scenario}
use Rattle.scenario_text.specs.Reads.{ReadsAsScenario}
use Rattle.scenario_text.specs.Judging.{scenario_why_at}
use Rattle.text_lines.specs.Readings.{FirstBad}
use Rattle.lockstep.specs.declared.references.RefFault.{RefFault}
use Rattle.lockstep.specs.Lockstep.{IsReference}
use Rattle.commands.specs.declared.statuses.Judgement.{Judgement}
use Rattle.commands.specs.declared.statuses.Judgement.TheVariants as judged
use Rattle.host.specs.Hosting.{all_ends}
use Rattle.commands.specs.Externals.{LacksModel}
use Rattle.commands.specs.Refusals.{line_refusal}
use Rattle.run_text.specs.Closings.{reference_text}

-- the text is no scenario: the first line that is refused, and why
abbrev pub IsNoScenario : (input text : List ℕ) → Type 0
IsNoScenario input text = (line : ℕ) × (why : TextWhy) × FirstBad scenario_why_at input line why × (text ≡ line_refusal line (cause_word why))

-- the same, said of a text that is refused
abbrev pub SaysUnread : List ℕ → Judgement → List ℕ → Type 0
SaysUnread input judgement text = IsNoScenario input text

-- the rows of the scenario that it is, and the line after them; or the first line that is refused, or that of the first model which is not this program's
abbrev pub SaysReference : List ℕ → Judgement → List ℕ → Type 0
SaysReference input judged.Good text =
    (scenario : Scenario) × (rows : List (List ℤ)) × (fault : Option RefFault)
    × ReadsAsScenario input scenario × IsReference scenario rows fault × (text ≡ reference_text scenario.steps rows fault)
SaysReference input judged.Refused text = IsNoScenario input text ⊎ LacksModel all_ends input text
SaysReference input judged.Failed text = ⊥
SaysReference input judged.Differs text = ⊥
