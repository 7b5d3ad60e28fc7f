-- Which scenario a text is.
use Rattle.std.specs.Prelude.{ℕ, List}
use Rattle.std.specs.Str.Lines.{lines}
use Rattle.scenario_text.specs.Grammar.{AreOf}
use Rattle.scenario.specs.declared.scenarios.Scenario.{Scenario}

-- the lines of the text are those of this scenario
abbrev pub ReadsAsScenario : List ℕ → Scenario → Type 0
ReadsAsScenario text s = AreOf (lines text) s
