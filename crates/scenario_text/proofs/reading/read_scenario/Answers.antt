-- What was read is what the machine gives: a text that reads, in range, or the first line that is refused.
use Rattle.std.proofs.Common.{ℕ, List, Result, Ok, Err, IfOk}
use Rattle.std.specs.Str.Lines.{lines}
use Rattle.text_lines.specs.Outcomes.{GivesText}
use Rattle.text_lines.specs.Runs.{run_of}
use Rattle.text_lines.specs.declared.reasons.TextRefused.{TextRefused}
use Rattle.scenario_text.specs.Machine.{reader_at_start, take_scenario_line, scenario_finished}
use Rattle.scenario.specs.Sound.{IsScenario}
use Rattle.scenario.specs.declared.scenarios.Scenario.{Scenario}
use Rattle.scenario_text.proofs.Kept.{text_gives}
use Rattle.scenario_text.proofs.Judged.{answered_fault}
use Rattle.scenario_text.proofs.Answered.{answered_ok, answered_only}
use Rattle.scenario_text.proofs.reading.read_scenario.Goals as goal

in_range : (text : List ℕ) (r : Result Scenario TextRefused) → GivesText r (run_of take_scenario_line scenario_finished 1 reader_at_start (lines text)) → IfOk r (λ s. IsScenario s)
in_range text (Ok s) e = text_gives (lines text) s e
in_range text (Err f) e = tt

pub returns : goal.returns
returns c = record {
  ok = answered_ok c.args.text.now c.read.result c.read.ensures;
  range = in_range c.args.text.now c.read.result c.read.ensures;
  only = answered_only c.args.text.now c.read.result c.read.ensures;
  fault = answered_fault c.args.text.now c.read.result c.read.ensures;
}
