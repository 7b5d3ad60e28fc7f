use Rattle.std.proofs.Common.{◌≡◌, ◌+◌, map, drop}
use Rattle.text_lines.specs.Runs.{run_of}
use Rattle.text_lines.specs.Readings.{line_number}
use Rattle.scenario_text.specs.Machine.{take_scenario_line, scenario_finished, reader_at_start}
use Rattle.scenario_text.proofs.reading.read.Given as goal

abbrev pub invariant-loop-line : goal.invariant-loop-line
invariant-loop-line l = record {
  number : l.number ≡ line_number (l.line-index + 1);
  rest : run_of take_scenario_line scenario_finished (l.line-index + 1) l.reader (map (λ w. w.now) (drop l.line-index l.line-items)) ≡ run_of take_scenario_line scenario_finished 1 reader_at_start (map (λ w. w.now) l.line-items);
}
