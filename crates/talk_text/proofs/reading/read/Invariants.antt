use Rattle.std.proofs.Common.{◌≡◌, ◌+◌, map, drop}
use Rattle.text_lines.specs.Runs.{run_of}
use Rattle.text_lines.specs.Readings.{line_number}
use Rattle.talk_text.specs.Machine.{take_talk_line, talk_finished, stage_at_start}
use Rattle.talk_text.proofs.reading.read.Given as goal

abbrev pub invariant-loop-line : goal.invariant-loop-line
invariant-loop-line l = record {
  number : l.number ≡ line_number (l.line-index + 1);
  rest : run_of take_talk_line talk_finished (l.line-index + 1) l.stage (map (λ w. w.now) (drop l.line-index l.line-items)) ≡ run_of take_talk_line talk_finished 1 stage_at_start (map (λ w. w.now) l.line-items);
}
