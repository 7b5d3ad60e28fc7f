use Rattle.std.proofs.Common.{◌≡◌, ◌≤◌, ◌+◌, map, drop}
use Rattle.text_lines.specs.Readings.{line_number}
use Rattle.commands.specs.Externals.{model_place}
use Rattle.commands.proofs.externals.model_line.Given as goal

abbrev pub invariant-loop-line : goal.invariant-loop-line
invariant-loop-line l = record {
  number : l.number ≡ line_number (l.line-index + 1);
  some : 1 ≤ l.left;
  rest : model_place l.left (l.line-index + 1) (map (λ w. w.now) (drop l.line-index l.line-items)) ≡ model_place l.fn.nth 1 (map (λ w. w.now) l.line-items);
}
