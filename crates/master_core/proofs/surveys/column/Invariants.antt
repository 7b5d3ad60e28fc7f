use Rattle.std.proofs.Common.{◌≡◌, ◌+◌, ◌*◌, ◌≤◌, ℕ, map, drop}
use Rattle.std.specs.Prelude.{option_map}
use Rattle.master_core.specs.Columns.{column_in}
use Rattle.master_core.specs.Talking.{slave_talked_to}
use Rattle.master_core.proofs.surveys.column.Given as goal

abbrev pub invariant-loop-talk : goal.invariant-loop-talk
invariant-loop-talk l = record {
  column : column_in (map slave_talked_to l.talks) l.slave l.port ≡ option_map (λ (n : ℕ). l.first + n) (column_in (map slave_talked_to (drop l.talk-index l.talks)) l.slave l.port);
  few : l.first ≤ 8 * l.talk-index;
}
