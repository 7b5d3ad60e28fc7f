use Rattle.std.proofs.Common.{◌≡◌, ◌+◌, ◌≤◌, ◌++◌, take, length}
use Rattle.std.specs.Prelude.{vec_capacity}
use Rattle.std.specs.List.{flat_map}
use Rattle.master_core.specs.Talking.{values_kept, outputs_width}
use Rattle.master_core.proofs.surveys.put_row.Given as goal

abbrev pub invariant-loop-talk : goal.invariant-loop-talk
invariant-loop-talk l = record {
  items : length l.fn.values.items + outputs_width (take l.talk-index l.talks) ≤ vec_capacity l.fn.values → l.values.items ≡ l.fn.values.items ++ flat_map values_kept (take l.talk-index l.talks);
  room : vec_capacity l.values ≡ vec_capacity l.fn.values;
}
