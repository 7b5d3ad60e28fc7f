use Rattle.std.proofs.Common.{◌≡◌, ◌+◌, ◌*◌, ◌≤◌, ◌++◌, take, length}
use Rattle.std.specs.Prelude.{vec_capacity}
use Rattle.master_spec.specs.Course.{values_in, payload_size}
use Rattle.master_core.proofs.rows.put_values.Given as goal

abbrev pub invariant-loop-kind : goal.invariant-loop-kind
invariant-loop-kind l = record {
  place : l.at ≡ payload_size (take l.kind-index l.types);
  few : l.at ≤ 8 * l.kind-index;
  items : length l.fn.values.items + l.kind-index ≤ vec_capacity l.fn.values → l.values.items ≡ l.fn.values.items ++ values_in (take l.kind-index l.types) l.payload;
  room : vec_capacity l.values ≡ vec_capacity l.fn.values;
}
