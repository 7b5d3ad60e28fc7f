use Rattle.std.proofs.Common.{◌≡◌, ◌++◌, ◌∙◌, List, ap, length, arith, get_or}
use Rattle.std.specs.Prelude.{vec_capacity}
use Rattle.dcp_types.specs.declared.data_types.DataType.{DataType}
use Rattle.master_spec.specs.Course.{values_in}
use Rattle.master_core.specs.declared.records.Talk.{Talk}
use Rattle.master_core.proofs.Putting.{row_step}
use Rattle.master_core.proofs.surveys.put_row.Goals as goal

pub loop-talk-preserved : goal.loop-talk-preserved
loop-talk-preserved c = record {
  items = row_step c.args.talks.now _ c.talk-item.result c.args.values.now.items c.loop-talk.values.items c.put_values.new.values.items _ (omega arith) c.loop-talk.invariant.items (λ room.
      let types : c.as_slice.result.now ≡ (get_or c.args.talks.now c.loop-talk.talk-index c.talk-item.result).slave.types = c.as_slice.ensures ∙ ap (λ (t : Talk). t.slave.types) c.talk-item.is in
      let n : length c.as_slice.result.now ≡ length (get_or c.args.talks.now c.loop-talk.talk-index c.talk-item.result).slave.types = ap (λ (l : List DataType). length l) types in
      let r : vec_capacity c.loop-talk.values ≡ vec_capacity c.args.values.now = c.loop-talk.invariant.room in
      c.put_values.ensures.items (omega (arith, room, n, r))
      ∙ ap (λ (l : List DataType). c.loop-talk.values.items ++ values_in l c.talk-item.result.outputs) types
      ∙ ap (λ (t : Talk). c.loop-talk.values.items ++ values_in (get_or c.args.talks.now c.loop-talk.talk-index c.talk-item.result).slave.types t.outputs) c.talk-item.is);
  room = c.put_values.ensures.room ∙ c.loop-talk.invariant.room;
}
