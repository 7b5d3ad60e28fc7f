use Rattle.std.proofs.Common.{◌≡◌, ap, List, length, arith, get_or}
use Rattle.dcp_types.specs.declared.data_types.DataType.{DataType}
use Rattle.master_core.specs.declared.records.Talk.{Talk}
use Rattle.master_core.proofs.Putting.{width_more}
use Rattle.master_core.proofs.surveys.width_of.Goals as goal

pub loop-talk-preserved : goal.loop-talk-preserved
loop-talk-preserved c = record {
  width = let is : length c.as_slice.result.now ≡ length c.talk-item.result.slave.types = ap (λ (l : List DataType). length l) c.as_slice.ensures in
      let same : length c.talk-item.result.slave.types ≡ length (get_or c.args.talks.now c.loop-talk.talk-index c.talk-item.result).slave.types = ap (λ (t : Talk). length t.slave.types) c.talk-item.is in
      omega (arith, c.loop-talk.invariant.width, width_more c.args.talks.now c.loop-talk.talk-index c.talk-item.result (omega arith), is, same);
  few = let is : length c.as_slice.result.now ≡ length c.talk-item.result.slave.types = ap (λ (l : List DataType). length l) c.as_slice.ensures in omega (arith, c.loop-talk.invariant.few, is, c.talk-item.result.few);
}
