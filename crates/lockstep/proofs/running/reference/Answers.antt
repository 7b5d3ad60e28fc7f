use Rattle.std.proofs.Common.{List, ap, arith}
use Rattle.slave_desc.specs.declared.descriptions.SlaveDesc.{SlaveDesc}
use Rattle.scenario.specs.Totals.{total_outputs}
use Rattle.lockstep.proofs.Growing.{some_outputs}
use Rattle.lockstep.proofs.running.reference.Goals as goal

pub with_room-requires : goal.with_room-requires
with_room-requires c =
    omega (arith, some_outputs c.args.scenario.now.slaves c.requires.scenario.slaves c.requires.scenario.few_slaves.0, c.total_outputs-width.ensures, ap (λ (x : List SlaveDesc). total_outputs x) c.as_slice.ensures.items)
