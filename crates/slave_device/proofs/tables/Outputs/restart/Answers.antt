use Rattle.std.proofs.Common.{refl, ◌∙◌, ap, arith, map}
use Rattle.std.proofs.lemmas.List.{with_items_is}
use Rattle.slave_device.specs.Wires.Sending.{row_restarted}
use Rattle.slave_device.proofs.Wires.Sending.{restarted, restarted_more, all_restarted}
use Rattle.slave_device.proofs.tables.Outputs.restart.Goals as goal

pub loop-row-preserved : goal.loop-row-preserved
loop-row-preserved c =
    restarted_more c.args.steps c.deref_mut-row-items.result.now c.loop-row.row-items c.loop-row.row-index c.row-item.result c.base_after-row.result
    c.loop-row-test.true (omega arith) c.loop-row.invariant c.base_after-row.ensures

pub returns : goal.returns
returns c = λ d changes h.
    restarted d changes c.args.self.now _ c.args.steps h refl refl
    (with_items_is c.args.self.now.rows c.loop-row.row-items (omega (arith, c.deref_mut-row-items.ensures.len))
    ∙ all_restarted c.args.steps c.deref_mut-row-items.result.now c.loop-row.row-items c.loop-row.row-index c.loop-row-test.false c.loop-row.invariant
    ∙ ap (map (row_restarted c.args.steps)) c.deref_mut-row-items.ensures.value)
