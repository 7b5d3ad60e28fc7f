use Rattle.std.proofs.Common.{refl, ◌∙◌, ap, arith, map, length, List, None}
use Rattle.std.proofs.lemmas.List.{with_items_is, length-map}
use Rattle.slave_desc.specs.declared.ports.Port.{Port}
use Rattle.slave_device.specs.declared.tables.InputRow.{InputRow}
use Rattle.slave_device.specs.Wires.Receiving.{input_restarted}
use Rattle.slave_device.proofs.Wires.Wired.{sized_restarted}
use Rattle.slave_device.proofs.Wires.Taking.{begins_anew, restarted_more, all_restarted}
use Rattle.slave_device.proofs.tables.Inputs.restart.Goals as goal

pub loop-row-preserved : goal.loop-row-preserved
loop-row-preserved c =
    restarted_more c.args.steps c.deref_mut-row-items.result.now c.loop-row.row-items c.loop-row.row-index (record { count = 0; size = 0; source = None; interval = 0; base = 0; kept = None }) c.base_after-row.result
    c.loop-row-test.true (omega arith) c.loop-row.invariant c.base_after-row.ensures

pub invariant_of-self-clause-sized : goal.invariant_of-self-clause-sized
invariant_of-self-clause-sized c =
    sized_restarted c.args.steps c.args.self.now.rows.items _ c.args.self.now.sized
    (with_items_is c.args.self.now.rows c.loop-row.row-items (omega (arith, c.deref_mut-row-items.ensures.len))
    ∙ all_restarted c.args.steps c.deref_mut-row-items.result.now c.loop-row.row-items c.loop-row.row-index c.loop-row-test.false c.loop-row.invariant
    ∙ ap (map (input_restarted c.args.steps)) c.deref_mut-row-items.ensures.value)

pub invariant_of-self-clause-even : goal.invariant_of-self-clause-even
invariant_of-self-clause-even c =
    ap (λ (l : List InputRow). length l)
    (with_items_is c.args.self.now.rows c.loop-row.row-items (omega (arith, c.deref_mut-row-items.ensures.len))
    ∙ all_restarted c.args.steps c.deref_mut-row-items.result.now c.loop-row.row-items c.loop-row.row-index c.loop-row-test.false c.loop-row.invariant
    ∙ ap (map (input_restarted c.args.steps)) c.deref_mut-row-items.ensures.value)
    ∙ length-map c.args.self.now.rows.items (input_restarted c.args.steps) ∙ c.args.self.now.even

pub returns : goal.returns
returns c = λ d w h.
    let n = ap (λ (l : List Port). length l) h.listed in
    begins_anew d w c.args.self.now _ c.args.steps h refl refl
    (with_items_is c.args.self.now.rows c.loop-row.row-items (omega (arith, c.deref_mut-row-items.ensures.len))
    ∙ all_restarted c.args.steps c.deref_mut-row-items.result.now c.loop-row.row-items c.loop-row.row-index c.loop-row-test.false c.loop-row.invariant
    ∙ ap (map (input_restarted c.args.steps)) c.deref_mut-row-items.ensures.value)
    refl refl (omega (arith, n))
