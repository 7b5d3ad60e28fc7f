use Rattle.std.proofs.Common.{arith, rules, ap, ◌∙◌, get_or, None}
use Rattle.std.specs.Prelude.{ℤ, pos}
use Rattle.slave_device.specs.Wires.Receiving.{input_after}
use Rattle.std.specs.Int.{w128}
use Rattle.std.proofs.lemmas.Int.{to_z-of_z}
use Rattle.slave_device.proofs.Wires.Wired.{taken_more}
use Rattle.slave_device.proofs.segments.take_values.Goals as goal

pub loop-i-preserved : goal.loop-i-preserved
loop-i-preserved c =
    taken_more _ _ c.loop-i.values _ _ c.loop-i.i _ c.value_after.result _ _ c.loop-i.invariant (omega arith) (omega arith) (to_z-of_z w128 c.value_after.result (search rules)) c.value_after.ensures.input
    (c.value_after.ensures.value ∙ ap (λ (z : ℤ). input_after (get_or c.args.segments.now c.loop-i.i None) c.args.id c.args.payload.now z) (to_z-of_z w128 (get_or c.loop-i.values c.loop-i.i (pos 0)) (search rules)))
