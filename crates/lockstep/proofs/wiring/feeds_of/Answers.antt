use Rattle.std.proofs.Common.{List, ap, ◌∙◌}
use Rattle.scenario.specs.declared.scenarios.Wire.{Wire}
use Rattle.scenario.specs.Wiring.{wire_into}
use Rattle.lockstep.proofs.Reading.{wire_for, feeds_more}
use Rattle.lockstep.proofs.wiring.feeds_of.Goals as goal

pub feed_of-requires-clause-wire : goal.feed_of-requires-clause-wire
feed_of-requires-clause-wire c =
    wire_for c.args.scenario.now c.args.slave c.loop-input.input c.wire_into.result c.requires (c.wire_into.ensures ∙ ap (λ (x : List Wire). wire_into x c.args.slave c.loop-input.input) c.as_slice-wires.ensures)

pub loop-input-preserved : goal.loop-input-preserved
loop-input-preserved c =
    feeds_more c.args.scenario.now c.args.slave c.loop-input.input c.wire_into.result c.feed_of.result c.loop-input.feeds.items c.push.new.self.items c.loop-input.invariant
    (c.wire_into.ensures ∙ ap (λ (x : List Wire). wire_into x c.args.slave c.loop-input.input) c.as_slice-wires.ensures)
    c.feed_of.ensures
    c.in_ok-push.ensures.items
