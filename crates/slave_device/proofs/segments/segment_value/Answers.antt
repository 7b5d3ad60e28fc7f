use Rattle.std.proofs.Common.{◌∙◌, ap, ◌≡◌, arith, ◌+◌, ◌-◌, take, drop, rules}
use Rattle.std.specs.Int.{w128}
use Rattle.std.proofs.lemmas.Int.{to_z-of_z}
use Rattle.dcp_types.specs.Values.{width}
use Rattle.slave_device.proofs.Wires.Wired.{value_got}
use Rattle.slave_device.proofs.segments.segment_value.Goals as goal

pub returns-then-end-payload-clause-value : goal.returns-then-end-payload-clause-value
returns-then-end-payload-clause-value c =
    to_z-of_z w128 c.get_value.result (search rules) ∙ value_got c.args.segment c.args.payload.now _ c.get_value.result (omega (arith, c.width.ensures)) c.get_value.ensures.fits c.get_value.ensures.bytes
    (let e : c.args.segment.offset + c.width.result - c.args.segment.offset ≡ width c.args.segment.kind = omega (arith, c.width.ensures) in ap (λ n. take n (drop c.args.segment.offset c.args.payload.now)) e)
