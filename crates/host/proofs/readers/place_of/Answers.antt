use Rattle.std.proofs.Common.{◌∙◌, sym}
use Rattle.host.proofs.Places.{placed}
use Rattle.host.proofs.readers.place_of.Goals as goal

pub returns-then-has : goal.returns-then-has
returns-then-has c =
    rw c.before-then-has.ensures (placed c.args.scenario.now.slaves c.args.hosted c.args.slave c.in-Some._desc.now (rw (c.in-Some.is, c.as_slice.ensures.items) at c.slave_at.ensures) (sym c.has.ensures ∙ c.if-has.true))
