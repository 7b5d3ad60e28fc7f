use Rattle.std.proofs.Common.{◌∙◌, sym}
use Rattle.net_world.proofs.Boxed.{first_found, none_more}
use Rattle.net_world.proofs.mailboxes.find.Goals as goal

pub returns-then-eq-clause-found : goal.returns-then-eq-clause-found
returns-then-eq-clause-found c =
    first_found c.args.at c.args.boxes.now c.loop-i.i c.index-boxes-i.result c.loop-i-test.true c.loop-i.invariant (rw (← c.index-boxes-i.is) (sym c.eq.ensures ∙ c.if-eq.true))

pub loop-i-preserved : goal.loop-i-preserved
loop-i-preserved c =
    none_more c.args.at c.args.boxes.now c.loop-i.i c.index-boxes-i.result c.loop-i-test.true c.loop-i.invariant (rw (← c.index-boxes-i.is) (sym c.eq.ensures ∙ c.if-eq.false))
