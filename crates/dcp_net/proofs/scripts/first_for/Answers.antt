use Rattle.std.proofs.Common.{◌∙◌, sym}
use Rattle.dcp_net.proofs.Firsts.{Passed-found}
use Rattle.dcp_net.proofs.scripts.first_for.Goals as goal

pub returns-then-eq : goal.returns-then-eq
returns-then-eq c = Passed-found _ _ _ c.index-grams-i.result c.loop-i-test.true c.loop-i.invariant (rw (← c.index-grams-i.is) (sym c.eq.ensures ∙ c.if-eq.true))
