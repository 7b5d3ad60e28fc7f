use Rattle.std.proofs.Common.{◌-◌, arith, false, ◌∙◌, sym}
use Rattle.dcp_net.proofs.Resting.{last_decides, last_is_other}
use Rattle.dcp_net.proofs.scripts.rests.Goals as goal

pub returns-in-Some : goal.returns-in-Some
returns-in-Some c =
    last_decides c.args.at false c.args.calls.now c.loop-i.i (c.loop-i.i - 1) c.index-calls-i.result (omega arith) (omega arith) c.index-calls-i.is c.in-Some.gave (sym c.in-Some.is ∙ c.took.ensures)
    ∙ sym c.loop-i.invariant.same

pub loop-i-preserved : goal.loop-i-preserved
loop-i-preserved c =
    record {
      within = omega arith;
      same = c.loop-i.invariant.same
          ∙ last_is_other c.args.at false c.args.calls.now c.loop-i.i (c.loop-i.i - 1) c.index-calls-i.result (omega arith) (omega arith) c.index-calls-i.is (sym c.in_default.is ∙ c.took.ensures);
    }
