use Rattle.std.proofs.Common.{arith}
use Rattle.lockstep.specs.Lockstep.{IsMoment}
use Rattle.lockstep.proofs.Growing.{row_width, standing_more, halted}
use Rattle.lockstep.proofs.running.run_once.Goals as goal

pub returns-in-Err-clause-halted : goal.returns-in-Err-clause-halted
returns-in-Err-clause-halted c =
    let m : IsMoment c.args.scenario.now c.args.run c.loop-step.step = record { first = c.requires.first; last = c.requires.last; within = omega arith } in
    halted c.args.scenario.now c.args.run c.loop-step.step c.loop-step.rows c.fill.new.rows c.in-Err.halt m c.loop-step.invariant.rows c.fill.ensures.kept c.in-Err.ensures.halted

pub close-requires : goal.close-requires
close-requires c =
    row_width c.args.scenario.now c.args.run c.loop-step.step c.loop-step.rows c.fill.new.rows c.loop-step.invariant.rows.width c.in-Ok-fill.ensures.row c.fill.ensures.kept

pub loop-step-preserved : goal.loop-step-preserved
loop-step-preserved c =
    let m : IsMoment c.args.scenario.now c.args.run c.loop-step.step = record { first = c.requires.first; last = c.requires.last; within = omega arith } in
    standing_more c.args.scenario.now c.args.run c.loop-step.step c.loop-step.rows c.fill.new.rows c.close.new.self c.fill.new.parts.items m c.loop-step.invariant.rows
    c.in-Ok-fill.ensures.row c.in-Ok-fill.ensures.stand c.fill.ensures.kept c.close.ensures
