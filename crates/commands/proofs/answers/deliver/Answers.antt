use Rattle.std.proofs.Common.{subst, sym}
use Rattle.commands.specs.Answers.{Delivered}
use Rattle.commands.specs.declared.command_words.Command.{Command}
use Rattle.commands.proofs.Outcomes.{replay_says, run_says, soak_says, wrote}
use Rattle.commands.proofs.answers.deliver.Goals as goal

pub returns-in-Ran-clause-delivered : goal.returns-in-Ran-clause-delivered
returns-in-Ran-clause-delivered g c = λ command net gives.
    let given = rw c.in-Ran.is at gives in
    let out = c.args.out.now in
    let after = c.deliver_run.new in
    let trace = c.args.trace.now in
    let Said : Command → Type 0 = λ word. Delivered (g.K.Sink.written out) (g.K.Sink.written after.out) (g.K.Sink.faults out) (g.K.Sink.faults after.out)
    (g.R.Sink.written trace) (g.R.Sink.written after.trace) (g.R.Sink.faults trace) (g.R.Sink.faults after.trace) word net c.args.input.now c.deliver_run.result in
    subst Said (sym given.0) (run_says _ _ _ _ _ _ _ _ net c.args.input.now c.in-Ran.host c.deliver_run.result given.1 c.deliver_run.ensures)

pub returns-in-Replayed-clause-delivered : goal.returns-in-Replayed-clause-delivered
returns-in-Replayed-clause-delivered g c = λ command net gives.
    let given = rw c.in-Replayed.is at gives in
    let out = c.args.out.now in
    let after = c.deliver_replayed.new in
    let trace = c.args.trace.now in
    let Said : Command → Type 0 = λ word. Delivered (g.K.Sink.written out) (g.K.Sink.written after.out) (g.K.Sink.faults out) (g.K.Sink.faults after.out)
    (g.R.Sink.written trace) (g.R.Sink.written trace) (g.R.Sink.faults trace) (g.R.Sink.faults trace) word net c.args.input.now c.deliver_replayed.result in
    subst Said (sym given.0) (replay_says _ _ _ _ _ _ net c.args.input.now c.in-Replayed.scenario c.in-Replayed.replayed c.deliver_replayed.result given.1 (c.deliver_replayed.ensures.delivered c.in-Replayed.scenario given.1.entries given.1.stands))

pub returns-in-Replayed-clause-written : goal.returns-in-Replayed-clause-written
returns-in-Replayed-clause-written g c = (wrote c.in-Replayed.replayed.report c.deliver_replayed.result c.deliver_replayed.ensures.follows).0

pub returns-in-Replayed-clause-used : goal.returns-in-Replayed-clause-used
returns-in-Replayed-clause-used g c = (wrote c.in-Replayed.replayed.report c.deliver_replayed.result c.deliver_replayed.ensures.follows).1

pub returns-in-Replayed-clause-refused : goal.returns-in-Replayed-clause-refused
returns-in-Replayed-clause-refused g c = λ without. absurd ((wrote c.in-Replayed.replayed.report c.deliver_replayed.result c.deliver_replayed.ensures.follows).2 without)

pub returns-clause-delivered : goal.returns-clause-delivered
returns-clause-delivered g c = λ command net gives.
    let given = rw c.in-Soaked.is at gives in
    let out = c.args.out.now in
    let after = c.deliver_soak.new in
    let trace = c.args.trace.now in
    let Said : Command → Type 0 = λ word. Delivered (g.K.Sink.written out) (g.K.Sink.written after.out) (g.K.Sink.faults out) (g.K.Sink.faults after.out)
    (g.R.Sink.written trace) (g.R.Sink.written trace) (g.R.Sink.faults trace) (g.R.Sink.faults trace) word net c.args.input.now c.deliver_soak.result in
    subst Said (sym given.0) (soak_says _ _ _ _ _ _ net c.args.input.now c.in-Soaked.number c.in-Soaked.host c.deliver_soak.result given.1 c.deliver_soak.ensures)
