use Rattle.std.proofs.Common.{[]}
use Rattle.commands.proofs.Outcomes.{text_alone}
use Rattle.commands.specs.Said.{text_of}
use Rattle.socket_commands.proofs.Outcomes.{ran_says, written}
use Rattle.socket_commands.proofs.answers.deliver.Goals as goal

pub returns-in-Refused-clause-delivered : goal.returns-in-Refused-clause-delivered
returns-in-Refused-clause-delivered g c = λ words net gives.
    let given = rw c.in-Refused.is at gives in
    let said = c.in-Refused.said in
    (said.judgement, c.write_text.result, text_of said.text, [], given.1, text_alone _ _ _ _ _ _ _ _ c.write_text.ensures, c.status.ensures)

pub returns-in-Ran-clause-delivered : goal.returns-in-Ran-clause-delivered
returns-in-Ran-clause-delivered g c = λ words net gives.
    let given = rw c.in-Ran.is at gives in
    ran_says _ _ _ _ _ _ _ _ words net c.args.input.now c.in-Ran.run' c.deliver_run.result given c.deliver_run.ensures

pub returns-in-Ran-clause-written : goal.returns-in-Ran-clause-written
returns-in-Ran-clause-written g c =
    let writable = rw c.in-Ran.is at c.requires in
    (written _ _ _ _ _ _ _ _ c.args.input.now c.in-Ran.run' c.deliver_run.result writable.ended c.deliver_run.ensures).0

pub returns-in-Ran-clause-used : goal.returns-in-Ran-clause-used
returns-in-Ran-clause-used g c =
    let writable = rw c.in-Ran.is at c.requires in
    (written _ _ _ _ _ _ _ _ c.args.input.now c.in-Ran.run' c.deliver_run.result writable.ended c.deliver_run.ensures).1

pub returns-in-Ran-clause-refused : goal.returns-in-Ran-clause-refused
returns-in-Ran-clause-refused g c = λ without.
    let writable = rw c.in-Ran.is at c.requires in
    absurd ((written _ _ _ _ _ _ _ _ c.args.input.now c.in-Ran.run' c.deliver_run.result writable.ended c.deliver_run.ensures).2 without)
