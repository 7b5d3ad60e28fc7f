use Rattle.std.proofs.Common.{List, ℕ, refl, sym, subst, ◌∙◌, inl, inr}
use Rattle.commands.specs.declared.answers.Unsaid.{Unsaid}
use Rattle.commands.specs.declared.command_words.Command.{Command}
use Rattle.commands.specs.declared.statuses.Status.{Status}
use Rattle.commands.specs.Answers.{GivesAnswer}
use Rattle.commands.specs.Changes.{NetChange}
use Rattle.commands.specs.CommandWords.{Names}
use Rattle.commands.specs.Given.{TakesFor}
use Rattle.commands.specs.Outcomes.{Outcome}
use Rattle.commands.specs.Says.{Stops}
use Rattle.commands.specs.SaysRun.{NetTold}
use Rattle.commands.proofs.Naming.{unless_run}
use Rattle.commands.proofs.Outcomes.{change, outcome_free, outcome_is}
use Rattle.commands.proofs.top_calls.run_words.Goals as goal

pub returns-in-Ok-clause-outcome : goal.returns-in-Ok-clause-outcome
returns-in-Ok-clause-outcome g c =
    let source = change (g.S.Source.left c.args.source.now) (g.S.Source.left c.input_for.new.source) (g.S.Source.faults c.args.source.now) (g.S.Source.faults c.input_for.new.source) in
    let out = change (g.K.Sink.written c.args.out.now) (g.K.Sink.written c.deliver.new.out) (g.K.Sink.faults c.args.out.now) (g.K.Sink.faults c.deliver.new.out) in
    let trace = change (g.R.Sink.written c.args.trace.now) (g.R.Sink.written c.deliver.new.trace) (g.R.Sink.faults c.args.trace.now) (g.R.Sink.faults c.deliver.new.trace) in
    let told : NetTold = record { calls = g.N.Net.calls c.say.new.net; opening = g.N.Net.opening c.say.new.net } in
    let net : NetChange = record { told = told; before = g.N.Net.count c.args.net.now; now = g.N.Net.count c.say.new.net } in
    let command = c.in-Command.command in
    let input = c.as_slice-in-Ok.result.now in
    let Given : List ℕ → Type 0 = λ bytes. GivesAnswer command told bytes c.in-Ok.answer in
    let Taken : List ℕ → Type 0 = λ bytes. TakesFor source.was source.is command bytes in
    let Ended : Status → Type 0 = λ status. Outcome c.args.words.now source out trace net status in
    let done = c.deliver.ensures.delivered command told (subst Given (c.as_slice.ensures ∙ sym c.as_slice-in-Ok.ensures) c.in-Ok.ensures.says) in
    subst Ended (sym done.6)
    (outcome_is c.args.words.now source out trace net done.0 done.1
    (command, input, done.2, done.3, c.in-Command.ensures, subst Taken (sym c.as_slice-in-Ok.ensures) c.in-Bytes.ensures.gives.0, c.in-Bytes.ensures.gives.2, done.4, done.5, c.in-Ok.ensures.still))

pub returns-in-Ok-clause-uncalled : goal.returns-in-Ok-clause-uncalled
returns-in-Ok-clause-uncalled g c = λ without. c.in-Ok.ensures.refused (c.deliver.ensures.refused without)

pub returns-in-Ok-clause-untouched : goal.returns-in-Ok-clause-untouched
returns-in-Ok-clause-untouched g c =
    let Named : Command → Type 0 = λ command. Names c.args.words.now command in
    elim c.in-Ok.ensures.alone [ inl run ↦ inl (subst Named run c.in-Command.ensures) | inr alone ↦ inr (c.deliver.ensures.untouched alone) ]

pub returns-in-Ok-clause-idle : goal.returns-in-Ok-clause-idle
returns-in-Ok-clause-idle g c = unless_run c.args.words.now c.in-Command.command c.in-Command.ensures c.say.ensures.uncalled

pub returns-in-Ok-clause-complete : goal.returns-in-Ok-clause-complete
returns-in-Ok-clause-complete g c =
    let source = change (g.S.Source.left c.args.source.now) (g.S.Source.left c.input_for.new.source) (g.S.Source.faults c.args.source.now) (g.S.Source.faults c.input_for.new.source) in
    let out = change (g.K.Sink.written c.args.out.now) (g.K.Sink.written c.deliver.new.out) (g.K.Sink.faults c.args.out.now) (g.K.Sink.faults c.deliver.new.out) in
    let trace = change (g.R.Sink.written c.args.trace.now) (g.R.Sink.written c.deliver.new.trace) (g.R.Sink.faults c.args.trace.now) (g.R.Sink.faults c.deliver.new.trace) in
    let told : NetTold = record { calls = g.N.Net.calls c.say.new.net; opening = g.N.Net.opening c.say.new.net } in
    let net : NetChange = record { told = told; before = g.N.Net.count c.args.net.now; now = g.N.Net.count c.say.new.net } in
    outcome_free c.args.words.now source out trace net c.deliver.result (returns-in-Ok-clause-outcome g c)

pub returns-in-Err-NetFault-clause-outcome : goal.returns-in-Err-NetFault-clause-outcome
returns-in-Err-NetFault-clause-outcome g c =
    let command = c.in-Command.command in
    let input = c.as_slice.result.now in
    let before = g.N.Net.count c.args.net.now in
    let now = g.N.Net.count c.say.new.net in
    let Stopped : Unsaid → Type 0 = λ reason. Stops command input before now reason in
    let Taken : List ℕ → Type 0 = λ bytes. TakesFor (g.S.Source.left c.args.source.now) (g.S.Source.left c.input_for.new.source) command bytes in
    (command, input, c.in-Command.ensures, subst Taken (sym c.as_slice.ensures) c.in-Bytes.ensures.gives.0, c.in-Bytes.ensures.gives.2, subst Stopped c.in-Err-NetFault.field-0-is c.in-Err-NetFault.ensures.stopped, ((refl, refl), (refl, refl)))

pub returns-in-Err-NetFault-clause-idle : goal.returns-in-Err-NetFault-clause-idle
returns-in-Err-NetFault-clause-idle g c = unless_run c.args.words.now c.in-Command.command c.in-Command.ensures c.say.ensures.uncalled

pub returns-clause-idle : goal.returns-clause-idle
returns-clause-idle g c = unless_run c.args.words.now c.in-Command.command c.in-Command.ensures c.say.ensures.uncalled

pub returns-in-Ok-clause-unread : goal.returns-in-Ok-clause-unread
returns-in-Ok-clause-unread g c = λ usage. absurd (c.deliver.ensures.used usage)
