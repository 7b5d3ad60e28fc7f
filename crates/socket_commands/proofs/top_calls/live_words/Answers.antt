use Rattle.std.proofs.Common.{ℕ, List, refl, sym, subst, ◌∙◌, inl, inr}
use Rattle.commands.proofs.Outcomes.{change}
use Rattle.commands.specs.declared.statuses.Status.{Status}
use Rattle.commands.specs.Inputs.{TakesInput}
use Rattle.socket_commands.specs.declared.hosting.LiveFault.{LiveFault}
use Rattle.socket_commands.specs.Answers.{GivesLive}
use Rattle.socket_commands.specs.Changes.{LiveChange}
use Rattle.socket_commands.specs.Outcomes.{Outcome}
use Rattle.socket_commands.specs.Parts.{IsLive}
use Rattle.socket_commands.specs.Stops.{StopsLive}
use Rattle.socket_commands.proofs.Outcomes.{outcome_free, outcome_is}
use Rattle.socket_commands.proofs.top_calls.live_words.Goals as goal

pub returns-in-Ok-say_live-clause-outcome : goal.returns-in-Ok-say_live-clause-outcome
returns-in-Ok-say_live-clause-outcome g c =
    let words = c.args.words.now in
    let source = change (g.S.Source.left c.args.source.now) (g.S.Source.left c.read_input.new.source) (g.S.Source.faults c.args.source.now) (g.S.Source.faults c.read_input.new.source) in
    let out = change (g.K.Sink.written c.args.out.now) (g.K.Sink.written c.deliver.new.out) (g.K.Sink.faults c.args.out.now) (g.K.Sink.faults c.deliver.new.out) in
    let trace = change (g.R.Sink.written c.args.trace.now) (g.R.Sink.written c.deliver.new.trace) (g.R.Sink.faults c.args.trace.now) (g.R.Sink.faults c.deliver.new.trace) in
    let net : LiveChange =
    record { told = record { calls = g.N.Net.calls c.say_live.new.net; opening = g.N.Net.opening c.say_live.new.net }; before = g.N.Net.count c.args.net.now; now = g.N.Net.count c.say_live.new.net; waits_before = g.P.Ready.waits c.args.ready.now; waits_now = g.P.Ready.waits c.say_live.new.ready; failed_before = g.P.Ready.count c.args.ready.now; failed_now = g.P.Ready.count c.say_live.new.ready } in
    let live : IsLive words = rw c.as_slice.ensures at (c.is_live.ensures.yes c.if-not-is_live.false) in
    let input = c.as_slice-in-Ok-say_live.result.now in
    let Given : List ℕ → Type 0 = λ bytes. GivesLive words net bytes c.in-Ok-say_live.answer in
    let Said : List (List ℕ) → Type 0 = λ said. GivesLive said net c.as_slice-2.result.now c.in-Ok-say_live.answer in
    let Taken : List ℕ → Type 0 = λ bytes. TakesInput 1048576 source.was source.is bytes in
    let Ended : Status → Type 0 = λ status. Outcome words source out trace net status in
    let done = c.deliver.ensures.delivered words net (subst Given (c.as_slice-2.ensures ∙ sym c.as_slice-in-Ok-say_live.ensures) (subst Said c.in-Ok.ensures c.in-Ok-say_live.ensures.says)) in
    subst Ended (sym done.6)
    (outcome_is words source out trace net done.0 done.1 (input, done.2, done.3, live, subst Taken (sym c.as_slice-in-Ok-say_live.ensures) c.in-Bytes.ensures.0, c.in-Bytes.ensures.2, done.4, done.5, c.in-Ok-say_live.ensures.still))

pub returns-in-Ok-say_live-clause-complete : goal.returns-in-Ok-say_live-clause-complete
returns-in-Ok-say_live-clause-complete g c =
    let words = c.args.words.now in
    let source = change (g.S.Source.left c.args.source.now) (g.S.Source.left c.read_input.new.source) (g.S.Source.faults c.args.source.now) (g.S.Source.faults c.read_input.new.source) in
    let out = change (g.K.Sink.written c.args.out.now) (g.K.Sink.written c.deliver.new.out) (g.K.Sink.faults c.args.out.now) (g.K.Sink.faults c.deliver.new.out) in
    let trace = change (g.R.Sink.written c.args.trace.now) (g.R.Sink.written c.deliver.new.trace) (g.R.Sink.faults c.args.trace.now) (g.R.Sink.faults c.deliver.new.trace) in
    let net : LiveChange =
    record { told = record { calls = g.N.Net.calls c.say_live.new.net; opening = g.N.Net.opening c.say_live.new.net }; before = g.N.Net.count c.args.net.now; now = g.N.Net.count c.say_live.new.net; waits_before = g.P.Ready.waits c.args.ready.now; waits_now = g.P.Ready.waits c.say_live.new.ready; failed_before = g.P.Ready.count c.args.ready.now; failed_now = g.P.Ready.count c.say_live.new.ready } in
    outcome_free words source out trace net c.deliver.result (returns-in-Ok-say_live-clause-outcome g c)
