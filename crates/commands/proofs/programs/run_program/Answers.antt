use Rattle.std.proofs.Common.{◌≡◌, ◌⊎◌, inl, inr, ℕ, ap, subst, sym, ◌∙◌}
use Rattle.commands.specs.Changes.{RunChange}
use Rattle.commands.specs.Outcomes.{Outcome}
use Rattle.commands.specs.Programs.{RunsInStep, SoaksInStep, change_of, sure_change}
use Rattle.commands.specs.SaysRun.{NetTold}
use Rattle.commands.proofs.Outcomes.{change, same_change}
use Rattle.commands.proofs.Memory.{is_in_step, is_sure, soaks_in_step, told_in_memory}
use Rattle.commands.proofs.Naming.{one_not_two}
use Rattle.net_world.specs.World.{calls_of, carried_opening}
use Rattle.commands.proofs.programs.run_program.Goals as goal

pub returns-clause-outcome : goal.returns-clause-outcome
returns-clause-outcome g c =
    let remaining = g.R.Read.remaining in
    let contents = g.W.Write.contents in
    let texts = g.E.Write.contents in
    let status = c.run_words-status.result in
    let source = c.run_words-status.new.source in
    let out = c.run_words-status.new.out in
    let trace = c.run_words-status.new.trace in
    let read = same_change (ap (λ r. remaining r) c.new-source.ensures.inner) (ap (λ r. remaining r) (sym c.into_inner.ensures)) c.new-source.ensures.faults source.faults in
    let written = same_change (ap (λ w. contents w) c.new-out.ensures.inner) (ap (λ w. contents w) (sym c.into_inner-2.ensures)) c.new-out.ensures.faults out.faults in
    let traced = same_change (ap (λ w. texts w) c.new-trace.ensures.inner) (ap (λ w. texts w) (sym c.into_inner-3.ensures)) c.new-trace.ensures.faults trace.faults in
    let run = c.run_words-status.new.net in
    let told : NetTold = record { calls = calls_of run.traffic; opening = carried_opening run.traffic } in
    let net = sure_change told in
    let Read : RunChange → Type 0 = λ read. Outcome c.args.words.now read (change (contents c.new-out.result.inner) (contents out.inner) c.new-out.result.faults out.faults)
    (change (texts c.new-trace.result.inner) (texts trace.inner) c.new-trace.result.faults trace.faults) net status in
    let Written : RunChange → Type 0 = λ written. Outcome c.args.words.now (change_of (remaining c.args.reader) (remaining c.into_inner.result) source.faults) written
    (change (texts c.new-trace.result.inner) (texts trace.inner) c.new-trace.result.faults trace.faults) net status in
    let Traced : RunChange → Type 0 = λ traced. Outcome c.args.words.now (change_of (remaining c.args.reader) (remaining c.into_inner.result) source.faults)
    (change_of (contents c.args.writer) (contents c.into_inner-2.result) out.faults) traced net status in (
      status,
      source.faults,
      out.faults,
      trace.faults,
      told,
      c.exit_code.ensures,
      subst Traced traced (subst Written written (subst Read read c.run_words-status.ensures.outcome)),
      told_in_memory run.traffic c.sent-sent.ensures.given c.sent-sent.ensures.recent,
    )

pub returns-clause-in_step : goal.returns-clause-in_step
returns-clause-in_step g c = λ named code.
    let remaining = g.R.Read.remaining in
    let contents = g.W.Write.contents in
    let texts = g.E.Write.contents in
    let ends = returns-clause-outcome g c in
    let Coded : ℕ → Type 0 = λ n. RunsInStep (remaining c.args.reader) (remaining c.into_inner.result) (contents c.args.writer) (contents c.into_inner-2.result)
    (texts c.args.errors) (texts c.into_inner-3.result) n in
    let Ended : ℕ → Type 0 = λ n. (n ≡ 0) ⊎ (n ≡ 3) in
    let read = change_of (remaining c.args.reader) (remaining c.into_inner.result) ends.1 in
    let written = change_of (contents c.args.writer) (contents c.into_inner-2.result) ends.2 in
    let traced = change_of (texts c.args.errors) (texts c.into_inner-3.result) ends.3 in
    subst Coded (sym ends.5) (is_in_step c.args.words.now read written traced ends.4 ends.7 named ends.0 ends.6 (subst Ended ends.5 code))

pub returns-clause-soaks_in_step : goal.returns-clause-soaks_in_step
returns-clause-soaks_in_step g c = λ number named code.
    let remaining = g.R.Read.remaining in
    let contents = g.W.Write.contents in
    let texts = g.E.Write.contents in
    let ends = returns-clause-outcome g c in
    let Coded : ℕ → Type 0 = λ n. SoaksInStep number (remaining c.args.reader) (remaining c.into_inner.result) (contents c.args.writer) (contents c.into_inner-2.result)
    (texts c.args.errors) (texts c.into_inner-3.result) n in
    let Ended : ℕ → Type 0 = λ n. (n ≡ 0) ⊎ (n ≡ 3) in
    let read = change_of (remaining c.args.reader) (remaining c.into_inner.result) ends.1 in
    let written = change_of (contents c.args.writer) (contents c.into_inner-2.result) ends.2 in
    let traced = change_of (texts c.args.errors) (texts c.into_inner-3.result) ends.3 in
    let same : texts c.into_inner-3.result ≡ texts c.args.errors = elim c.run_words-status.ensures.untouched [
      | inl run ↦ absurd (one_not_two c.args.words.now _ _ named.0 run named.1)
      | inr still ↦ ap (λ e. texts e) (c.into_inner-3.ensures ∙ ap (λ t. t.inner) still ∙ c.new-trace.ensures.inner)
    ] in
    subst Coded (sym ends.5) (soaks_in_step c.args.words.now read written traced ends.4 ends.7 number named same ends.0 ends.6 (subst Ended ends.5 code))

pub returns-clause-sure : goal.returns-clause-sure
returns-clause-sure g c = λ code.
    let remaining = g.R.Read.remaining in
    let contents = g.W.Write.contents in
    let texts = g.E.Write.contents in
    let ends = returns-clause-outcome g c in
    let read = change_of (remaining c.args.reader) (remaining c.into_inner.result) ends.1 in
    let written = change_of (contents c.args.writer) (contents c.into_inner-2.result) ends.2 in
    let traced = change_of (texts c.args.errors) (texts c.into_inner-3.result) ends.3 in
    is_sure c.args.words.now read written traced ends.4 ends.0 ends.6 (sym ends.5 ∙ code)
