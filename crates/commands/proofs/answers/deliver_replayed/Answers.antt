use Rattle.std.proofs.Common.{ap, subst, ◌∙◌}
use Rattle.std.specs.Prelude.{reverse}
use Rattle.dcp_ends.specs.Logs.{events_at}
use Rattle.dcp_io.specs.Outputs.{Delivers}
use Rattle.master_spec.specs.declared.setups.Setup.{Setup}
use Rattle.run_text.specs.Runs.{text_after}
use Rattle.commands.specs.declared.statuses.Judgement.{Judgement}
use Rattle.commands.specs.Statuses.{status_after}
use Rattle.commands.proofs.answers.deliver_replayed.Goals as goal

pub returns-clause-follows : goal.returns-clause-follows
returns-clause-follows g c =
    let delivery = c.write_report-delivery.result in
    (delivery, c.status.ensures ∙ ap (λ (j : Judgement). status_after j delivery) c.judgement_of.ensures)

pub returns-clause-delivered : goal.returns-clause-delivered
returns-clause-delivered g c = λ scenario entries replayed.
    let events = events_at scenario.master entries in
    let delivery = c.write_report-delivery.result in
    let Made : Setup → Type 0 = λ setup. Delivers (g.K.Sink.written c.args.out.now) (g.K.Sink.written c.write_report-delivery.new.out) (g.K.Sink.faults c.args.out.now) (g.K.Sink.faults c.write_report-delivery.new.out)
    (text_after setup (reverse events) c.args.replayed.now.report) delivery in
    record {
      delivery = delivery;
      delivered = subst Made replayed.made (c.write_report-delivery.ensures events replayed.stands);
      status_is = c.status.ensures ∙ ap (λ (j : Judgement). status_after j delivery) c.judgement_of.ensures;
    }
