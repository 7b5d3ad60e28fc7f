use Rattle.std.proofs.Common.{◌≡◌, List, length, None, if◌then◌else◌, sym, ap, subst, ◌∙◌}
use Rattle.std.specs.Prelude.{Option, reverse}
use Rattle.dcp_ends.specs.declared.entries.LogEntry.{LogEntry}
use Rattle.dcp_ends.specs.Logs.{events_at}
use Rattle.dcp_record.specs.Traces.{trace_bytes}
use Rattle.scenario.specs.declared.scenarios.Scenario.{Scenario}
use Rattle.master_spec.specs.declared.reports.Report.{Report}
use Rattle.master_spec.specs.declared.setups.Setup.{Setup}
use Rattle.master_core.specs.declared.records.MasterCore.{MasterCore}
use Rattle.master_core.specs.Standing.{StandsAfter, core_setup}
use Rattle.master_spec.specs.Setup.{setup_from}
use Rattle.host.specs.declared.hosted.Hosted.{Hosted}
use Rattle.run_text.specs.Runs.{DeliversBoth, all_bits, text_after}
use Rattle.commands.specs.declared.statuses.Judgement.{Judgement}
use Rattle.commands.specs.Statuses.{status_after}
use Rattle.commands.specs.SaysRun.{report_after}
use Rattle.commands.proofs.answers.deliver_run.Goals as goal

pub unreachable-requires-in_default-report : goal.unreachable-requires-in_default-report
unreachable-requires-in_default-report g c =
    let host = c.args.host.now in
    let Master : Hosted → Option Report = λ h. if h.master then report_after host else None in
    c.requires.reported (sym (ap Master c.requires.hosted) ∙ sym c.report.ensures ∙ c.in_default-report.is)

pub returns : goal.returns
returns g c =
    let host = c.args.host.now in
    let master = c.end.result.now in
    let events = events_at host.scenario.master host.log in
    let Stands : MasterCore → Type 0 = λ m. StandsAfter m events in
    let Made : MasterCore → Type 0 = λ m. core_setup m ≡ setup_from host.scenario in
    let stands : StandsAfter master events = subst Stands (sym c.end.ensures) c.in-Some.ensures.stands in
    let made : core_setup master ≡ setup_from host.scenario = subst Made (sym c.end.ensures) c.in-Some.ensures.made in
    let report = c.in-Some-report.report in
    let delivery = c.write_run-delivery.result in
    let Master : Hosted → Option Report = λ h. if h.master then report_after host else None in
    let Both : Scenario → Setup → List LogEntry → Type 0 = λ sc setup log. DeliversBoth (g.K.Sink.written c.args.out.now) (g.K.Sink.written c.write_run-delivery.new.out) (g.K.Sink.faults c.args.out.now) (g.K.Sink.faults c.write_run-delivery.new.out)
    (g.R.Sink.written c.args.trace.now) (g.R.Sink.written c.write_run-delivery.new.trace) (g.R.Sink.faults c.args.trace.now) (g.R.Sink.faults c.write_run-delivery.new.trace)
    (text_after setup (reverse events) report) (trace_bytes (all_bits (length sc.slaves)) c.args.input.now log) delivery in
    let Scenarios : Scenario → Type 0 = λ sc. Both sc (core_setup master) c.log.result.now.entries in
    let Logs : List LogEntry → Type 0 = λ log. Both host.scenario (core_setup master) log in
    let Setups : Setup → Type 0 = λ setup. Both host.scenario setup host.log in
    record {
      report = report;
      delivery = delivery;
      sound = c.requires.sound;
      hosted = c.requires.hosted;
      master = c.log.ensures.follows_master c.requires.unfaulted;
      slaves = c.log.ensures.follows c.requires.unfaulted;
      reported = sym (ap Master c.requires.hosted) ∙ sym c.report.ensures ∙ c.in-Some-report.is;
      delivered = subst Setups made (subst Logs c.log.ensures.log (subst Scenarios c.scenario.ensures (c.write_run-delivery.ensures events stands)));
      status_is = c.status.ensures ∙ ap (λ (j : Judgement). status_after j delivery) c.judgement_of.ensures;
    }
