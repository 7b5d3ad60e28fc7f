use Rattle.std.proofs.Common.{◌≡◌, List, ℕ, ap, length, subst, ◌∙◌}
use Rattle.dcp_ends.specs.declared.entries.LogEntry.{LogEntry}
use Rattle.dcp_record.specs.Traces.{trace_bytes}
use Rattle.run_text.specs.Runs.{DeliversBoth}
use Rattle.scenario.specs.declared.scenarios.Scenario.{Scenario}
use Rattle.slave_desc.specs.declared.descriptions.SlaveDesc.{SlaveDesc}
use Rattle.socket_commands.specs.Answers.{ended_text}
use Rattle.socket_commands.specs.Parts.{bits_in}
use Rattle.socket_commands.proofs.answers.deliver_run.Goals as goal

pub returns : goal.returns
returns g c =
    let run = c.args.run.now in
    let delivery = c.write_both-delivery.result in
    let Both : List ℕ → Type 0 = λ traced. DeliversBoth (g.K.Sink.written c.args.out.now) (g.K.Sink.written c.write_both-delivery.new.out) (g.K.Sink.faults c.args.out.now) (g.K.Sink.faults c.write_both-delivery.new.out)
    (g.R.Sink.written c.args.trace.now) (g.R.Sink.written c.write_both-delivery.new.trace) (g.R.Sink.faults c.args.trace.now) (g.R.Sink.faults c.write_both-delivery.new.trace)
    (ended_text run.host run.ending) traced delivery in
    let slaves = c.as_slice-slaves.ensures.items ∙ ap (λ (s : Scenario). s.slaves) c.scenario.ensures in
    let traced = ap (λ (l : List SlaveDesc). trace_bytes (bits_in run.part (length l)) c.args.input.now c.log.result.now.entries) slaves
    ∙ ap (λ (log : List LogEntry). trace_bytes (bits_in run.part (length run.host.scenario.slaves)) c.args.input.now log) c.log.ensures.log in
    record {
      delivery = delivery;
      sound = c.requires.sound;
      master = c.log.ensures.follows_master c.requires.unfaulted;
      slaves = c.log.ensures.follows c.requires.unfaulted;
      delivered = subst Both traced c.write_both-delivery.ensures;
      status_is = c.status.ensures;
    }
