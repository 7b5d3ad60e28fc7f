use Rattle.std.proofs.Common.{List, ℕ, ap, subst}
use Rattle.dcp_io.specs.Outputs.{WroteAll}
use Rattle.dcp_record.specs.Traces.{trace_bytes}
use Rattle.socket_commands.proofs.answers.write_trace.Goals as goal

pub returns-in-Ok : goal.returns-in-Ok
returns-in-Ok g c =
    let Written : List ℕ → Type 0 = λ text. WroteAll (g.R.Sink.written c.args.trace.now) (g.R.Sink.written c.write_record.new.sink) (g.R.Sink.faults c.args.trace.now) (g.R.Sink.faults c.write_record.new.sink) text in
    subst Written (ap (λ (b : ℕ). trace_bytes b c.args.input.now c.args.log.now.entries) c.bits-hosted.ensures.bits) c.in-Ok.ensures
