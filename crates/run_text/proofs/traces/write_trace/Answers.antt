use Rattle.std.proofs.Common.{List, ℕ, ap, length, subst, ◌∙◌}
use Rattle.dcp_io.specs.Outputs.{WroteAll}
use Rattle.dcp_record.specs.Traces.{trace_bytes}
use Rattle.slave_desc.specs.declared.descriptions.SlaveDesc.{SlaveDesc}
use Rattle.run_text.specs.Runs.{all_bits}
use Rattle.run_text.proofs.traces.write_trace.Goals as goal

pub returns-in-Ok : goal.returns-in-Ok
returns-in-Ok g c =
    let Written : List ℕ → Type 0 = λ text. WroteAll (g.R.Sink.written c.args.trace.now) (g.R.Sink.written c.write_record.new.sink) (g.R.Sink.faults c.args.trace.now) (g.R.Sink.faults c.write_record.new.sink) text in
    let bits = c.bits_of-hosted.ensures.bits ∙ ap (λ (l : List SlaveDesc). all_bits (length l)) c.as_slice.ensures.items in
    subst Written (ap (λ (b : ℕ). trace_bytes b c.args.input.now c.args.log.now.entries) bits) c.in-Ok.ensures
