use Rattle.std.proofs.Common.{arith}
use Rattle.dcp_ends.specs.declared.entries.LogEntry.TheVariants.{Sent}
use Rattle.dcp_record.specs.Traces.{IsTraceAddress}
use Rattle.dcp_record.proofs.Grown.{longer}
use Rattle.dcp_record.proofs.run_logs.RunLog.push_sent.Goals as goal

pub invariant_of-self : goal.invariant_of-self
invariant_of-self c =
    let first : IsTraceAddress c.args.from = record { ip_fits = omega arith; port_fits = omega arith } in
    let second : IsTraceAddress c.args.to = record { ip_fits = omega arith; port_fits = omega arith } in
    longer _ _ _ _ _ _ (Sent c.args.from c.args.to c.args.bytes.now) c.self.invariant (record { places = (first, second); in_range = (c.requires.low, c.requires.high) }) (omega arith) c.append_exchange.ensures c.then-self-inside.ensures
