use Rattle.std.proofs.Common.{arith}
use Rattle.dcp_ends.specs.declared.entries.LogEntry.TheVariants.{Got}
use Rattle.dcp_record.specs.Traces.{IsTraceAddress}
use Rattle.dcp_record.proofs.Grown.{gots_at_most, longer}
use Rattle.dcp_record.proofs.run_logs.RunLog.push_got.Goals as goal

pub invariant_of-self : goal.invariant_of-self
invariant_of-self c =
    let first : IsTraceAddress c.args.at = record { ip_fits = omega arith; port_fits = omega arith } in
    let second : IsTraceAddress c.args.from = record { ip_fits = omega arith; port_fits = omega arith } in
    longer _ _ _ _ _ _ (Got c.args.at c.args.from c.args.bytes.now) c.self.invariant (record { places = (first, second); in_range = c.requires.high }) (omega arith) c.append_exchange.ensures c.then-self-inside.ensures

pub overflow_add-self : goal.overflow_add-self
overflow_add-self c = omega (arith, gots_at_most _ _ _ c.self.invariant, c.self.inside.bytes.small)
