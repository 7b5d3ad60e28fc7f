use Rattle.std.proofs.Common.{arith}
use Rattle.dcp_ends.specs.declared.entries.LogEntry.TheVariants.{Idle}
use Rattle.dcp_record.specs.Traces.{IsTraceAddress}
use Rattle.dcp_record.proofs.Grown.{longer}
use Rattle.dcp_record.proofs.run_logs.RunLog.push_idle.Goals as goal

pub invariant_of-self : goal.invariant_of-self
invariant_of-self c =
    let fits : IsTraceAddress c.args.at = record { ip_fits = omega arith; port_fits = omega arith } in
    longer _ _ _ _ _ _ (Idle c.args.at) c.self.invariant (record { places = fits; in_range = tt }) (omega arith) (rw c.place_head.ensures at c.append.ensures.items) c.then-self-inside.ensures
