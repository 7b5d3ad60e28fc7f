use Rattle.std.proofs.Common.{arith}
use Rattle.dcp_record.proofs.Grown.{at_most}
use Rattle.dcp_record.proofs.run_logs.RunLog.cursor.Goals as goal

pub first_place-requires-clause-few : goal.first_place-requires-clause-few
first_place-requires-clause-few c = omega (arith, at_most _ _ c.self.invariant.all, c.as_slice.ensures.len, c.self.inside.bytes.small)
