use Rattle.std.proofs.Common.{arith}
use Rattle.dcp_record.proofs.logs.first_place.Goals as goal

pub invariant_of-result : goal.invariant_of-result
invariant_of-result c = rw c.again.ensures (record { within = omega arith; few = c.requires.few; left = c.requires.all })
