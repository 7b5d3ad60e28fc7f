use Rattle.std.proofs.Common.{arith}
use Rattle.pdu_layout.proofs.ranges.fits_bytes.Goals as goal

pub returns-in-Rest : goal.returns-in-Rest
returns-in-Rest c = rw c.in-Rest.is (λ i. omega (arith, c.type_inv.bytes i))
