use Rattle.std.proofs.Common.{arith}
use Rattle.slave_device.proofs.Wires.Building.{data_spelled, spelled_is}
use Rattle.slave_device.proofs.payloads.put_data.Goals as goal

pub encode-requires : goal.encode-requires
encode-requires c = data_spelled _ _ _ (omega (arith, c.ranges.seq.fits)) (omega (arith, c.ranges.data_id.fits)) (λ i. omega (arith, c.type_inv.payload i)) c.requires

pub returns-clause-bytes : goal.returns-clause-bytes
returns-clause-bytes c = spelled_is _ _ c.encode.ensures.spelled
