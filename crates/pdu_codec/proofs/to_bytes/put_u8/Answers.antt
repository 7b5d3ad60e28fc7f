use Rattle.std.proofs.Common.{arith}
use Rattle.pdu_codec.proofs.Writing.{set_first}
use Rattle.pdu_codec.proofs.to_bytes.put_u8.Goals as goal

pub returns-clause-bytes : goal.returns-clause-bytes
returns-clause-bytes c = set_first c.args.n c.args.room.now (omega (arith, c.ranges.n.fits)) c.requires
