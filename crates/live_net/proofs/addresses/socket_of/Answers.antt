use Rattle.std.proofs.Common.{refl, arith}
use Rattle.live_net.proofs.Bits.{bits_of_bits}
use Rattle.live_net.proofs.addresses.socket_of.Goals as goal

pub returns : goal.returns
returns c = rw (c.new.ensures.ip, c.new.ensures.port, bits_of_bits c.from_bits.result c.args.at.ip (omega arith) c.from_bits.ensures) refl
