-- The end stays where it is.
use Rattle.std.proofs.Common.{◌≡◌}
use Rattle.live_net.proofs.datagrams.UdpEnd.take.Given as goal

abbrev pub invariant-loop : goal.invariant-loop
invariant-loop g l = l.self.place ≡ l.initial.self.place
