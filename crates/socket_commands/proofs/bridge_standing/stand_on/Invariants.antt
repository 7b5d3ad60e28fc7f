use Rattle.std.proofs.Common.{◌≡◌, None, IsTrue}
use Rattle.socket_commands.specs.Bridge.Standing.{StoodOn}
use Rattle.socket_commands.proofs.bridge_standing.stand_on.Given as goal

abbrev pub invariant-rounds : goal.invariant-rounds
invariant-rounds g l = record {
  unfaulted : l.bridge.fault ≡ None;
  udp_open : IsTrue (g.U.Net.is_open l.udp);
  tcp_open : IsTrue (g.T.Net.is_open l.tcp);
  stood : StoodOn g.U.Net.calls g.T.Net.calls (g.P.Ready.waits l.fn.ready) (g.P.Ready.waits l.ready) l.fn.bridge l.bridge l.fn.udp l.udp l.fn.tcp l.tcp;
  udp_opening : g.U.Net.opening l.udp ≡ g.U.Net.opening l.fn.udp;
  tcp_opening : g.T.Net.opening l.tcp ≡ g.T.Net.opening l.fn.tcp;
  udp_still : g.U.Net.count l.udp ≡ g.U.Net.count l.fn.udp;
  tcp_still : g.T.Net.count l.tcp ≡ g.T.Net.count l.fn.tcp;
  unfailed : g.P.Ready.count l.ready ≡ g.P.Ready.count l.fn.ready;
}
