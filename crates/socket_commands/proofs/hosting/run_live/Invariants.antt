use Rattle.std.proofs.Common.{◌≡◌, ◌≤◌, ℕ, None, IsTrue}
use Rattle.host.specs.Views.{master_in, slaves_in, Tells}
use Rattle.socket_commands.specs.Lives.{CountsWaits, RestingRounds}
use Rattle.socket_commands.proofs.hosting.run_live.Given as goal

abbrev pub invariant-rounds : goal.invariant-rounds
invariant-rounds g l = record {
  scenario : l.host.scenario ≡ l.fn.host.scenario;
  hosted : l.host.hosted ≡ l.fn.host.hosted;
  fault : l.host.fault ≡ None;
  is_open : IsTrue (g.N.Net.is_open l.net);
  run : (n : ℕ) × RestingRounds (master_in l.host) (slaves_in l.host) l.fn.most n l.resting l.host.log × CountsWaits (g.P.Ready.waits l.fn.ready) (g.P.Ready.waits l.ready) n;
  few : l.resting ≤ l.fn.most;
  told : Tells (g.N.Net.calls l.fn.net) l.fn.host.log → Tells (g.N.Net.calls l.net) l.host.log;
  opening : g.N.Net.opening l.net ≡ g.N.Net.opening l.fn.net;
  still : g.N.Net.count l.net ≡ g.N.Net.count l.fn.net;
  unfailed : g.P.Ready.count l.ready ≡ g.P.Ready.count l.fn.ready;
}
