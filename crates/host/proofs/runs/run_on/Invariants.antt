use Rattle.std.proofs.Common.{◌≡◌, ◌-◌, ℕ, false, None, IsTrue}
use Rattle.master_spec.specs.Bound.{bound}
use Rattle.master_spec.specs.Setup.{setup_from}
use Rattle.rounds.specs.Rounds.{Rounds, has_report}
use Rattle.host.specs.Views.{master_in, slaves_in, Tells}
use Rattle.host.proofs.Onward.{turns_of}
use Rattle.host.proofs.runs.run_on.Given as goal

abbrev pub invariant-rounds : goal.invariant-rounds
invariant-rounds g l = record {
  scenario : l.host.scenario ≡ l.fn.host.scenario;
  hosted : l.host.hosted ≡ l.fn.host.hosted;
  fault : l.host.fault ≡ None;
  is_open : IsTrue (g.N.Net.is_open l.net);
  rounds : (n : ℕ) × Rounds (master_in l.host) (slaves_in l.host) n l.host.log;
  going : has_report (master_in l.host) l.host.log ≡ false;
  told : Tells (g.N.Net.calls l.fn.net) l.fn.host.log → Tells (g.N.Net.calls l.net) l.host.log;
  opening : g.N.Net.opening l.net ≡ g.N.Net.opening l.fn.net;
  still : g.N.Net.count l.net ≡ g.N.Net.count l.fn.net;
}

abbrev pub decreases-rounds : goal.decreases-rounds
decreases-rounds g l = bound (setup_from l.host.scenario) - turns_of l.host.scenario.master l.host.log
