use Rattle.slave_spec.specs.Slaves.{machine}
use Rattle.slave_laws.proofs.Talk.Meets.{converses}
use Rattle.slave_laws.proofs.Talk.Benches.{performs}
use Rattle.slave_laws.proofs.meets.slaves_are_of_the_laws.Goals as goal

pub returns : goal.returns
returns c w setups steps runs may opened apart read = record {
  apart = apart;
  each = λ s is. converses (machine (setups s)) w s (read s is);
  works = λ s is. performs (setups s) w s (read s is);
}
