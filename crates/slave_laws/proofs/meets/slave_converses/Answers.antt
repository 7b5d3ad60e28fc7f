use Rattle.slave_spec.specs.Slaves.{machine}
use Rattle.slave_laws.proofs.Talk.Meets.{converses, slave_is}
use Rattle.slave_laws.proofs.meets.slave_converses.Goals as goal

pub returns-clause-converses : goal.returns-clause-converses
returns-clause-converses c setup w s rb = converses (machine setup) w s rb

pub returns-clause-events : goal.returns-clause-events
returns-clause-events c setup w s log = slave_is (machine setup) w s log
