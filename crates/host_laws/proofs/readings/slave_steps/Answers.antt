use Rattle.scenario.specs.Lookups.{slave_at}
use Rattle.std.proofs.Common.{◌≡◌, Some}
use Rattle.host_laws.specs.Readings.{IsCloseToAll, OfReference, plant_in, StandsInLockstep}
use Rattle.host_laws.proofs.ReadSlaves.{close_to_all, of_the_slave, stands, steps_are}
use Rattle.host_laws.proofs.readings.slave_steps.Goals as goal

pub returns-clause-steps : goal.returns-clause-steps
returns-clause-steps c =
    of_the_slave (slave_at c.args.host.now.scenario.slaves c.args.slave) (λ d. c.slave_steps.result ≡ Some (plant_in c.args.host.now d).steps)
    (λ d there. steps_are c.args.host.now c.requires.all c.args.slave d there c.slave_steps.result c.slave_steps.ensures)

pub returns-clause-stands : goal.returns-clause-stands
returns-clause-stands c =
    of_the_slave (slave_at c.args.host.now.scenario.slaves c.args.slave) (λ d. OfReference c.args.host.now (λ rows fault. StandsInLockstep c.args.host.now c.args.slave rows d))
    (λ d there. stands c.args.host.now c.requires.all c.args.slave d there c.keeps_in_step.ensures)

pub returns-clause-close : goal.returns-clause-close
returns-clause-close c =
    of_the_slave (slave_at c.args.host.now.scenario.slaves c.args.slave) (λ d. IsCloseToAll c.args.host.now d)
    (λ d there. close_to_all c.args.host.now c.requires.all c.keeps_in_step.ensures c.args.slave d there)
