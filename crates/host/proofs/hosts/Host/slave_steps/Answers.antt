use Rattle.std.proofs.Common.{ap, Some}
use Rattle.slave_spec.specs.Slaves.{steps_after}
use Rattle.host.specs.Hosting.{hosted_slave}
use Rattle.host.proofs.Found.{slave_read}
use Rattle.host.proofs.TheEnds.{slave_stands, slave_setup_in}
use Rattle.host.proofs.hosts.Host.slave_steps.Goals as goal

pub returns-in-Some : goal.returns-in-Some
returns-in-Some c =
    let host = c.args.self.now in
    let found = rw c.in-Some.is at c.seat_of.ensures in
    let says = rw c.end.ensures at c.steps_taken.ensures in
    slave_read slave_stands slave_setup_in host (λ setup events. Some (steps_after setup events)) (hosted_slave host.scenario host.hosted c.args.slave) c.in-Some.seat.now (Some c.steps_taken.result) found
    (λ events stands. ap (λ x. Some x) (says events stands))
