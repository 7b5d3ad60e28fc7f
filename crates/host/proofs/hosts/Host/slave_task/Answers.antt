use Rattle.host.specs.Hosting.{hosted_slave}
use Rattle.host.proofs.Found.{stands_where}
use Rattle.host.proofs.TheEnds.{slave_stands, slave_setup_in}
use Rattle.host.proofs.hosts.Host.slave_task.Goals as goal

pub returns-in-Some-clause-stands : goal.returns-in-Some-clause-stands
returns-in-Some-clause-stands c =
    let host = c.args.self.now in
    let found = rw c.in-Some.is at c.seat_of.ensures in
    rw c.task.ensures (stands_where slave_stands slave_setup_in host.scenario host.log (hosted_slave host.scenario host.hosted c.args.slave) c.in-Some.seat.now found)
