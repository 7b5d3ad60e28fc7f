use Rattle.std.proofs.Common.{reverse, None}
use Rattle.master_spec.specs.Course.{course}
use Rattle.master_core.specs.Columns.{column_value}
use Rattle.master_core.specs.Standing.{StandsAfter, core_setup}
use Rattle.host.proofs.Found.{master_read}
use Rattle.host.proofs.hosts.Host.row.Goals as goal

pub returns-in-Some : goal.returns-in-Some
returns-in-Some c =
    let host = c.args.self.now in
    let found = rw c.in-Some.is at c.master_seat.ensures in
    let says = rw c.end.ensures at c.row.ensures in
    master_read StandsAfter core_setup host.scenario host.log (λ setup events. column_value setup.slaves (course setup (reverse events)).rows c.args.k c.args.slave c.args.port) None
    host.hosted.master c.in-Some.seat.now c.row.result found says
