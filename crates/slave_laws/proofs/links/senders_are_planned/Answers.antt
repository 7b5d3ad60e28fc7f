use Rattle.slave_laws.proofs.Wiring.Planned.{senders}
use Rattle.slave_laws.proofs.Wiring.Sends.{each_sends}
use Rattle.slave_laws.proofs.links.senders_are_planned.Goals as goal

pub returns-clause-only : goal.returns-clause-only
returns-clause-only c = senders

pub returns-clause-each : goal.returns-clause-each
returns-clause-each c = each_sends
