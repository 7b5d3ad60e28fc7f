use Rattle.host_laws.proofs.ReadRows.{value_of}
use Rattle.host_laws.proofs.readings.row.Goals as goal

pub returns-clause-of_reference : goal.returns-clause-of_reference
returns-clause-of_reference c = value_of c.args.host.now c.requires.all c.keeps_in_step.ensures c.args.k c.args.slave c.args.port c.row.result c.row.ensures
