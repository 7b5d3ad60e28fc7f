use Rattle.host_laws.proofs.ReadRows.{rows_front, rows_whole}
use Rattle.host_laws.proofs.readings.rows.Goals as goal

pub returns-clause-front : goal.returns-clause-front
returns-clause-front c = rows_front c.args.host.now c.requires.all c.keeps_in_step.ensures c.rows.result c.rows.ensures

pub returns-clause-whole : goal.returns-clause-whole
returns-clause-whole c = rows_whole c.args.host.now c.requires.all c.keeps_in_step.ensures c.rows.result c.rows.ensures
