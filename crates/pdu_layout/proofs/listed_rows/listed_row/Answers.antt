use Rattle.std.proofs.Common.{rules}
use Rattle.pdu_layout.specs.Table.{table}
use Rattle.pdu_layout.proofs.Unlisted.{not_listed}
use Rattle.pdu_layout.proofs.listed_rows.listed_row.Goals as goal

pub returns-in_default : goal.returns-in_default
returns-in_default c = not_listed table c.args.code (search rules)
