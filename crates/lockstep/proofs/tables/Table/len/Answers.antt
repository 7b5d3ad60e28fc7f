use Rattle.std.proofs.Common.{ap}
use Rattle.lockstep.specs.Cut.{Grid}
use Rattle.lockstep.proofs.Cuts.{count_seen}
use Rattle.lockstep.proofs.tables.Table.len.Goals as goal

pub returns : goal.returns
returns c = count_seen c.self.inside.width c.self.inside.count c.self.inside.values.items c.args.self.now.rows (ap (λ (x : Grid). x.rows) c.self.view_is)
