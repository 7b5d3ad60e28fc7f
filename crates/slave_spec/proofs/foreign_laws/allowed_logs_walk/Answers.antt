use Rattle.slave_spec.proofs.Walking.{allowed_walks, walk_allowed}
use Rattle.slave_spec.proofs.foreign_laws.allowed_logs_walk.Goals as goal

pub returns : goal.returns
returns c = λ d entries. (allowed_walks d entries, walk_allowed d entries)
