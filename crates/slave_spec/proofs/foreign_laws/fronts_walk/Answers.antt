use Rattle.slave_spec.proofs.Walking.{begins_walk, walk_begins}
use Rattle.slave_spec.proofs.foreign_laws.fronts_walk.Goals as goal

pub returns : goal.returns
returns c = λ d entries. (begins_walk d entries, walk_begins d entries)
