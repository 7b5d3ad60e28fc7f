use Rattle.witness_laws.proofs.Shown.Pairs.{tells_back, stuck_too}
use Rattle.witness_laws.proofs.unexpected.falling_back_is_shown.Goals as goal

pub returns-clause-first : goal.returns-clause-first
returns-clause-first c = tells_back

pub returns-clause-stuck : goal.returns-clause-stuck
returns-clause-stuck c = stuck_too
