use Rattle.witness_laws.proofs.Shown.Together.{ahead_not, behind_not}
use Rattle.witness_laws.proofs.finished.slaves_wait_for_each_other.Goals as goal

pub returns-clause-ahead : goal.returns-clause-ahead
returns-clause-ahead c = ahead_not

pub returns-clause-behind : goal.returns-clause-behind
returns-clause-behind c = behind_not
