use Rattle.soaks.proofs.Exact.{exact}
use Rattle.soaks.proofs.laws.sums_are_exact.Goals as goal

pub returns : goal.returns
returns c = exact
