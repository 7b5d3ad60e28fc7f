use Rattle.completeness_laws.proofs.Quiet.Emptied.{looks_take_all}
use Rattle.completeness_laws.proofs.quiet_looks_take_all.Goals as goal

pub returns : goal.returns
returns c = looks_take_all
