use Rattle.std.proofs.Common.{◌++◌}
use Rattle.slave_spec.specs.Slaves.{slave_rules_from}
use Rattle.conform_laws.proofs.Following.{cut_allowed}
use Rattle.conform_laws.proofs.Fronts.{part_cut}
use Rattle.conform_laws.proofs.laws.host_fronts_are_allowed.Goals as goal

pub returns : goal.returns
returns c = λ master slaves n before part setup rounds stopped follows.
    let k = part_cut master slaves n before part (slave_rules_from setup) rounds stopped follows in
    (k.0, cut_allowed setup ((before ++ part) ++ k.0) k.1)
