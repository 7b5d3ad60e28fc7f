use Rattle.lockstep.proofs.Cuts.{grid-close}
use Rattle.lockstep.proofs.tables.Table.close.Goals as goal

pub returns : goal.returns
returns c =
    let t = c.self.inside in
    grid-close t.width t.count t.values.items c.args.self.now c.self.view_is c.self.invariant.0 c.requires
