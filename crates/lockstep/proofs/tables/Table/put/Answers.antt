use Rattle.std.proofs.Common.{◌≡◌, ◌++◌, ◌∷◌, [], arith}
use Rattle.std.proofs.lemmas.Int.{to_z-of_z}
use Rattle.lockstep.proofs.Cuts.{grid-put}
use Rattle.lockstep.proofs.tables.Table.put.Goals as goal

pub returns-clause-added : goal.returns-clause-added
returns-clause-added c =
    let t = c.self.inside in
    let stored : c.push.new.self.items ≡ t.values.items ++ c.args.value ∷ [] = grind (arith, to_z-of_z, c.in_ok-push.ensures.items) in
    grid-put t.width t.count t.values.items c.push.new.self.items c.args.value c.args.self.now c.self.view_is c.self.invariant.0 stored
