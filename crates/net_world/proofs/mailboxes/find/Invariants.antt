use Rattle.std.proofs.Common.{take}
use Rattle.net_world.specs.Mailboxes.{NoBox}
use Rattle.net_world.proofs.mailboxes.find.Given as goal

abbrev pub invariant-loop-i : goal.invariant-loop-i
invariant-loop-i l = NoBox l.at (take l.i l.boxes)
