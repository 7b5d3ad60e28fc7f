use Rattle.std.proofs.Common.{◌≡◌, map, take}
use Rattle.net_world.specs.Watches.{unseen}
use Rattle.net_world.proofs.watches.watched.Given as goal

abbrev pub invariant-loop-line : goal.invariant-loop-line
invariant-loop-line l = l.watches.items ≡ map unseen (take l.line-index l.fn.lines)
