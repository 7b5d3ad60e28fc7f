use Rattle.std.proofs.Common.{◌≡◌}
use Rattle.net_world.specs.Watches.{watch_counted}
use Rattle.net_world.proofs.Watched.{mapped}
use Rattle.net_world.proofs.watches.count.Given as goal

abbrev pub invariant-loop-watch : goal.invariant-loop-watch
invariant-loop-watch l = l.watches ≡ mapped (watch_counted l.all l.from l.bytes) l.fn.watches l.watch-index
