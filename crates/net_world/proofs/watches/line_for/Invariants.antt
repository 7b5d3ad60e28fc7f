use Rattle.net_world.specs.Watches.{watch_names}
use Rattle.dcp_net.proofs.Firsts.{Passed}
use Rattle.net_world.proofs.watches.line_for.Given as goal

abbrev pub invariant-loop-watch : goal.invariant-loop-watch
invariant-loop-watch l = Passed (watch_names l.all l.from l.bytes) l.watches l.watch-index
