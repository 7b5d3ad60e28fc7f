-- No wait is counted while it lasts.
use Rattle.std.proofs.Common.{◌≡◌}
use Rattle.live_net.proofs.waits.MioReady.watch_sockets.Given as goal

abbrev pub invariant-loop : goal.invariant-loop
invariant-loop g l = l.self ≡ l.initial.self
