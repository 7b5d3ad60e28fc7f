-- One place for each end before.
use Rattle.std.proofs.Common.{◌≡◌, map, take}
use Rattle.live_net.specs.Departures.{leaving_of, unconnected}
use Rattle.live_net.proofs.departures.Departures.new.Given as goal

abbrev pub invariant-loop-to : goal.invariant-loop-to
invariant-loop-to l = map leaving_of l.outward.items ≡ map unconnected (take l.to-index l.all)
