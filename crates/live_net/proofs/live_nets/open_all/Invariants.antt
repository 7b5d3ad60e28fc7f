-- An end for each of the places before, in order.
use Rattle.std.proofs.Common.{◌≡◌, map, take}
use Rattle.live_net.specs.Live.{socket_end, opened_as}
use Rattle.live_net.proofs.live_nets.open_all.Given as goal

abbrev pub invariant-loop-place : goal.invariant-loop-place
invariant-loop-place g l = map socket_end l.ends.items ≡ map (opened_as l.protocol l.all.value.items) (take l.place-index l.places)
