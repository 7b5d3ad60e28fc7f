use Rattle.std.proofs.Common.{◌≡◌, map, take}
use Rattle.rounds.specs.Rounds.{places_of}
use Rattle.replays.proofs.making.places_of.Given as goal

abbrev pub invariant-loop-end : goal.invariant-loop-end
invariant-loop-end g l = l.places.items ≡ places_of (map g.E.End.rules (take l.end-index l.ends))
