use Rattle.std.proofs.Common.{◌≡◌, take, false}
use Rattle.std.specs.List.{list_any}
use Rattle.dcp_ends.specs.Logs.{same_address}
use Rattle.replays.proofs.going.find.Given as goal

abbrev pub invariant-loop-i : goal.invariant-loop-i
invariant-loop-i l = list_any (λ a. same_address a l.place) (take l.i l.places) ≡ false
