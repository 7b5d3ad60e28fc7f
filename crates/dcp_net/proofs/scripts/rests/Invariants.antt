use Rattle.std.proofs.Common.{◌≡◌, ◌≤◌, length, take, false}
use Rattle.dcp_net.specs.Scripts.{rests_after}
use Rattle.dcp_net.proofs.scripts.rests.Given as goal

abbrev pub invariant-loop-i : goal.invariant-loop-i
invariant-loop-i l = record { within : l.i ≤ length l.calls; same : rests_after l.at false l.calls ≡ rests_after l.at false (take l.i l.calls) }

abbrev pub decreases-loop-i : goal.decreases-loop-i
decreases-loop-i l = l.i
