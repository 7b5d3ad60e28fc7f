use Rattle.std.proofs.Common.{◌≡◌, ◌-◌, map, take}
use Rattle.lockstep.specs.Feeds.{fed}
use Rattle.lockstep.proofs.wiring.gather.Given as goal

abbrev pub invariant-loop-feed : goal.invariant-loop-feed
invariant-loop-feed l = l.inputs.items ≡ map (fed l.rows.rows (l.now - l.step) l.step) (take l.feed-index l.feeds)
