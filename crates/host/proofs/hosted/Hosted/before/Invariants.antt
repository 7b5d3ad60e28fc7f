use Rattle.std.proofs.Common.{◌≡◌, ◌≤◌, ◌-◌}
use Rattle.host.specs.Hosting.{count_from}
use Rattle.host.proofs.hosted.Hosted.before.Given as goal

abbrev pub invariant-loop-other : goal.invariant-loop-other
invariant-loop-other l = record { counted : l.count ≡ count_from l.self 1 (l.other - 1); few : l.count ≤ l.other }
