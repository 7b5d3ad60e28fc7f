use Rattle.std.proofs.Common.{◌≡◌, ◌+◌, ◌++◌, ◌∷◌, [], map, take, if◌then◌else◌}
use Rattle.host.specs.Hosting.{hosted_from}
use Rattle.host.proofs.openings.hosted_places.Given as goal

abbrev pub invariant-loop-desc : goal.invariant-loop-desc
invariant-loop-desc l = record {
  places : l.places.items ≡ (if l.hosted.master then l.scenario.master ∷ [] else []) ++ map (λ d. d.address) (hosted_from l.hosted 1 (take l.desc-index l.desc-items));
  slave : l.slave ≡ 1 + l.desc-index;
}
