use Rattle.std.proofs.Common.{◌≡◌, ◌∷◌, map, take}
use Rattle.host.proofs.openings.all_places.Given as goal

abbrev pub invariant-loop-desc : goal.invariant-loop-desc
invariant-loop-desc l = l.places.items ≡ l.scenario.master ∷ map (λ d. d.address) (take l.desc-index l.desc-items)
