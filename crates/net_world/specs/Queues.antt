-- A queue of deliveries, in the order of their due numbers.
use Rattle.std.specs.Prelude.{◌≡◌, ℕ, ◌≤◌, List, [], ◌∷◌, length, true}
use Rattle.net_world.specs.declared.deliveries.Arrival.{Arrival}
use Rattle.net_world.specs.Deliveries.{is_young}

-- none of them is due before this number
abbrev pub NoneBefore : ℕ → List Arrival → Type 0
NoneBefore n [] = Unit {0}
NoneBefore n (d ∷ ds) = (n ≤ d.due) × NoneBefore n ds

abbrev pub InOrder : List Arrival → Type 0
InOrder [] = Unit {0}
InOrder (d ∷ ds) = NoneBefore d.due ds × InOrder ds

-- none is longer than the room of a take
abbrev pub AllShort : List Arrival → Type 0
AllShort [] = Unit {0}
AllShort (d ∷ ds) = (length d.bytes ≤ 1025) × AllShort ds

-- the first is not gone, if there is one
abbrev pub FrontIsYoung : ℕ → List Arrival → Type 0
FrontIsYoung sent [] = Unit {0}
FrontIsYoung sent (d ∷ ds) = is_young sent d ≡ true
