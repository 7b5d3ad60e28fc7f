-- What an input reads, once its wire is found.
use Rattle.std.specs.Prelude.{ℕ, ◌+◌, ◌*◌, ◌/◌, ◌<◌, Option, Some, None, List, [], map, slice_index_or, ℤ, pos}
use Rattle.std.specs.List.{range_with_len}
use Rattle.scenario.specs.declared.scenarios.Scenario.{Scenario}
use Rattle.scenario.specs.declared.scenarios.Wire.{Wire}
use Rattle.lockstep.specs.declared.wiring.Feed.{Feed}
use Rattle.scenario.specs.Wiring.{wire_into, interval, column}

abbrev pub feed_of : Scenario → Option Wire → Option Feed
feed_of sc None = None
feed_of sc (Some w) = Some (record { column = column sc.slaves w.from w.out; interval = interval sc.every w.from w.to })

-- the feeds of the first inputs of slave s
abbrev pub feeds_of : Scenario → (s count : ℕ) → List (Option Feed)
feeds_of sc s count = map (λ i. feed_of sc (wire_into sc.wires s i)) (range_with_len 0 count)

-- what an input reads at step k of the run whose first row is this one
abbrev pub fed : List (List ℤ) → (first k : ℕ) → Option Feed → ℤ
fed rows first k None = pos 0
fed rows first k (Some f) = slice_index_or (slice_index_or rows (first + f.interval * (k / f.interval)) []) f.column (pos 0)

-- it reads within the rows
abbrev pub IsFeed : ℕ → Option Feed → Type 0
IsFeed width None = Unit {0}
IsFeed width (Some f) = (0 < f.interval) × (f.column < width)
