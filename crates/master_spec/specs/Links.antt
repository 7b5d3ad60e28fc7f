-- Data ids: which slave sends to whom, and where each value stands.
use Rattle.std.specs.Prelude.{ℕ, ◌+◌, ◌==◌, ◌&&◌, Bool, Option, Some, None, List, [], ◌∷◌, ◌++◌, map, filter, length}
use Rattle.std.specs.List.{list_any, flat_map, range_with_len}
use Rattle.scenario.specs.declared.scenarios.Wire.{Wire}
use Rattle.scenario.specs.declared.scenarios.Scenario.{Scenario}
use Rattle.scenario.specs.Wiring.{interval}
use Rattle.master_spec.specs.declared.links.DataLink.{DataLink}
use Rattle.master_spec.specs.declared.pairs.Pair.{Pair}
use Rattle.master_spec.specs.Filling.{pairs_in_row}

-- all pairs of so many numbers each, the first from a on and the second from b on, by the first and then by the second
abbrev pub pairs_from : (a m b n : ℕ) → List Pair
pairs_from a m b n = flat_map (λ x. pairs_in_row x b n) (range_with_len a m)

-- a wire goes from slave a to slave b
abbrev pub is_wired_pair : List Wire → Pair → Bool
is_wired_pair wires p = list_any (λ w. (w.from == p.from) && (w.to == p.to)) wires

-- the pairs of slaves with a wire, by the sender and then by the receiver
abbrev pub wired_pairs : Scenario → List Pair
wired_pairs sc = filter (is_wired_pair sc.wires) (pairs_from 1 (length sc.slaves) 1 (length sc.slaves))

-- a wire goes from port to port of a pair of slaves
abbrev pub is_wire : List Wire → (from to : ℕ) → Pair → Bool
is_wire wires from to ports = list_any (λ w. ((w.from == from) && (w.to == to)) && ((w.out == ports.from) && (w.into == ports.to))) wires

-- the wires of a pair of slaves, by the output port and then by the input port: their places are the positions in the payload
abbrev pub positions : List Wire → (from to : ℕ) → List Pair
positions wires from to = filter (is_wire wires from to) (pairs_from 0 8 0 8)

-- the watch data of slave s has data id s, and goes to the master, which is end 0
abbrev pub watch_link : ℕ → DataLink
watch_link s = record { id = s; from = s; to = 0; every = 1 }

abbrev pub wire_link : Scenario → ℕ → Pair → DataLink
wire_link sc id p = record { id = id; from = p.from; to = p.to; every = interval sc.every p.from p.to }

-- one data id after the other, for one pair after the other
abbrev pub links_from : Scenario → ℕ → List Pair → List DataLink
links_from sc id [] = []
links_from sc id (p ∷ ps) = wire_link sc id p ∷ links_from sc (id + 1) ps

-- the data ids of the pairs with a wire are those from 17 on
abbrev pub wire_links : Scenario → List DataLink
wire_links sc = links_from sc 17 (wired_pairs sc)

abbrev pub watch_links : Scenario → List DataLink
watch_links sc = map watch_link (range_with_len 1 (length sc.slaves))

-- all data ids, ascending
abbrev pub links : Scenario → List DataLink
links sc = watch_links sc ++ wire_links sc
