-- The bytes of outputs at their places.
use Rattle.std.specs.Prelude.{ℕ, List, slice_index_or, ℤ, pos, if◌then◌else◌}
use Rattle.dcp_types.specs.Values.{fits, value_bytes}
use Rattle.slave_device.specs.declared.places.PortPlace.{PortPlace}

-- the value at a place, where it fits the type
abbrev pub value_for : List ℤ → PortPlace → ℤ
value_for values place = (let z = slice_index_or values place.index (pos 0) in if fits place.kind z then z else pos 0)

abbrev pub place_bytes : List ℤ → PortPlace → List ℕ
place_bytes values place = value_bytes place.kind (value_for values place)
