-- The data messages of these output ids that are due.
use Rattle.std.specs.Prelude.{ℕ, List, map, filter, ℤ}
use Rattle.std.specs.List.{filter_map}
use Rattle.dcp_ends.specs.Events.{Send}
use Rattle.slave_desc.specs.declared.descriptions.SlaveDesc.{SlaveDesc}
use Rattle.slave_spec.specs.Changes.{Change, output, is_due}
use Rattle.slave_spec.specs.Transport.{parcel_send}
use Rattle.slave_spec.specs.Turns.{parcel}

abbrev pub data_sends : SlaveDesc → List Change → (steps : ℕ) → List ℤ → List ℕ → List Send
data_sends d changes steps vs ids = map parcel_send (filter_map (parcel d changes steps vs) (filter (λ id. is_due output id changes steps) ids))
