-- The data messages of a slave whose outputs are not known.
use Rattle.std.specs.Prelude.{◌≡◌, ℕ, ◌+◌, ◌%◌, ◌&&◌, Bool, true, List, ◌∷◌, length, filter, drop, take, Option, Some, None, is_some, slice_get}
use Rattle.dcp_types.specs.declared.addresses.Address.{Address}
use Rattle.dcp_ends.specs.Events.{Send}
use Rattle.pdu_layout.specs.Reading.{spelling}
use Rattle.slave_desc.specs.declared.descriptions.SlaveDesc.{SlaveDesc}
use Rattle.slave_spec.specs.Changes.{Change, output, ids, target, is_due, ordinal}
use Rattle.slave_spec.specs.Payloads.{data_message}
use Rattle.slave_spec.specs.Transport.{Parcel, parcel_send}
use Rattle.slave_spec.specs.Foreign.{IsParcel, values_size}

-- the ids from a place on of which a message is due and goes somewhere
abbrev pub goes_out : List Change → (steps : ℕ) → ℕ → Bool
goes_out changes steps id = is_due output id changes steps && is_some (target id changes)

abbrev pub ids_from : (target : ℕ) → List Change → (steps : ℕ) → List ℕ
ids_from target changes steps = filter (goes_out changes steps) (drop target (ids output changes))

-- a message is a data message of an id
pub record IsDataTo (d : SlaveDesc) (changes : List Change) (steps id : ℕ) (to : Address) (sent : Send) : Type 0 where
  pub parcel : Parcel
  pub is : IsParcel d changes steps id to parcel
  pub same : sent ≡ parcel_send parcel

-- a data message of an id with some values stands at the front of the room, where the id has an address to which it goes
abbrev pub IsSample : SlaveDesc → List Change → (steps id : ℕ) → List ℕ → Option Address → Option (Address × ℕ) → Type 0
IsSample d changes steps id room None result = result ≡ None
IsSample d changes steps id room (Some to) result =
    (size : ℕ) × (payload : List ℕ) × (result ≡ Some (to, size)) × (length payload ≡ values_size d changes id)
    × (take size room ≡ spelling (data_message (ordinal output id changes steps % 65536) id payload))

-- the next id of those from a place on of which a message goes out
pub record IsNextId (changes : List Change) (steps from target : ℕ) : Type 0 where
  pub id : ℕ
  pub here : slice_get (ids output changes) target ≡ Some id
  pub goes : goes_out changes steps id ≡ true
  pub first : ids_from from changes steps ≡ id ∷ ids_from (target + 1) changes steps
