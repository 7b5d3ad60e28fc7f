-- The data messages of a slave: which are kept, what the inputs are, and what is sent.
use Rattle.std.specs.Prelude.{◌≡◌, ℕ, ◌+◌, ◌%◌, ◌==◌, ◌&&◌, not, nat_lt, Bool, true, false, List, [], ◌∷◌, length, map, take, drop, reverse, sum_by, slice_index_or, Option, Some, None, find, ℤ, pos, if◌then◌else◌}
use Rattle.std.specs.List.{filter_map, list_all, flat_map}
use Rattle.dcp_types.specs.declared.addresses.Address.{Address}
use Rattle.dcp_types.specs.declared.data_types.DataType.{DataType}
use Rattle.dcp_types.specs.declared.data_types.DataType.TheVariants.{I64}
use Rattle.dcp_types.specs.Values.{width, fits, value_bytes}
use Rattle.pdu_layout.specs.declared.messages.Cfg.{Cfg}
use Rattle.pdu_layout.specs.declared.messages.Cfg.TheVariants as cfg
use Rattle.pdu_layout.specs.Fields.FieldValue.{Number, Bytes}
use Rattle.pdu_layout.specs.Message.{Message}
use Rattle.pdu_layout.specs.Reading.{value_in, spelling}
use Rattle.slave_desc.specs.declared.ports.Port.{Port}
use Rattle.slave_desc.specs.declared.descriptions.SlaveDesc.{SlaveDesc}
use Rattle.slave_spec.specs.Changes.{Change, Set, Restart, newest_change, input, output, entries, has_id, ids, source, target, steps_in_run, ordinal}
use Rattle.slave_spec.specs.Refusals.{port_with}

-- a payload that was kept, and the ordinal of its run for which it was kept
pub record Kept : Type 0 where
  pub id : ℕ
  pub ordinal : ℕ
  pub payload : List ℕ

-- the changes since the last clearing, and the payloads kept since the last clearing or restart, both with the newest first
pub record WiringState : Type 0 where
  pub changes : List Change
  pub kept : List Kept

abbrev pub bare_wires : WiringState
bare_wires = record { changes = []; kept = [] }

-- after an accepted request
abbrev pub set : WiringState → Cfg → WiringState
set w cfg.Clear = bare_wires
set w body = record w { changes = Set body ∷ w.changes }

-- after a restart the payloads are given up, and the ordinals go on
abbrev pub restarted : WiringState → (steps : ℕ) → WiringState
restarted w steps = record { changes = Restart steps ∷ w.changes; kept = [] }

abbrev pub port_type : Option Port → DataType
port_type None = I64
port_type (Some port) = port.kind

-- the types of the values in a payload, in the order of the positions
abbrev pub types_in : List Port → List ℕ → List DataType
types_in ports vrs = map (λ vr. port_type (port_with vr ports)) (reverse vrs)

abbrev pub input_types : SlaveDesc → ℕ → List Change → List DataType
input_types d id changes = types_in d.inputs (entries input id changes)

-- what is kept under an id
abbrev pub kept_under : ℕ → List Kept → Option Kept
kept_under id kept = find (λ k. k.id == id) kept

abbrev pub is_kept_of : ℕ → Option Kept → Bool
is_kept_of ordinal None = false
is_kept_of ordinal (Some k) = k.ordinal == ordinal

-- what is kept under an id is for its ordinal after so many steps
abbrev pub is_here : WiringState → (steps id : ℕ) → Bool
is_here w steps id = is_kept_of (steps_in_run input id w.changes steps) (kept_under id w.kept)

abbrev pub is_address : Option Address → Address → Bool
is_address None a = false
is_address (Some b) a = (b.ip == a.ip) && (b.port == a.port)

-- a data message is kept: it comes from the source of its id, with its length, and under its number after so many steps, for which none is kept
abbrev pub is_wanted : SlaveDesc → WiringState → Address → (number id : ℕ) → List ℕ → (steps : ℕ) → Bool
is_wanted d w from number id payload steps =
    (has_id input id w.changes
    && is_address (source id w.changes) from
    && (length payload == sum_by width (input_types d id w.changes))
    && (number == ordinal input id w.changes steps % 65536)
    && not (is_here w steps id))

abbrev pub brought : SlaveDesc → WiringState → Address → (number id : ℕ) → List ℕ → (steps : ℕ) → WiringState
brought d w from number id payload steps =
    (if is_wanted d w from number id payload steps
    then record w { kept = record { id = id; ordinal = steps_in_run input id w.changes steps; payload = payload } ∷ w.kept }
    else w)

-- all inputs are there that a step after so many steps takes
abbrev pub ready : WiringState → (steps : ℕ) → Bool
ready w steps = list_all (is_here w steps) (ids input w.changes)

-- where an input stands: its id, and its position there
pub record Spot : Type 0 where
  pub id : ℕ
  pub position : ℕ

abbrev pub spot_given : ℕ → Change → Option Spot
spot_given vr (Set (cfg.Input id position other source)) = if other == vr then Some (record { id = id; position = position }) else None
spot_given vr change = None

abbrev pub spot : ℕ → List Change → Option Spot
spot vr changes = newest_change (filter_map (spot_given vr) changes)

-- the values of a payload
abbrev pub cut_values : List DataType → List ℕ → List ℤ
cut_values [] bytes = []
cut_values (kind ∷ kinds) bytes = value_in kind (take (width kind) bytes) ∷ cut_values kinds (drop (width kind) bytes)

abbrev pub value_kept : List DataType → (position : ℕ) → Option Kept → ℤ
value_kept kinds position None = pos 0
value_kept kinds position (Some k) = slice_index_or (cut_values kinds k.payload) position (pos 0)

abbrev pub spot_value : SlaveDesc → WiringState → Option Spot → ℤ
spot_value d w None = pos 0
spot_value d w (Some e) = value_kept (input_types d e.id w.changes) e.position (kept_under e.id w.kept)

-- the value of an input: the one kept last, and 0 before
abbrev pub input_value : SlaveDesc → WiringState → Port → ℤ
input_value d w port = spot_value d w (spot port.vr w.changes)

abbrev pub wired_values : SlaveDesc → WiringState → List ℤ
wired_values d w = map (input_value d w) d.inputs

-- the value at the output with this value reference
abbrev pub output_value : ℕ → List Port → List ℤ → ℤ
output_value vr [] values = pos 0
output_value vr (port ∷ ports) [] = pos 0
output_value vr (port ∷ ports) (value ∷ values) = if port.vr == vr then value else output_value vr ports values

abbrev pub bytes_for : List Port → List ℤ → ℕ → List ℕ
bytes_for ports values vr = value_bytes (port_type (port_with vr ports)) (output_value vr ports values)

-- the payload of an output id, and its message after so many steps
abbrev pub payload : SlaveDesc → ℕ → List Change → List ℤ → List ℕ
payload d id changes values = flat_map (bytes_for d.outputs values) (reverse (entries output id changes))

abbrev pub data_message : (number id : ℕ) → List ℕ → Message
data_message number id payload' = record { code = 240; values = Number number ∷ Number id ∷ Bytes payload' ∷ [] }

-- each value lies in the type of its port
abbrev pub values_fit_ports : List Port → List ℤ → Bool
values_fit_ports [] [] = true
values_fit_ports (port ∷ ports) (value ∷ values) = fits port.kind value && values_fit_ports ports values
values_fit_ports ports values = false

-- the message of an output id, where these values fit the ports: it goes to the target and is spelled in the front of the room; an id without a target has none
abbrev pub IsMessage : SlaveDesc → List Change → (steps : ℕ) → List ℤ → ℕ → List ℕ → Option Address → Option (Address × ℕ) → Type 0
IsMessage d changes steps values id room None result = result ≡ None
IsMessage d changes steps values id room (Some to) result =
    (size : ℕ) × (result ≡ Some (to, size)) × (take size room ≡ spelling (data_message (ordinal output id changes steps % 65536) id (payload d id changes values)))

abbrev pub IsBuilt : SlaveDesc → List Change → (steps : ℕ) → List ℤ → ℕ → List ℕ → Option (Address × ℕ) → Type 0
IsBuilt d changes steps values id room result =
    values_fit_ports d.outputs values ≡ true → IsMessage d changes steps values id room (target id changes) result
