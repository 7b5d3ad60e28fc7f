-- What is kept of the input ids and the inputs, by the changes and the payloads so far.
use Rattle.std.specs.Prelude.{◌≡◌, ℕ, ◌+◌, ◌/◌, ◌%◌, ◌≤◌, ◌==◌, ◌&&◌, not, nat_le, Bool, false, List, ◌∷◌, ◌++◌, length, map, take, drop, sum_by, slice_index_or, Option, Some, None, ℤ, pos, if◌then◌else◌}
use Rattle.dcp_types.specs.declared.addresses.Address.{Address}
use Rattle.dcp_types.specs.declared.data_types.DataType.{DataType}
use Rattle.dcp_types.specs.declared.data_types.DataType.TheVariants.{I64}
use Rattle.dcp_types.specs.Values.{width}
use Rattle.pdu_layout.specs.Reading.{value_in}
use Rattle.slave_desc.specs.declared.descriptions.SlaveDesc.{SlaveDesc}
use Rattle.slave_desc.specs.Descriptions.{AreApart}
use Rattle.slave_spec.specs.Changes.{Change, input, entries, has_id, ids, source, entry_interval, base}
use Rattle.slave_spec.specs.Refusals.{port_with}
use Rattle.slave_spec.specs.Payloads.{WiringState, Kept, Spot, port_type, input_types, kept_under, is_address, spot, wired_values}
use Rattle.slave_device.specs.declared.tables.InputRow.{InputRow}
use Rattle.slave_device.specs.declared.tables.Segment.{Segment}
use Rattle.slave_device.specs.declared.tables.Inputs.{Inputs}

abbrev pub kept_ordinal : Option Kept → Option ℕ
kept_ordinal None = None
kept_ordinal (Some k) = Some k.ordinal

-- what is kept of an input id
abbrev pub input_row : SlaveDesc → WiringState → ℕ → InputRow
input_row d w id = record {
  count = length (entries input id w.changes);
  size = sum_by width (input_types d id w.changes);
  source = source id w.changes;
  interval = entry_interval input id w.changes;
  base = base input id w.changes % 65536;
  kept = kept_ordinal (kept_under id w.kept);
}

-- where the value at a position stands in payloads with these types
abbrev pub segment_of : List DataType → Spot → Segment
segment_of types e = record { id = e.id; offset = sum_by width (take e.position types); kind = slice_index_or types e.position I64 }

abbrev pub segment_for : SlaveDesc → List Change → Option Spot → Option Segment
segment_for d changes None = None
segment_for d changes (Some e) = Some (segment_of (input_types d e.id changes) e)

-- a position is one of these types, and has this one
pub record IsPlaced (types : List DataType) (kind : DataType) (e : Spot) : Type 0 where
  pub before : List DataType
  pub after : List DataType
  pub split : types ≡ before ++ kind ∷ after
  pub position : e.position ≡ length before

-- what holds of the changes that are accepted and the payloads that are kept
pub record IsCoherent (d : SlaveDesc) (w : WiringState) : Type 0 where
  pub told : (id : ℕ) → has_id input id w.changes ≡ false → source id w.changes ≡ None
  pub none : (id : ℕ) → has_id input id w.changes ≡ false → kept_under id w.kept ≡ None
  pub placed : (vr : ℕ) (e : Spot) → spot vr w.changes ≡ Some e → IsPlaced (input_types d e.id w.changes) (port_type (port_with vr d.inputs)) e
  pub short : (id : ℕ) (k : Kept) → kept_under id w.kept ≡ Some k → length k.payload ≤ sum_by width (input_types d id w.changes)

-- what is kept of a slave's input ids and inputs
pub record AreInputs (d : SlaveDesc) (w : WiringState) (s : Inputs) : Type 0 where
  pub listed : s.ports.items ≡ d.inputs
  pub apart : AreApart d.inputs
  pub sorted : s.ids ≡ ids input w.changes
  pub rows : s.rows.items ≡ map (input_row d w) (ids input w.changes)
  pub segments : take (length d.inputs) s.segments ≡ map (λ port. segment_for d w.changes (spot port.vr w.changes)) d.inputs
  pub values : take (length d.inputs) s.values ≡ wired_values d w
  pub sound : IsCoherent d w

-- the value in a payload; 0 where the payload ends before it
abbrev pub segment_value : Segment → List ℕ → ℤ
segment_value s payload = if nat_le (s.offset + width s.kind) (length payload) then value_in s.kind (take (width s.kind) (drop s.offset payload)) else pos 0

-- the value of an input after a payload of an id
abbrev pub input_after : Option Segment → ℕ → List ℕ → ℤ → ℤ
input_after None id payload before = before
input_after (Some s) id payload before = if s.id == id then segment_value s payload else before

abbrev pub is_kept_for : ℕ → Option ℕ → Bool
is_kept_for ordinal None = false
is_kept_for ordinal (Some n) = n == ordinal

-- a data message is the next one of its id
abbrev pub wants : InputRow → Address → (number size steps : ℕ) → Bool
wants row from number size steps =
    (is_address row.source from
    && (size == row.size)
    && (number == (row.base + steps / row.interval) % 65536)
    && not (is_kept_for (steps / row.interval) row.kept))

-- a row after a restart
abbrev pub input_restarted : ℕ → InputRow → InputRow
input_restarted steps row = record row { base = (row.base + (steps / row.interval + 1)) % 65536; kept = None }
