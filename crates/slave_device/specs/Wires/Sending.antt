-- What is kept of the output ids, by the changes so far.
use Rattle.std.specs.Prelude.{◌≡◌, ℕ, ◌%◌, ◌+◌, ◌/◌, false, List, map, reverse, None}
use Rattle.slave_desc.specs.declared.ports.Port.{Port}
use Rattle.slave_desc.specs.declared.descriptions.SlaveDesc.{SlaveDesc}
use Rattle.slave_spec.specs.Changes.{Change, output, entries, has_id, ids, target, entry_interval, base}
use Rattle.slave_device.specs.Wires.Ports.{place_with}
use Rattle.slave_device.specs.declared.tables.OutputRow.{OutputRow}
use Rattle.slave_device.specs.declared.tables.Outputs.{Outputs}

-- what is kept of an output id
abbrev pub output_row : List Port → List Change → ℕ → OutputRow
output_row ports changes id = record {
  places = map (place_with ports) (reverse (entries output id changes));
  target = target id changes;
  interval = entry_interval output id changes;
  base = base output id changes % 65536;
}

-- what is kept of a slave's output ids after these changes
pub record AreOutputs (d : SlaveDesc) (changes : List Change) (o : Outputs) : Type 0 where
  pub listed : o.ports.items ≡ d.outputs
  pub sorted : o.ids ≡ ids output changes
  pub rows : o.rows.items ≡ map (output_row d.outputs changes) (ids output changes)
  pub told : (id : ℕ) → has_id output id changes ≡ false → target id changes ≡ None

-- a row after a restart
abbrev pub row_restarted : ℕ → OutputRow → OutputRow
row_restarted steps row = record row { base = (row.base + (steps / row.interval + 1)) % 65536 }
