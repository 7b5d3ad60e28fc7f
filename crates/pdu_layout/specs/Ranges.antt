-- Whether values have a spelling in the fields of a layout.
use Rattle.std.specs.Prelude.{ℕ, ◌≤◌, List, length}
use Rattle.pdu_layout.specs.declared.fields.FieldKind.{FieldKind}
use Rattle.pdu_layout.specs.Fields.{FieldValue, FitEach, spelled}

-- The values fit the fields, and with the type code they are 1,024 bytes at most.
abbrev pub Fill : List FieldKind → List FieldValue → Type 0
Fill kinds values = FitEach kinds 0 values × (length (spelled kinds 0 values) ≤ 1023)
