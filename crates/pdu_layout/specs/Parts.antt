-- A message in parts: its layout, and the contents of its fields.
use Rattle.std.specs.Prelude.{◌≡◌, ℕ, ◌≤◌, List, map, length, take, Some}
use Rattle.pdu_layout.specs.declared.message_parts.FieldContent.{FieldContent}
use Rattle.pdu_layout.specs.declared.message_parts.FieldContent.TheVariants as contents
use Rattle.pdu_layout.specs.declared.message_parts.Parts.{Parts}
use Rattle.pdu_layout.specs.Fields.{FieldValue}
use Rattle.pdu_layout.specs.Fields.FieldValue.{Number, Signed, Bytes}
use Rattle.pdu_layout.specs.Table.{row_of, rows_of}
use Rattle.pdu_layout.specs.Message.{Message}

abbrev pub value_of : FieldContent → FieldValue
value_of (contents.Number n) = Number n
value_of (contents.Signed z) = Signed z
value_of (contents.Bytes bytes) = Bytes bytes.now

-- what the fields hold, as many as the layout has
abbrev pub values_of : Parts → List FieldValue
values_of parts = map value_of (take (length parts.fields.now) parts.contents)

-- The code, the name and the fields are a row of the table, and with the contents they are the message.
pub record AreParts (p : Message) (parts : Parts) : Type 0 where
  pub row : row_of parts.code ≡ Some (record { code = parts.code; name = parts.name.now; fields = rows_of parts.fields.now })
  pub message : p ≡ record { code = parts.code; values = values_of parts }
  pub few : length parts.fields.now ≤ 7
