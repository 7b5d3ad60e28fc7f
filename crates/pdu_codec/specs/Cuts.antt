-- The bytes of a message, cut into its fields.
use Rattle.std.specs.Prelude.{◌≡◌, ℕ, ◌<◌, ◌≤◌, List, length, slice_index}
use Rattle.pdu_layout.specs.declared.fields.FieldKind.{FieldKind}
use Rattle.pdu_codec.specs.Pieces.{AreEnds}

-- The bytes begin with the code, are 1,024 at most, and fields of these kinds fill the rest and end there.
abbrev pub IsCut : ℕ → List FieldKind → List ℕ → List ℕ → Type 0
IsCut code kinds b ends = (0 < length b) × (slice_index b 0 ≡ code) × (length b ≤ 1024) × AreEnds kinds 0 b 1 ends
