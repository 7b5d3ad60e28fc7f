use Rattle.std.proofs.Common.{◌≡◌, map, drop}
use Rattle.pdu_layout.specs.Table.{rows_of}
use Rattle.pdu_text.specs.Contents.{value_of_said}
use Rattle.pdu_text.specs.Machine.{fields_said}
use Rattle.pdu_text.proofs.Fronts.{with_front}
use Rattle.pdu_text.proofs.line_fields.read_fields.Given as goal

abbrev pub invariant-loop-field : goal.invariant-loop-field
invariant-loop-field l = with_front (map value_of_said l.values.items) (fields_said (rows_of (drop l.field-index l.fields)) l.room l.last l.more (map (λ w. w.now) l.rest)) ≡ fields_said (rows_of l.fields) 1023 0 l.more (map (λ w. w.now) l.words)
