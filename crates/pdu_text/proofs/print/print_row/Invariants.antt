use Rattle.std.proofs.Common.{◌≡◌, ◌++◌, map, drop, string_bytes}
use Rattle.pdu_layout.specs.Parts.{value_of}
use Rattle.pdu_layout.specs.Table.{rows_of}
use Rattle.pdu_text.specs.Printed.{row_line, fields_text}
use Rattle.pdu_text.proofs.print.print_row.Given as goal

abbrev pub invariant-loop-i : goal.invariant-loop-i
invariant-loop-i l = string_bytes l.out ++ fields_text (rows_of (drop l.i l.fields)) (map value_of (drop l.i l.contents)) ≡ row_line l.name (rows_of l.fields) (map value_of l.contents)
