use Rattle.std.proofs.Common.{◌≡◌, ◌≤◌, length, take, map}
use Rattle.dcp_types.specs.Codes.{type_code}
use Rattle.pdu_layout.specs.Table.{kinds_of}
use Rattle.pdu_layout.specs.Parts.{value_of}
use Rattle.pdu_layout.proofs.Contents.{Judged}
use Rattle.pdu_layout.proofs.ranges.fit.Given as goal

abbrev pub invariant-loop-i : goal.invariant-loop-i
invariant-loop-i l = Judged (kinds_of l.fields) (map value_of (take (length l.fields) l.contents)) (type_code l.last) l.at l.i
