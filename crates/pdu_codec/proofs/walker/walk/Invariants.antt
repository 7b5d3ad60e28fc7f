use Rattle.std.proofs.Common.{◌≡◌, length}
use Rattle.dcp_types.specs.Codes.{type_code}
use Rattle.pdu_layout.specs.Table.{kinds_of}
use Rattle.pdu_codec.proofs.Walk.{Walked}
use Rattle.pdu_codec.proofs.walker.walk.Given as goal

abbrev pub invariant-loop-i : goal.invariant-loop-i
invariant-loop-i g l = record {
  walked : Walked (kinds_of l.fields) l.bytes l.ends l.i l.at (type_code l.last);
  size : length l.ends ≡ g.row.N;
}
