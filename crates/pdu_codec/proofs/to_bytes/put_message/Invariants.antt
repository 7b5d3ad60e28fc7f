use Rattle.std.proofs.Common.{length, take, map}
use Rattle.dcp_types.specs.Codes.{type_code}
use Rattle.pdu_layout.specs.Table.{kinds_of}
use Rattle.pdu_layout.specs.Parts.{value_of}
use Rattle.pdu_codec.proofs.Writing.{Written}
use Rattle.pdu_codec.proofs.to_bytes.put_message.Given as goal

abbrev pub invariant-loop-i : goal.invariant-loop-i
invariant-loop-i l = Written (kinds_of l.fields) (map value_of (take (length l.fields) l.contents)) (type_code l.last) l.at l.i l.code l.fn.room l.room
