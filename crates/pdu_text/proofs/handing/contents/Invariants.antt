use Rattle.std.proofs.Common.{◌≡◌, map, take}
use Rattle.pdu_layout.specs.Parts.{value_of}
use Rattle.pdu_text.specs.Contents.{value_of_said}
use Rattle.pdu_text.proofs.handing.contents.Given as goal

abbrev pub invariant-loop-value : goal.invariant-loop-value
invariant-loop-value l = map value_of l.out.items ≡ map value_of_said (take l.value-index l.values)
