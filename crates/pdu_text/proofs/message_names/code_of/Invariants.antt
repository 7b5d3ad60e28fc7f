use Rattle.std.proofs.Common.{◌≡◌, ◌-◌}
use Rattle.pdu_text.specs.Lines.{code_named}
use Rattle.pdu_text.specs.Scan.{code_among}
use Rattle.pdu_text.proofs.message_names.code_of.Given as goal

abbrev pub invariant-loop-code : goal.invariant-loop-code
invariant-loop-code l = code_among (256 - l.code) l.code l.word ≡ code_named l.word
