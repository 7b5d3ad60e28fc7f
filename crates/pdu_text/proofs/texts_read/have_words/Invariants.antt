use Rattle.std.proofs.Common.{◌≡◌, map, drop}
use Rattle.std.specs.List.{list_any}
use Rattle.pdu_text.specs.Lines.{has_words}
use Rattle.pdu_text.proofs.texts_read.have_words.Given as goal

abbrev pub invariant-loop-line : goal.invariant-loop-line
invariant-loop-line l = list_any has_words (map (λ x. x.now) (drop l.line-index l.lines)) ≡ list_any has_words (map (λ x. x.now) l.lines)
