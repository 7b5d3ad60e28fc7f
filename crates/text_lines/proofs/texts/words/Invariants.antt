use Rattle.std.proofs.Common.{◌≡◌, map, take}
use Rattle.std.specs.Prelude.{filter}
use Rattle.text_lines.specs.Texts.{is_word}
use Rattle.text_lines.proofs.texts.words.Given as goal

abbrev pub invariant-loop-part : goal.invariant-loop-part
invariant-loop-part l = map (λ w. w.now) l.out.items ≡ filter is_word (map (λ w. w.now) (take l.part-index l.part-items))
