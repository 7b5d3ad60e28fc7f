use Rattle.std.proofs.Common.{◌≡◌, map, drop}
use Rattle.desc_text.specs.Items.{parameters_said}
use Rattle.desc_text.proofs.Fronts.{with_front}
use Rattle.desc_text.proofs.items.parameters.Given as goal

abbrev pub invariant-loop-word : goal.invariant-loop-word
invariant-loop-word l = with_front l.numbers.items (parameters_said (map (λ w. w.now) (drop l.word-index l.args))) ≡ parameters_said (map (λ w. w.now) l.args)
