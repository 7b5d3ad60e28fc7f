use Rattle.std.proofs.Common.{◌≡◌, drop}
use Rattle.scenario_text.specs.Heads.{number_in, first_said}
use Rattle.scenario_text.proofs.heads.number_said.Given as goal

abbrev pub invariant-loop-item : goal.invariant-loop-item
invariant-loop-item l = first_said (number_in l.key) (drop l.item-index l.said) ≡ first_said (number_in l.key) l.said
