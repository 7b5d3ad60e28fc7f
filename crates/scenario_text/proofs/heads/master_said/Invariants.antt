use Rattle.std.proofs.Common.{◌≡◌, drop}
use Rattle.scenario_text.specs.Heads.{master_of_head, first_said}
use Rattle.scenario_text.proofs.heads.master_said.Given as goal

abbrev pub invariant-loop-item : goal.invariant-loop-item
invariant-loop-item l = first_said master_of_head (drop l.item-index l.said) ≡ first_said master_of_head l.said
