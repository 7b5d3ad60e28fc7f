use Rattle.std.proofs.Common.{◌≡◌, drop}
use Rattle.scenario_text.specs.Heads.{protocol_in, first_said}
use Rattle.scenario_text.proofs.heads.protocol_said.Given as goal

abbrev pub invariant-loop-item : goal.invariant-loop-item
invariant-loop-item l = first_said protocol_in (drop l.item-index l.said) ≡ first_said protocol_in l.said
