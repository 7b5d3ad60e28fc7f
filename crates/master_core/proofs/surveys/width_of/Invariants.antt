use Rattle.std.proofs.Common.{◌≡◌, ◌*◌, ◌≤◌, take}
use Rattle.master_core.specs.Talking.{outputs_width}
use Rattle.master_core.proofs.surveys.width_of.Given as goal

abbrev pub invariant-loop-talk : goal.invariant-loop-talk
invariant-loop-talk l = record {
  width : l.width ≡ outputs_width (take l.talk-index l.talks);
  few : l.width ≤ 8 * l.talk-index;
}
