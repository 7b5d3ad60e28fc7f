use Rattle.std.proofs.Common.{◌≡◌, length}
use Rattle.part_tests.proofs.models.tell_acts.Given as goal

-- no act changes the kind, nor how many outputs and parameters there are
abbrev pub invariant-loop-letter : goal.invariant-loop-letter
invariant-loop-letter l = record {
  kind : l.model.kind ≡ l.fn.acts.kind;
  outputs : length l.model.types ≡ l.fn.acts.outputs;
  parameters : length l.model.parameters ≡ l.fn.acts.parameters;
}
