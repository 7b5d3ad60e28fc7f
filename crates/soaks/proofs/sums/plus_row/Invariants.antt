-- The sum has the values so far.
use Rattle.std.proofs.Common.{◌≡◌, take}
use Rattle.std.specs.Prelude.{fold}
use Rattle.soaks.specs.Sums.{plus}
use Rattle.soaks.proofs.sums.plus_row.Given as goal

abbrev pub invariant-loop-value : goal.invariant-loop-value
invariant-loop-value l = l.all ≡ fold plus l.sum (take l.value-index l.values)
