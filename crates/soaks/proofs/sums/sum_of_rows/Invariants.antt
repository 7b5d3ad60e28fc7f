-- The sum has the rows so far.
use Rattle.std.proofs.Common.{◌≡◌, List, take}
use Rattle.std.specs.Prelude.{pos, fold, reverse}
use Rattle.dcp_ends.specs.Events.{Event}
use Rattle.master_spec.specs.Course.{course}
use Rattle.master_core.specs.Standing.{StandsAfter, core_setup}
use Rattle.soaks.specs.Sums.{plus, row_values}
use Rattle.soaks.proofs.sums.sum_of_rows.Given as goal

abbrev pub invariant-loop-k : goal.invariant-loop-k
invariant-loop-k l = (events : List Event) → StandsAfter l.master events → l.all ≡ fold plus (pos 0) (row_values (take l.k (course (core_setup l.master) (reverse events)).rows))
