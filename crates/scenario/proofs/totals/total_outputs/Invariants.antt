use Rattle.std.proofs.Common.{◌≡◌, ◌*◌, ◌-◌, ◌^◌, ◌≤◌, take}
use Rattle.scenario.specs.Totals.{total_outputs}
use Rattle.scenario.proofs.totals.total_outputs.Given as goal

abbrev pub invariant-loop-slave : goal.invariant-loop-slave
invariant-loop-slave l = record {
  sum : l.total ≡ total_outputs (take l.slave-index l.slaves);
  small : l.total ≤ (2 ^ 64 - 1) * l.slave-index;
}
