use Rattle.std.proofs.Common.{◌≡◌, ◌-◌, ◌≤◌, take, length}
use Rattle.net_tests.proofs.traces.log_again.Given as goal

abbrev pub invariant-entries : goal.invariant-entries
invariant-entries l = record {
  within : l.cursor.at ≤ length l.entries;
  same : l.cursor.entries ≡ l.entries;
  copied : l.log.entries ≡ take l.cursor.at l.entries;
}

abbrev pub decreases-entries : goal.decreases-entries
decreases-entries l = length l.entries - l.cursor.at
