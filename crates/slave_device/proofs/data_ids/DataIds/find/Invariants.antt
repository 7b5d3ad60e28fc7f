use Rattle.std.proofs.Common.{ℕ, ◌<◌, get_or}
use Rattle.slave_device.proofs.data_ids.DataIds.find.Given as goal

abbrev pub invariant-loop-i : goal.invariant-loop-i
invariant-loop-i l = (k : ℕ) → k < l.i → get_or l.fn.self k 0 < l.id
