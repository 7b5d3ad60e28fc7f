use Rattle.std.proofs.Common.{◌≡◌, ◌++◌, take, drop, map}
use Rattle.slave_device.specs.Wires.Receiving.{input_restarted}
use Rattle.slave_device.proofs.tables.Inputs.restart.Given as goal

abbrev pub invariant-loop-row : goal.invariant-loop-row
invariant-loop-row l = l.row-items ≡ map (input_restarted l.fn.steps) (take l.row-index l.initial.row-items) ++ drop l.row-index l.initial.row-items
