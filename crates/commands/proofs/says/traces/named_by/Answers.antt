use Rattle.std.proofs.Common.{◌+◌, ◌≤◌, ◌^◌, arith}
use Rattle.std.proofs.Math.Pow.{pow_mono}
use Rattle.commands.proofs.says.traces.named_by.Goals as goal

pub overflow_cast-result : goal.overflow_cast-result
overflow_cast-result c =
    let most : 2 ^ (c.args.slaves + 1) ≤ 131072 = pow_mono {i = c.args.slaves + 1} {j = 17} (omega (arith, c.requires)) in
    omega (arith, c.pow.ensures, c.if-bits-pow.false, most)
