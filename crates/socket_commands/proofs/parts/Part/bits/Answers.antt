use Rattle.std.proofs.Common.{◌+◌, ◌≤◌, ◌^◌, arith}
use Rattle.std.proofs.Math.Pow.{pow_mono}
use Rattle.socket_commands.proofs.parts.Part.bits.Goals as goal

pub returns-in-All-clause-few : goal.returns-in-All-clause-few
returns-in-All-clause-few c =
    let most : 2 ^ (c.args.slaves + 1) ≤ 131072 = pow_mono {i = c.args.slaves + 1} {j = 17} (omega (arith, c.requires.slaves)) in
    omega (arith, c.pow.ensures, most)
