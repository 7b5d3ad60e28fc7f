use Rattle.std.proofs.Common.{◌+◌, ◌≤◌, ◌^◌, arith}
use Rattle.std.proofs.Math.Pow.{pow_mono}
use Rattle.run_text.proofs.traces.bits_of.Goals as goal

pub returns-clause-few : goal.returns-clause-few
returns-clause-few c =
    let most : 2 ^ (c.args.slaves + 1) ≤ 131072 = pow_mono {i = c.args.slaves + 1} {j = 17} (omega (arith, c.requires)) in
    omega (arith, c.pow.ensures, most)
