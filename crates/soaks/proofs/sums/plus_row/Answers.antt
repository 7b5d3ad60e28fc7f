use Rattle.std.proofs.Common.{◌≡◌, ◌+◌, ◌%◌, ap, ◌∙◌, get_or, rules, to_z, of_z}
use Rattle.std.specs.Int.{w128}
use Rattle.std.specs.Prelude.{ℤ, pos}
use Rattle.std.proofs.lemmas.Int.{wraps}
use Rattle.soaks.specs.Sums.{plus}
use Rattle.soaks.proofs.Adding.{value_more}
use Rattle.soaks.proofs.sums.plus_row.Goals as goal

pub loop-value-preserved : goal.loop-value-preserved
loop-value-preserved c =
    let values = c.args.values.now in
    let i = c.loop-value.value-index in
    let value = get_or values i (pos 0) in
    let all = c.loop-value.all-bits in
    let more : to_z w128 ((all + of_z w128 value) % 340282366920938463463374607431768211456) ≡ plus (to_z w128 all) value = search (rules, wraps) in
    more ∙ ap (λ (z : ℤ). plus z value) c.loop-value.invariant ∙ value_more (to_z w128 (of_z w128 c.args.sum)) values i c.loop-value-test.true
