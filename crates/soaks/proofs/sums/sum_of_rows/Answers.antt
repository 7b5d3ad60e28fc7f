use Rattle.std.proofs.Common.{◌≡◌, ◌+◌, ◌<◌, [], List, Option, Some, length, take, sym, ap, ◌∙◌, arith, rules, to_z}
use Rattle.std.specs.Borrow.{Bor}
use Rattle.std.specs.Int.{w128}
use Rattle.std.specs.Prelude.{ℤ, pos, fold, option_map, reverse, slice_get}
use Rattle.std.proofs.lemmas.Int.{to_z-of_z}
use Rattle.std.proofs.lemmas.List.{take_all}
use Rattle.std.proofs.lemmas.Option.{none-some, slice_get-get_or}
use Rattle.master_spec.specs.Course.{course}
use Rattle.master_core.specs.Standing.{core_setup}
use Rattle.soaks.specs.Sums.{plus, row_values}
use Rattle.soaks.proofs.Adding.{all_is, row_more}
use Rattle.soaks.proofs.sums.sum_of_rows.Goals as goal
use Rattle.soaks.proofs.sums.sum_of_rows.Goals.{in-Some, in_default}

pub loop-k-preserved : goal.loop-k-preserved
loop-k-preserved c = λ events stands.
    let k = c.loop-k.k in
    let rows = (course (core_setup c.args.master.now) (reverse events)).rows in
    let seen : Option (Bor (List ℤ)) → Option (List ℤ) = λ o. option_map (λ values. values.now) o in
    let sum = fold plus (pos 0) (row_values (take (k + 1) rows)) in
    elim c.match-row_values.branch [
      | in-Some w ↦
          let row = w.in-Some.values.now in
          let there : slice_get rows k ≡ Some row = sym (c.row_values.ensures events stands) ∙ ap seen w.in-Some.is in
          w.all-is
          ∙ to_z-of_z w128 w.plus_row-all.result (search rules)
          ∙ w.plus_row-all.ensures
          ∙ ap (λ (z : ℤ). fold plus z row) (c.loop-k.invariant events stands)
          ∙ row_more (pos 0) rows k row there
      | in_default w ↦
          let within : k < length rows = omega (arith, c.loop-k-test.true, c.rows-k-end.ensures events stands) in
          absurd {A = to_z w128 c.match-row_values.all-bits ≡ sum} (none-some _ (sym (ap seen w.in_default.is) ∙ c.row_values.ensures events stands ∙ slice_get-get_or rows k [] within))
    ]

pub returns : goal.returns
returns c = λ events stands.
    let rows = (course (core_setup c.args.master.now) (reverse events)).rows in
    c.loop-k.invariant events stands
    ∙ ap (λ (l : List (List ℤ)). fold plus (pos 0) (row_values l)) (take_all c.loop-k.k rows (omega (arith, c.loop-k-test.false, c.rows-k-end.ensures events stands)))
    ∙ all_is (row_values rows)
