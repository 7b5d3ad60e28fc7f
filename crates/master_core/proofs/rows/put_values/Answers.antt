use Rattle.std.proofs.Common.{◌∙◌, ap, sym, length, subst, ℕ, ◌<◌, ◌++◌, ◌∷◌, [], rules, FitsSigned}
use Rattle.std.specs.Prelude.{ℤ}
use Rattle.std.proofs.lemmas.Int.{to_z-of_z}
use Rattle.std.specs.Int.{w128}
use Rattle.master_core.proofs.Putting.{values_step, piece_is}
use Rattle.master_core.proofs.Payloads.{size_next, small_next}
use Rattle.master_core.proofs.rows.put_values.Goals as goal

pub loop-kind-preserved : goal.loop-kind-preserved
loop-kind-preserved c = record {
  place = size_next c.args.types.now c.loop-kind.kind-index _ _ _ c.loop-kind-test.true c.loop-kind.invariant.place c.width.ensures;
  few = small_next _ _ _ _ c.loop-kind.invariant.few c.width.ensures;
  items = values_step c.args.types.now c.loop-kind.kind-index _ c.args.payload.now _ c.args.values.now.items c.loop-kind.values.items c.put.new.values.items c.get_value.result _ c.loop-kind.at c.loop-kind-test.true c.loop-kind.invariant.place (piece_is _ _ _ c.args.payload.now c.width.ensures) c.get_value.ensures.fits c.get_value.ensures.bytes c.loop-kind.invariant.items
      (λ h. let wide : FitsSigned w128 c.get_value.result = search rules in c.put.ensures.items (subst (λ (n : ℕ). length c.loop-kind.values.items < n) (sym c.loop-kind.invariant.room) h) ∙ ap (λ (z : ℤ). c.loop-kind.values.items ++ z ∷ []) (to_z-of_z w128 c.get_value.result wide));
  room = c.put.ensures.room ∙ c.loop-kind.invariant.room;
}
