use Rattle.std.proofs.Common.{sym, arith}
use Rattle.std.proofs.lemmas.List.{append-nil}
use Rattle.host.proofs.Places.{places_step}
use Rattle.host.proofs.openings.hosted_places.Goals.{then-has+in_ok-push-2, else-has}
use Rattle.host.proofs.openings.hosted_places.Goals as goal

pub loop-desc-preserved : goal.loop-desc-preserved
loop-desc-preserved c = record {
  places = elim c.if-has.branch [
    | then-has+in_ok-push-2 w ↦ places_step _ c.loop-desc.places.items _ c.args.hosted _ c.loop-desc.desc-index c.desc-item.result c.loop-desc.slave c.has.result c.loop-desc-test.true c.loop-desc.invariant.slave c.has.ensures c.desc-item.is c.loop-desc.invariant.places (rw (w.if-has.true, w.places-is) w.in_ok-push-2.ensures.items)
    | else-has w ↦ places_step _ c.loop-desc.places.items _ c.args.hosted _ c.loop-desc.desc-index c.desc-item.result c.loop-desc.slave c.has.result c.loop-desc-test.true c.loop-desc.invariant.slave c.has.ensures c.desc-item.is c.loop-desc.invariant.places (rw (w.if-has.false, w.places-is) (sym (append-nil _)))
  ];
  slave = omega (arith, c.loop-desc.invariant.slave);
}
