use Rattle.std.proofs.Common.{add-one}
use Rattle.net_world.specs.declared.watches.Watch.{Watch}
use Rattle.net_world.specs.Watches.{watch_counted}
use Rattle.net_world.proofs.Watched.{mapped-at, mapped-step}
use Rattle.net_world.proofs.watches.count.Goals as goal

pub loop-watch-preserved : goal.loop-watch-preserved
loop-watch-preserved c =
    let f = λ (w : Watch). watch_counted c.args.all.now c.args.from c.args.bytes.now w in
    rw (c.watch_counted.ensures, c.loop-watch.invariant, mapped-at f c.args.watches.now c.loop-watch.watch-index _ c.loop-watch-test.true, add-one c.loop-watch.watch-index)
    (mapped-step f c.args.watches.now c.loop-watch.watch-index _ c.loop-watch-test.true)
