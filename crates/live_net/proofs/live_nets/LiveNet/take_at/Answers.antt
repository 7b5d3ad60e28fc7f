use Rattle.live_net.specs.Live.{TakesBy}
use Rattle.live_net.proofs.Ends.{at_end, takes_at}
use Rattle.live_net.proofs.live_nets.LiveNet.take_at.Goals as goal

pub returns-in-Some-clause-takes : goal.returns-in-Some-clause-takes
returns-in-Some-clause-takes g c =
    takes_at c.args.at c.take.result c.take.new.room c.args.self.now _ c.in-Some.i c.in-Some.ensures.place
    (at_end (TakesBy c.take.result c.take.new.room) c.args.self.now c.self.inside.all.value.items c.self.inside.ends.items c.in-Some.i c.self.inside.faults c.index_mut.result.now c.take.new.self
    c.self.view_is c.in-Some.ensures.within c.index_mut.ensures.value c.take.ensures.takes)
