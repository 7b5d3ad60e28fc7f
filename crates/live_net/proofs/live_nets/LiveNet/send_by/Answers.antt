use Rattle.live_net.specs.Live.{SendsBy}
use Rattle.live_net.proofs.Ends.{at_end, sends_from}
use Rattle.live_net.proofs.live_nets.LiveNet.send_by.Goals as goal

pub returns-in-Some-clause-sends : goal.returns-in-Some-clause-sends
returns-in-Some-clause-sends g c =
    sends_from c.args.from c.args.to c.args.bytes.now c.send.result c.args.self.now _ c.in-Some.i c.in-Some.ensures.place
    (at_end (SendsBy c.args.to c.args.bytes.now c.send.result) c.args.self.now c.self.inside.all.value.items c.self.inside.ends.items c.in-Some.i c.self.inside.faults c.index_mut.result.now c.send.new.self
    c.self.view_is c.in-Some.ensures.within c.index_mut.ensures.value c.send.ensures)
