use Rattle.dcp_ends.specs.Logs.{same_address}
use Rattle.live_net.specs.Live.{SocketEnd, socket_end}
use Rattle.live_net.proofs.Places.{position-map}
use Rattle.live_net.proofs.live_nets.LiveNet.find.Goals as goal

pub returns-clause-place : goal.returns-clause-place
returns-clause-place g c =
    rw (← c.self.view_is, position-map (λ (e : SocketEnd). same_address e.place c.args.at) socket_end c.self.inside.ends.items, ← c.deref.ensures.value)
    c.place_in.ensures.place
