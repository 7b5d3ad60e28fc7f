use Rattle.std.proofs.Common.{refl, ap, map}
use Rattle.live_net.specs.declared.arrivals.Arrivals.{Arrivals}
use Rattle.live_net.specs.Connections.{inlet_of}
use Rattle.live_net.proofs.Leaving.{leaves_seen}
use Rattle.live_net.proofs.live_ends.LiveEnd.send.Goals as goal

pub returns-in-Tcp : goal.returns-in-Tcp
returns-in-Tcp g c =
    rw c.in-Tcp.is
    (record {
      place = c.send-in-Tcp.ensures.from;
      protocol = refl;
      inlets = ap (λ (a : Arrivals). map inlet_of a.connections.items) c.send-in-Tcp.ensures.arrivals;
      leaving = leaves_seen c.send-in-Tcp.result c.in-Tcp.end.departures.from c.args.to c.args.bytes.now c.in-Tcp.end.departures.outward.items c.send-in-Tcp.new.self.departures.outward.items c.send-in-Tcp.ensures.departs;
    })
