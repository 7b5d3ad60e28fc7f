-- A front of what waited has been written, and no write failed.
use Rattle.std.proofs.Common.{◌≡◌, length}
use Rattle.stream_frame.specs.Links.{Sent}
use Rattle.stream_frame.proofs.links.Link.flush.Given as goal

abbrev pub invariant-writing : goal.invariant-writing
invariant-writing g l = record {
  sent : Sent (g.K.Sink.written l.fn.self.sink) (g.K.Sink.written l.self.sink) l.fn.self.waits l.self.waits;
  no_fault : g.K.Sink.faults l.self.sink ≡ g.K.Sink.faults l.fn.self.sink;
}

abbrev pub decreases-writing : goal.decreases-writing
decreases-writing g l = length l.self.waits
