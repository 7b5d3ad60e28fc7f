use Rattle.std.proofs.Common.{◌≡◌, ◌-◌, ◌≤◌, take, length, IsTrue}
use Rattle.dcp_ends.specs.Logs.{IsInRange, sent_by}
use Rattle.std.specs.List.{All}
use Rattle.rounds.specs.Steps.{Added}
use Rattle.rounds.proofs.one_end.send_outgoing.Given as goal

abbrev pub invariant-sends : goal.invariant-sends
invariant-sends g l =
    record {
      in_range : l.i ≤ length (g.E.Seat.outs l.end);
      is_open : IsTrue (g.N.Net.is_open l.net);
      opening : g.N.Net.opening l.net ≡ g.N.Net.opening l.fn.net;
      added : Added g.N.Net.calls l.fn.net l.net l.fn.log.entries l.log.entries (sent_by (g.E.Seat.rules l.end).place (take l.i (g.E.Seat.outs l.end)));
      still : g.N.Net.count l.net ≡ g.N.Net.count l.fn.net;
      range : All IsInRange l.fn.log.entries → All IsInRange l.log.entries;
    }

abbrev pub decreases-sends : goal.decreases-sends
decreases-sends g l = length (g.E.Seat.outs l.end) - l.i
