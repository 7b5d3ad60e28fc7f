use Rattle.std.proofs.Common.{◌≡◌, [], IsTrue}
use Rattle.std.specs.List.{All}
use Rattle.dcp_ends.specs.Logs.{IsInRange}
use Rattle.rounds.specs.Rounds.{Gots}
use Rattle.rounds.specs.Steps.{AddsPart}
use Rattle.rounds.specs.Told.{IsTold}
use Rattle.rounds.proofs.one_end.look.Given as goal

abbrev pub invariant-looks : goal.invariant-looks
invariant-looks g l =
    let rules = g.E.Seat.rules l.fn.end in
    record {
      is_open : IsTrue (g.N.Net.is_open l.net);
      opening : g.N.Net.opening l.net ≡ g.N.Net.opening l.fn.net;
      made : g.E.Seat.made l.end ≡ g.E.Seat.made l.fn.end;
      same : g.E.Seat.rules l.end ≡ rules;
      quiet : g.E.Seat.outs l.end ≡ [];
      told : IsTold g.E.Seat.stands rules l.end l.log.entries;
      gots : AddsPart g.N.Net.calls (Gots rules.place l._got) l.fn.net l.net l.fn.log.entries l.log.entries;
      still : g.N.Net.count l.net ≡ g.N.Net.count l.fn.net;
      range : All IsInRange l.fn.log.entries → All IsInRange l.log.entries;
    }
