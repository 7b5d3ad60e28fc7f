use Rattle.std.proofs.Common.{◌≡◌, [], map, take, IsTrue}
use Rattle.std.specs.List.{All}
use Rattle.dcp_ends.specs.Logs.{IsInRange}
use Rattle.rounds.specs.Rounds.{EachEnd, IsLook, places_of}
use Rattle.rounds.specs.Steps.{AddsPart}
use Rattle.rounds.specs.Told.{AllTold}
use Rattle.rounds.proofs.all_ends.look_each.Given as goal

abbrev pub invariant-loop-end : goal.invariant-loop-end
invariant-loop-end g l =
    let rules = g.E.Seat.rules in
    record {
      is_open : IsTrue (g.N.Net.is_open l.net);
      opening : g.N.Net.opening l.net ≡ g.N.Net.opening l.fn.net;
      same : map rules l.ends ≡ map rules l.fn.ends;
      made : map g.E.Seat.made l.ends ≡ map g.E.Seat.made l.fn.ends;
      quiet : All (λ end. g.E.Seat.outs end ≡ []) l.ends;
      told : AllTold g.E.Seat.stands rules l.ends l.log.entries;
      looks : AddsPart g.N.Net.calls (EachEnd IsLook (take l.end-index (places_of (map rules l.fn.ends)))) l.fn.net l.net l.fn.log.entries l.log.entries;
      still : g.N.Net.count l.net ≡ g.N.Net.count l.fn.net;
      range : All IsInRange l.fn.log.entries → All IsInRange l.log.entries;
    }
