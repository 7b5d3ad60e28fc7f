use Rattle.std.proofs.Common.{◌≡◌, List, map, take, true}
use Rattle.std.specs.List.{list_all}
use Rattle.dcp_ends.specs.declared.entries.LogEntry.{LogEntry}
use Rattle.rounds.specs.Told.{AllTold}
use Rattle.host.specs.Views.{rules_are_over}
use Rattle.host.proofs.over.are_over.Given as goal

abbrev pub invariant-loop-seat : goal.invariant-loop-seat
invariant-loop-seat g l = (log : List LogEntry) → AllTold g.S.Seat.stands g.S.Seat.rules l.slaves log → list_all (rules_are_over log) (take l.seat-index (map g.S.Seat.rules l.slaves)) ≡ true
