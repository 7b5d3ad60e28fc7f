use Rattle.std.proofs.Common.{◌≡◌, ◌-◌, ◌≤◌, map, take, length}
use Rattle.std.specs.Option.{option_map}
use Rattle.replays.specs.Expected.{AreRight}
use Rattle.replays.specs.Visits.{AreAt}
use Rattle.replays.proofs.going.go_through.Given as goal

abbrev pub invariant-entries : goal.invariant-entries
invariant-entries g l =
    record {
      entries : l.cursor.entries ≡ l.entries;
      within : l.cursor.at ≤ length l.entries;
      rules_master : option_map g.M.End.rules l.master ≡ option_map g.M.End.rules l.fn.master;
      rules_slaves : map g.S.End.rules l.slaves ≡ map g.S.End.rules l.fn.slaves;
      made : option_map g.M.End.made l.master ≡ option_map g.M.End.made l.fn.master;
      right : AreRight (option_map g.M.End.rules l.fn.master) (map g.S.End.rules l.fn.slaves) (take l.cursor.at l.entries);
      ends : AreAt g.M.End g.S.End l.master l.slaves (take l.cursor.at l.entries);
    }

abbrev pub decreases-entries : goal.decreases-entries
decreases-entries g l = length l.entries - l.cursor.at
