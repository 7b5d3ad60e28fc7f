use Rattle.std.proofs.Common.{◌≡◌, ◌+◌, ◌-◌, ◌≤◌, ◌++◌, take, length}
use Rattle.dcp_ends.specs.Logs.{sent_by}
use Rattle.replays.proofs.sends.past_sends.Given as goal

abbrev pub invariant-sends : goal.invariant-sends
invariant-sends g l =
    record {
      in_range : l.count ≤ length (g.E.End.outs l.end);
      entries : l.cursor.entries ≡ l.fn.cursor.entries;
      place : l.cursor.at ≡ l.fn.cursor.at + l.count;
      within : l.cursor.at ≤ length l.fn.cursor.entries;
      there : take l.cursor.at l.fn.cursor.entries ≡ take l.fn.cursor.at l.fn.cursor.entries ++ sent_by (g.E.End.rules l.end).place (take l.count (g.E.End.outs l.end));
    }

abbrev pub decreases-sends : goal.decreases-sends
decreases-sends g l = length (g.E.End.outs l.end) - l.count
