use Rattle.std.proofs.Common.{◌≡◌, ◌-◌, ◌≤◌, ◌++◌, take, length}
use Rattle.talk_text.specs.Saying.{lines_shown}
use Rattle.talk_text.proofs.saying.put_outgoing.Given as goal

abbrev pub invariant-sends : goal.invariant-sends
invariant-sends g l = record {
  in_range : l.i ≤ length (g.E.End.outs l.end);
  put : l.text.items ≡ l.fn.text.items ++ lines_shown (take l.i (g.E.End.outs l.end));
}

abbrev pub decreases-sends : goal.decreases-sends
decreases-sends g l = length (g.E.End.outs l.end) - l.i
