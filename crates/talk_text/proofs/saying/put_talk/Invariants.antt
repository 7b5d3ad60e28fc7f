use Rattle.std.proofs.Common.{◌≡◌, List, []}
use Rattle.dcp_ends.specs.Events.{Event}
use Rattle.talk_text.proofs.Sayings.{Going}
use Rattle.talk_text.proofs.saying.put_talk.Given as goal

abbrev pub invariant-loop-event : goal.invariant-loop-event
invariant-loop-event g l = record {
  quiet : g.E.End.outs l.end ≡ [];
  rules : g.E.End.rules l.end ≡ g.E.End.rules l.fn.end;
  going : (before : List Event) → g.E.End.stands l.fn.end before → Going (g.E.End.rules l.fn.end) (g.E.End.stands l.end) l.events l.event-index before l.fn.text.items l.text.items;
}
