-- No message was handed out since the call began.
use Rattle.std.proofs.Common.{ℕ, List, Option}
use Rattle.live_net.specs.Intakes.{Gathers}
use Rattle.live_net.proofs.intakes.Intake.next.Given as goal

abbrev pub invariant-loop : goal.invariant-loop
invariant-loop g l =
    (start : Option (List ℕ)) (grams : List (List ℕ))
    → Gathers start (g.S.Source.left l.fn.self.source) l.fn.self.inlet l.fn.self.held grams
    → Gathers start (g.S.Source.left l.self.source) l.self.inlet l.self.held grams
