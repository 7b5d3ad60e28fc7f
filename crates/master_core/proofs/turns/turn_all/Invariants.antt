use Rattle.std.specs.Prelude.{Some}
use Rattle.master_spec.specs.Marks.{Turned}
use Rattle.master_core.proofs.Progress.{Progress}
use Rattle.master_core.proofs.turns.turn_all.Given as goal

abbrev pub invariant-loop-talk : goal.invariant-loop-talk
invariant-loop-talk l = Progress (λ now. now) (λ talk. Some (Turned l.settled)) (λ now. Unit {0}) l.talk-index l.fn.talks.items l.talk-items l.fn.out l.out
