use Rattle.std.proofs.Common.{take}
use Rattle.std.proofs.lemmas.List.{drop-drop}
use Rattle.live_net.proofs.Gathering.{fed_more}
use Rattle.live_net.proofs.intakes.Intake.feed.Goals as goal

pub returns : goal.returns
returns g c = record {
  gathers = λ start grams. rw (← drop-drop c.feed_part.result c.self.inside.at (take c.self.inside.end c.self.inside.piece), ← c.self.view_is)
      (λ before. fed_more c.feed_part.result c.feed_part.ensures.receives before);
}
