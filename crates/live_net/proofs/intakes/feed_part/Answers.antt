use Rattle.live_net.proofs.Gathering.{middle}
use Rattle.live_net.proofs.intakes.feed_part.Goals as goal

pub returns-clause-receives : goal.returns-clause-receives
returns-clause-receives c = λ bytes grams before. rw (middle c.args.at c.args.end c.args.piece.now c.requires.from) (c.feed.ensures.receives bytes grams before)
