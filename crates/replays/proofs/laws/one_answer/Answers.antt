use Rattle.replays.proofs.Exclusive.{same_answer}
use Rattle.replays.proofs.laws.one_answer.Goals as goal

pub returns : goal.returns
returns c = same_answer
