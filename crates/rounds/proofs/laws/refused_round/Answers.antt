use Rattle.rounds.proofs.Prefix.{round_begins}
use Rattle.rounds.proofs.laws.refused_round.Goals as goal

pub returns : goal.returns
returns c = round_begins
