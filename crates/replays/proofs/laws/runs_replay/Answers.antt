use Rattle.replays.proofs.Reported.{runs_go_through}
use Rattle.replays.proofs.laws.runs_replay.Goals as goal

pub returns : goal.returns
returns c = runs_go_through
