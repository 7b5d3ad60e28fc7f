use Rattle.run_laws.proofs.Rounded.{rounds_are_runs}
use Rattle.run_laws.proofs.whole_rounds.rounds_are_runs.Goals as goal

pub returns : goal.returns
returns c = rounds_are_runs
