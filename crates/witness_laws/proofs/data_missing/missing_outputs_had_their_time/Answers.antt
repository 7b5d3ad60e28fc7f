use Rattle.witness_laws.proofs.Shown.LaterPhases.{none_awaited, none_at_last}
use Rattle.witness_laws.proofs.data_missing.missing_outputs_had_their_time.Goals as goal

pub returns-clause-awaited : goal.returns-clause-awaited
returns-clause-awaited c = none_awaited

pub returns-clause-came : goal.returns-clause-came
returns-clause-came c = none_at_last
