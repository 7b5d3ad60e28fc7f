use Rattle.lockstep_laws.proofs.Models.Moments.{data_carry, steps_on}
use Rattle.lockstep_laws.proofs.model_laws.data_carry_rows.Goals as goal

pub returns-clause-sent : goal.returns-clause-sent
returns-clause-sent c w x m ok are rows fault ref later log b = data_carry w x m ok are rows fault ref later log b

pub returns-clause-used : goal.returns-clause-used
returns-clause-used c w x m ok are rows fault ref later log b = steps_on w x m ok are rows fault ref later log b
