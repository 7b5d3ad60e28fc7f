use Rattle.witness_laws.proofs.Shown.FirstPhases.{none_before}
use Rattle.witness_laws.proofs.refused.refusals_need_their_phase.Goals as goal

pub returns : goal.returns
returns c = none_before
