use Rattle.witness_laws.proofs.Shown.FirstPhases.{none_other, none_as_other, none_from_other, none_second}
use Rattle.witness_laws.proofs.refused.refusals_need_their_request.Goals as goal

pub returns-clause-number : goal.returns-clause-number
returns-clause-number c = none_other

pub returns-clause-sender : goal.returns-clause-sender
returns-clause-sender c = none_as_other

pub returns-clause-address : goal.returns-clause-address
returns-clause-address c = none_from_other

pub returns-clause-second : goal.returns-clause-second
returns-clause-second c = none_second
