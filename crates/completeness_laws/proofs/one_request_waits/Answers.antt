use Rattle.completeness_laws.proofs.Quiet.Once.{one_request}
use Rattle.completeness_laws.proofs.one_request_waits.Goals as goal

pub returns : goal.returns
returns c = one_request
