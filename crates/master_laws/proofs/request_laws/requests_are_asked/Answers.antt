use Rattle.master_laws.proofs.Meets.Asking.{are_asked}
use Rattle.master_laws.proofs.request_laws.requests_are_asked.Goals as goal

pub returns : goal.returns
returns c = are_asked
