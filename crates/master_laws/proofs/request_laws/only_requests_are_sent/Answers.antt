use Rattle.master_laws.proofs.Meets.Only.{only_requests}
use Rattle.master_laws.proofs.request_laws.only_requests_are_sent.Goals as goal

pub returns : goal.returns
returns c = only_requests
