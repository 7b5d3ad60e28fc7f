use Rattle.slave_laws.proofs.Data.Asking.{asks_requests}
use Rattle.slave_laws.proofs.whole.masters_ask_requests.Goals as goal

pub returns : goal.returns
returns c = asks_requests
