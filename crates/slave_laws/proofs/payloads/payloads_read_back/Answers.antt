use Rattle.slave_laws.proofs.Wiring.Back.{read_back}
use Rattle.slave_laws.proofs.payloads.payloads_read_back.Goals as goal

pub returns : goal.returns
returns c = read_back
