use Rattle.slave_laws.proofs.Data.Ended.{ended_alive}
use Rattle.slave_laws.proofs.data_laws.sessions_end_alive.Goals as goal

pub returns : goal.returns
returns c = ended_alive
