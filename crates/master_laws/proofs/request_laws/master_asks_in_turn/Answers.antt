use Rattle.master_laws.proofs.Meets.Asking.{in_turn}
use Rattle.master_laws.proofs.request_laws.master_asks_in_turn.Goals as goal

pub returns : goal.returns
returns c = in_turn
