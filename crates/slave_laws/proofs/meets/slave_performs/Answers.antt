use Rattle.slave_laws.proofs.Talk.Benches.{performs}
use Rattle.slave_laws.proofs.meets.slave_performs.Goals as goal

pub returns : goal.returns
returns c setup w s rb = performs setup w s rb
