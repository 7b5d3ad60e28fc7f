use Rattle.completeness_laws.proofs.Causes.Heartbeat.{missed_heartbeats}
use Rattle.completeness_laws.proofs.missed_heartbeats_are_true.Goals as goal

pub returns : goal.returns
returns c = missed_heartbeats
