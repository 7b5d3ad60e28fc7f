use Rattle.witness_laws.proofs.Shown.LaterPhases.{none_at_once, none_prepared}
use Rattle.witness_laws.proofs.stuck.stuck_slaves_had_their_time.Goals as goal

pub returns-clause-soon : goal.returns-clause-soon
returns-clause-soon c = none_at_once

pub returns-clause-done : goal.returns-clause-done
returns-clause-done c = none_prepared
