use Rattle.std.proofs.Common.{rules}
use Rattle.socket_commands.proofs.Live.{carried}
use Rattle.socket_commands.proofs.hosting.run_live.Goals as goal

pub returns-in-Err-clause-cause : goal.returns-in-Err-clause-cause
returns-in-Err-clause-cause g c = carried _ _ _ _ _ c.in-Err.fault c.rounds.invariant.still (search rules) c.in-Err.ensures.cause
