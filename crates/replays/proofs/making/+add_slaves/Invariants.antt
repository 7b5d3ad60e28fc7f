use Rattle.std.proofs.Common.{length}
use Rattle.replays.proofs.making.+add_slaves.Given as goal

abbrev pub decreases-add_slaves : goal.decreases-add_slaves
decreases-add_slaves l = length l.descs.now
