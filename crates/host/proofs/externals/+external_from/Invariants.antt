use Rattle.std.proofs.Common.{length}
use Rattle.host.proofs.externals.+external_from.Given as goal

abbrev pub decreases-external_from : goal.decreases-external_from
decreases-external_from l = length l.descs.now
