use Rattle.std.proofs.Common.{length}
use Rattle.host.proofs.making.+seat_hosted.Given as goal

abbrev pub decreases-seat_hosted : goal.decreases-seat_hosted
decreases-seat_hosted l = length l.descs.now
