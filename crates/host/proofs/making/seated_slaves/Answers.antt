use Rattle.std.proofs.Common.{[]}
use Rattle.host.proofs.making.seated_slaves.Goals as goal

pub returns : goal.returns
returns c = rw (← c.as_slice-descs.ensures.items) (c.in_ok-seat_hosted.ensures [] (rw c.new-seats.ensures.items tt))
