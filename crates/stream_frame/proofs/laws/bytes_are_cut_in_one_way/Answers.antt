use Rattle.stream_frame.proofs.Cuts.{one_cut, some_cut}
use Rattle.stream_frame.proofs.laws.bytes_are_cut_in_one_way.Goals as goal

pub returns : goal.returns
returns c = record { some = some_cut; one = λ bytes frames others rest left. one_cut frames others bytes rest left }
