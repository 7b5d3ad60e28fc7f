use Rattle.stream_frame.proofs.Histories.{exact}
use Rattle.stream_frame.proofs.laws.every_chunking_is_exact.Goals as goal

pub returns : goal.returns
returns c = exact
