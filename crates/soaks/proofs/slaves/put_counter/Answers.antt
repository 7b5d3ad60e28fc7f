use Rattle.std.proofs.Common.{append_assoc, append-nil}
use Rattle.soaks.proofs.slaves.put_counter.Goals as goal

pub returns : goal.returns
returns c = rw (c.in_ok-put_output.ensures, c.in_ok-put_counting.ensures, c.in_ok-put_head.ensures) (simp (append_assoc, append-nil))
