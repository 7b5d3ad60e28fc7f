use Rattle.std.proofs.Common.{append_assoc, append-nil}
use Rattle.soaks.proofs.slaves.put_drawn.Goals as goal

pub returns : goal.returns
returns c = rw (c.in_ok-put_output.ensures, c.in_ok-put_input.ensures, c.in_ok-put_model.ensures, c.in_ok-put_head.ensures) (simp (append_assoc, append-nil))
