use Rattle.std.proofs.Common.{append_assoc, append-nil}
use Rattle.soaks.proofs.texts.put_first.Goals as goal

pub returns : goal.returns
returns c = rw (c.in_ok-put_master.ensures, c.in_ok-put_steps.ensures) (simp (append_assoc, append-nil))
