use Rattle.std.proofs.Common.{append_assoc}
use Rattle.text_lines.specs.Printed.{line_of}
use Rattle.soaks.proofs.slaves.put_names.Goals as goal

pub returns : goal.returns
unfolding line_of
returns c = rw c.in_ok-write.ensures.bytes (simp append_assoc)
