use Rattle.std.proofs.Common.{append_assoc}
use Rattle.desc_text.proofs.Printed.{model_line}
use Rattle.desc_text.proofs.printing.put_model.Goals as goal

pub returns : goal.returns
returns c = rw (model_line, c.in_ok-write-2.ensures.bytes, c.in_ok-put_parameters.ensures, c.in_ok-write.ensures.bytes, c.word-word.ensures) (simp append_assoc)
