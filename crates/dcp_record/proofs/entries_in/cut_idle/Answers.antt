use Rattle.std.proofs.Common.{arith}
use Rattle.dcp_record.proofs.Fronts.{cut_in_idle}
use Rattle.dcp_record.proofs.entries_in.cut_idle.Goals as goal

pub returns-in_default-clause-err : goal.returns-in_default-clause-err
returns-in_default-clause-err c = cut_in_idle c.args.bytes.now (λ i. omega (arith, c.type_inv.bytes i)) c.in_default.ensures.none
