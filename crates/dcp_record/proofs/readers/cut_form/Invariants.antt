use Rattle.std.proofs.Common.{◌≡◌, take}
use Rattle.dcp_record.specs.Traces.{form}
use Rattle.dcp_record.proofs.readers.cut_form.Given as goal

-- the bytes so far are those of the form
abbrev pub invariant-loop-at : goal.invariant-loop-at
invariant-loop-at l = take l.at l.bytes ≡ take l.at form
