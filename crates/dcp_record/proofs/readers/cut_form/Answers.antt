use Rattle.std.proofs.Common.{◌≡◌, ℕ, length, take, subst, inr, arith}
use Rattle.dcp_record.specs.Traces.{form}
use Rattle.dcp_record.proofs.Fronts.{cut_in_form}
use Rattle.dcp_record.proofs.readers.cut_form.Goals as goal

pub returns-then-bytes-lt5-clause-err : goal.returns-then-bytes-lt5-clause-err
returns-then-bytes-lt5-clause-err c =
    let b = c.args.bytes.now in
    let all : c.loop-at.at ≡ length b = omega arith in
    inr (inr (cut_in_form b c.if-bytes-lt5.true (subst (λ (n : ℕ). take n b ≡ take n form) all c.loop-at.invariant)))
