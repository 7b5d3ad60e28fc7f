use Rattle.std.proofs.Common.{◌++◌, inr, arith}
use Rattle.std.specs.Int.{to_le_bytes, w32}
use Rattle.dcp_record.specs.Traces.{form}
use Rattle.dcp_record.proofs.Numbers.{bytes_behind}
use Rattle.dcp_record.proofs.Fronts.{cut_in_hosted, cut_in_length, cut_in_scenario, after_hosted, after_length}
use Rattle.dcp_record.proofs.readers.cut_head.Goals as goal

pub returns-in_default-clause-err : goal.returns-in_default-clause-err
returns-in_default-clause-err c =
    let b = c.args.bytes.now in
    let rest = c.in_ok-after_form.after_form.now in
    let e = c.in_ok-after_form.ensures.ok in
    inr (inr (cut_in_hosted b rest e (bytes_behind b form rest e (λ i. omega (arith, c.type_inv.bytes i))) c.in_default.ensures.none))

pub returns-in_default-cut_u32-clause-err : goal.returns-in_default-cut_u32-clause-err
returns-in_default-cut_u32-clause-err c =
    let b = c.args.bytes.now in
    let rest = c.in-Some.after_hosted.now in
    let e = after_hosted b c.in-Some.hosted c.in_ok-after_form.after_form.now rest c.in_ok-after_form.ensures.ok c.in-Some.ensures.some in
    inr (inr (cut_in_length b c.in-Some.hosted rest e (omega (arith, c.if-hosted-ge-HOSTED_END.false)) (bytes_behind b (form ++ to_le_bytes w32 c.in-Some.hosted) rest e (λ i. omega (arith, c.type_inv.bytes i))) c.in_default-cut_u32.ensures.none))

pub returns-then-after_size-size-clause-err : goal.returns-then-after_size-size-clause-err
returns-then-after_size-size-clause-err c =
    let b = c.args.bytes.now in
    let rest = c.in-Some-cut_u32.after_size.now in
    let e = after_length b c.in-Some.hosted c.in-Some-cut_u32.size c.in_ok-after_form.after_form.now c.in-Some.after_hosted.now rest c.in_ok-after_form.ensures.ok c.in-Some.ensures.some c.in-Some-cut_u32.ensures.some in
    inr (inr (cut_in_scenario b c.in-Some.hosted c.in-Some-cut_u32.size rest e (omega (arith, c.if-hosted-ge-HOSTED_END.false)) c.in-Some-cut_u32.ensures.fits (omega (arith, c.if-after_size-size.true))))
