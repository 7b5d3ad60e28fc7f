use Rattle.std.proofs.Common.{◌++◌, inl, inr, arith}
use Rattle.dcp_record.specs.Traces.{address_bytes}
use Rattle.dcp_record.proofs.Numbers.{bytes_behind, after_two, after_three}
use Rattle.dcp_record.proofs.Fronts.{cut_in_first, cut_in_second, cut_in_size, cut_in_payload, out_is}
use Rattle.dcp_record.proofs.entries_in.cut_exchange.Goals.{then-size-least-via-then-size-least, then-size-least-via-else-size-least+then-size-most}
use Rattle.dcp_record.proofs.entries_in.cut_exchange.Goals as goal

pub returns-in_default-clause-err : goal.returns-in_default-clause-err
returns-in_default-clause-err c = cut_in_first c.args.least c.args.most c.requires.least c.requires.most c.args.bytes.now (λ i. omega (arith, c.type_inv.bytes i)) c.in_default.ensures.none

pub returns-in_default-cut_address-clause-err : goal.returns-in_default-cut_address-clause-err
returns-in_default-cut_address-clause-err c =
    let h = bytes_behind c.args.bytes.now (address_bytes c.in-Some.first) c.in-Some.after_first.now c.in-Some.ensures.some (λ i. omega (arith, c.type_inv.bytes i)) in
    cut_in_second c.args.least c.args.most c.requires.least c.requires.most c.args.bytes.now c.in-Some.first c.in-Some.after_first.now c.in-Some.ensures.some c.in-Some.ensures.fits h c.in_default-cut_address.ensures.none

pub returns-in_default-cut_u16-clause-err : goal.returns-in_default-cut_u16-clause-err
returns-in_default-cut_u16-clause-err c =
    let e = after_two c.args.bytes.now c.in-Some.first c.in-Some-cut_address.second c.in-Some.after_first.now c.in-Some-cut_address.after_second.now c.in-Some.ensures.some c.in-Some-cut_address.ensures.some in
    let h = bytes_behind c.args.bytes.now (address_bytes c.in-Some.first ++ address_bytes c.in-Some-cut_address.second) c.in-Some-cut_address.after_second.now e (λ i. omega (arith, c.type_inv.bytes i)) in
    cut_in_size c.args.least c.args.most c.requires.least c.requires.most c.args.bytes.now c.in-Some.first c.in-Some-cut_address.second c.in-Some-cut_address.after_second.now e c.in-Some.ensures.fits c.in-Some-cut_address.ensures.fits h c.in_default-cut_u16.ensures.none

pub returns-then-size-least-clause-err : goal.returns-then-size-least-clause-err
returns-then-size-least-clause-err c =
    let e = after_three c.args.bytes.now c.in-Some.first c.in-Some-cut_address.second c.in-Some-cut_u16.size c.in-Some.after_first.now c.in-Some-cut_address.after_second.now c.in-Some-cut_u16.after_size.now c.in-Some.ensures.some c.in-Some-cut_address.ensures.some c.in-Some-cut_u16.ensures.some in
    out_is c.args.least c.args.most c.args.bytes.now c.in-Some.first c.in-Some-cut_address.second c.in-Some-cut_u16.size c.in-Some-cut_u16.after_size.now e c.in-Some-cut_u16.ensures.fits
    (elim c.then-size-least.branch [
      | then-size-least-via-then-size-least w ↦ inl (omega (arith, w.if-size-least.true, c.from-size.ensures))
      | then-size-least-via-else-size-least+then-size-most w ↦ inr (omega (arith, w.if-size-most.true, c.from-size.ensures))
    ])

pub returns-then-after_size-size-clause-err : goal.returns-then-after_size-size-clause-err
returns-then-after_size-size-clause-err c =
    let e = after_three c.args.bytes.now c.in-Some.first c.in-Some-cut_address.second c.in-Some-cut_u16.size c.in-Some.after_first.now c.in-Some-cut_address.after_second.now c.in-Some-cut_u16.after_size.now c.in-Some.ensures.some c.in-Some-cut_address.ensures.some c.in-Some-cut_u16.ensures.some in
    cut_in_payload c.args.least c.args.most c.requires.least c.requires.most c.args.bytes.now c.in-Some.first c.in-Some-cut_address.second c.in-Some-cut_u16.size c.in-Some-cut_u16.after_size.now e c.in-Some.ensures.fits c.in-Some-cut_address.ensures.fits
    (omega (arith, c.if-size-least.false, c.from-size.ensures)) (omega (arith, c.if-size-most.false, c.from-size.ensures)) (omega (arith, c.if-after_size-size.true, c.from-size.ensures))
