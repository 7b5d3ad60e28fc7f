use Rattle.std.proofs.Common.{ℕ, sym, ◌∙◌, arith}
use Rattle.std.proofs.lemmas.Result.{err_from_is_err_and}
use Rattle.std.proofs.lemmas.List.{length-map, length-set, length-replicate}
use Rattle.dcp_types.specs.Codes.{type_code}
use Rattle.pdu_layout.specs.Table.{kinds_of}
use Rattle.pdu_codec.proofs.Walk.{first_is, walked_start, walked_more, fault_is, long_is, ends_are}
use Rattle.pdu_codec.proofs.walker.walk.Goals as goal

pub returns-in_err-end-clause-err : goal.returns-in_err-end-clause-err
returns-in_err-end-clause-err g c =
    let p = err_from_is_err_and c.from_residual.result c.from_residual.ensures.1 in
    rw (p.1, p.2) (fault_is c.args.fields.now c.args.bytes.now c.loop-i.ends c.loop-i.i c.loop-i.at (type_code c.loop-i.last) (λ k. omega (arith, c.type_inv.bytes k)) c.loop-i.invariant.walked c.loop-i-test.true c.args.code _ _ c.requires.row (first_is c.args.bytes.now c.args.code c.requires.some c.requires.first) c.in_err-end.ensures.err)

pub loop-i-preserved : goal.loop-i-preserved
loop-i-preserved g c = record {
  walked = walked_more c.args.fields.now c.args.bytes.now c.loop-i.ends c.loop-i.i c.loop-i.at (type_code c.loop-i.last) (λ k. omega (arith, c.type_inv.bytes k)) c.loop-i.invariant.walked c.loop-i-test.true c.in_ok-end.end (type_code c.type_after-last.result) (c.loop-i.invariant.size ∙ sym c.requires.size) c.in_ok-end.ensures.within c.in_ok-end.ensures.piece c.in_ok-end.ensures.rest c.type_after-last.ensures;
  size = length-set c.loop-i.ends c.loop-i.i c.in_ok-end.end ∙ c.loop-i.invariant.size;
}

pub returns-then-at-bytes-clause-err : goal.returns-then-at-bytes-clause-err
returns-then-at-bytes-clause-err g c = long_is c.args.code (kinds_of c.args.fields.now) c.args.bytes.now c.loop-i.ends c.loop-i.i c.loop-i.at (type_code c.loop-i.last) c.requires.row (first_is c.args.bytes.now c.args.code c.requires.some c.requires.first) c.loop-i.invariant.walked (omega (arith, length-map c.args.fields.now (λ f. f.kind))) c.if-at-bytes.true

pub returns-clause-ends : goal.returns-clause-ends
returns-clause-ends g c = ends_are (kinds_of c.args.fields.now) c.args.bytes.now c.loop-i.ends c.loop-i.i c.loop-i.at (type_code c.loop-i.last) c.loop-i.invariant.walked (omega (arith, length-map c.args.fields.now (λ f. f.kind))) (omega (arith, c.loop-i.invariant.size, c.requires.size)) c.if-at-bytes.false

pub returns-clause-at_most : goal.returns-clause-at_most
returns-clause-at_most g c = omega (arith, c.if-at-bytes.false, c.loop-i.invariant.walked.room)

pub loop-i-init : goal.loop-i-init
loop-i-init g c = record {
  walked = walked_start c.args.code (kinds_of c.args.fields.now) c.args.bytes.now _ c.requires.row c.requires.some;
  size = length-replicate {A = ℕ} g.row.N 0;
}
