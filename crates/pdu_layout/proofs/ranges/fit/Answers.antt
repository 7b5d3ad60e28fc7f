use Rattle.std.proofs.Common.{◌≡◌, ◌<◌, ◌≤◌, ℕ, ◌+◌, length, map, take, arith, sym, subst}
use Rattle.std.proofs.lemmas.Bool.{MatchBool-at_true, MatchBool-at_false}
use Rattle.dcp_types.specs.Codes.{type_code}
use Rattle.pdu_layout.specs.Table.{kinds_of}
use Rattle.pdu_layout.specs.Parts.{value_of}
use Rattle.pdu_layout.proofs.Contents.{Judged, kinds_here, values_here, judged_more, unfit, too_long}
use Rattle.pdu_layout.proofs.ranges.fit.Goals as goal

pub returns-then-not-fits_field : goal.returns-then-not-fits_field
returns-then-not-fits_field c =
    unfit (kinds_of c.args.fields.now) _ (type_code c.loop-i.last) c.loop-i.at c.loop-i.i _ _ (kinds_here c.args.fields.now c.loop-i.i _ c.loop-i-test.true) (values_here c.args.contents.now (length c.args.fields.now) c.loop-i.i _ c.requires c.loop-i-test.true) c.loop-i.invariant (MatchBool-at_false _ _ c.if-not-fits_field.true c.fits_field.ensures)

pub returns-then-length-at : goal.returns-then-length-at
returns-then-length-at c =
    let long : 1024 < c.loop-i.at + c.content_length-length.result = omega (arith, c.if-length-at.true, c.loop-i.invariant.at_most) in
    too_long (kinds_of c.args.fields.now) _ (type_code c.loop-i.last) c.loop-i.at c.loop-i.i _ _ (kinds_here c.args.fields.now c.loop-i.i _ c.loop-i-test.true) (values_here c.args.contents.now (length c.args.fields.now) c.loop-i.i _ c.requires c.loop-i-test.true) c.loop-i.invariant (subst (λ (n : ℕ). 1024 < c.loop-i.at + n) c.content_length-length.ensures long)

pub loop-i-preserved : goal.loop-i-preserved
loop-i-preserved c =
    let room : c.loop-i.at + c.content_length-length.result ≤ 1024 = omega (arith, c.if-length-at.false, c.loop-i.invariant.at_most) in
    subst (λ (n : ℕ). Judged (kinds_of c.args.fields.now) (map value_of (take (length c.args.fields.now) c.args.contents.now)) (type_code c.type_after-last.result) (c.loop-i.at + n) (c.loop-i.i + 1)) (sym c.content_length-length.ensures) (judged_more (kinds_of c.args.fields.now) _ (type_code c.loop-i.last) c.loop-i.at c.loop-i.i _ _ (kinds_here c.args.fields.now c.loop-i.i _ c.loop-i-test.true) (values_here c.args.contents.now (length c.args.fields.now) c.loop-i.i _ c.requires c.loop-i-test.true) c.loop-i.invariant (type_code c.type_after-last.result) (MatchBool-at_true _ _ c.if-not-fits_field.false c.fits_field.ensures) c.type_after-last.ensures (subst (λ (n : ℕ). c.loop-i.at + n ≤ 1024) c.content_length-length.ensures room))
