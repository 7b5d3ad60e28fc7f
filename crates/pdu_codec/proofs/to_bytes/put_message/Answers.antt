use Rattle.std.proofs.Common.{◌≡◌, ℕ, ◌≤◌, length, arith, refl}
use Rattle.dcp_types.specs.Codes.{type_code}
use Rattle.pdu_layout.specs.Table.{kinds_of}
use Rattle.pdu_layout.proofs.Contents.{kinds_here, values_here}
use Rattle.pdu_codec.proofs.Writing.{written_start, fits_now, room_now, written_more}
use Rattle.pdu_codec.proofs.to_bytes.put_message.Goals as goal

less : {m n k : ℕ} → n ≡ k → m ≤ k → m ≤ n
less e lt = omega arith

pub loop-i-init : goal.loop-i-init
loop-i-init c = written_start (kinds_of c.args.fields.now) _ c.args.code c.args.room.now _ c.requires.size refl

pub put_field_at-length-requires-clause-fits : goal.put_field_at-length-requires-clause-fits
put_field_at-length-requires-clause-fits c = fits_now (kinds_of c.args.fields.now) _ (type_code c.loop-i.last) c.loop-i.at c.loop-i.i c.args.code c.args.room.now c.loop-i.room _ _ (kinds_here c.args.fields.now c.loop-i.i _ c.loop-i-test.true) (values_here c.args.contents.now (length c.args.fields.now) c.loop-i.i _ c.requires.few c.loop-i-test.true) c.loop-i.invariant c.requires.fill

pub put_field_at-length-requires-clause-room : goal.put_field_at-length-requires-clause-room
put_field_at-length-requires-clause-room c =
    less c.loop-i.invariant.size (room_now (kinds_of c.args.fields.now) _ (type_code c.loop-i.last) c.loop-i.at c.loop-i.i c.args.code c.args.room.now c.loop-i.room _ _ (kinds_here c.args.fields.now c.loop-i.i _ c.loop-i-test.true) (values_here c.args.contents.now (length c.args.fields.now) c.loop-i.i _ c.requires.few c.loop-i-test.true) c.loop-i.invariant c.requires.fill)

pub type_after-last-requires : goal.type_after-last-requires
type_after-last-requires c = fits_now (kinds_of c.args.fields.now) _ (type_code c.loop-i.last) c.loop-i.at c.loop-i.i c.args.code c.args.room.now c.loop-i.room _ _ (kinds_here c.args.fields.now c.loop-i.i _ c.loop-i-test.true) (values_here c.args.contents.now (length c.args.fields.now) c.loop-i.i _ c.requires.few c.loop-i-test.true) c.loop-i.invariant c.requires.fill

pub loop-i-preserved : goal.loop-i-preserved
loop-i-preserved c = written_more (kinds_of c.args.fields.now) _ (type_code c.loop-i.last) c.loop-i.at c.loop-i.i c.args.code c.args.room.now c.loop-i.room _ _ (kinds_here c.args.fields.now c.loop-i.i _ c.loop-i-test.true) (values_here c.args.contents.now (length c.args.fields.now) c.loop-i.i _ c.requires.few c.loop-i-test.true) c.loop-i.invariant c.requires.fill (type_code c.type_after-last.result) c.put_field_at-length.result _ c.put_field_at-length.ensures.length c.type_after-last.ensures c.put_field_at-length.ensures.bytes
