use Rattle.std.proofs.Common.{arith, length, drop, ◌-◌}
use Rattle.std.proofs.lemmas.List.{length-drop, length-take}
use Rattle.pdu_codec.proofs.to_bytes.put_field_at.Goals as goal

pub put_field-requires-clause-room : goal.put_field-requires-clause-room
put_field-requires-clause-room c =
    omega (arith, c.requires.room, length-take (length c.args.room.now - c.args.at) (drop c.args.at c.args.room.now), length-drop c.args.at c.args.room.now)
