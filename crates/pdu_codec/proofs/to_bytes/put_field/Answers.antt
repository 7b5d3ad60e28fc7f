use Rattle.std.proofs.Common.{arith, ◌∙◌}
use Rattle.dcp_types.specs.Codes.{type_code}
use Rattle.pdu_codec.proofs.Writing.{number_length, signed_length}
use Rattle.pdu_codec.proofs.to_bytes.put_field.Goals as goal

pub put_number-requires-clause-room : goal.put_number-requires-clause-room
put_number-requires-clause-room c =
    omega (arith, number_length c.args.kind (type_code c.args.last) c.args.content c.in-Number.n c.in-Number.is c.requires.fits, c.requires.room)

pub put_signed-requires-clause-room : goal.put_signed-requires-clause-room
put_signed-requires-clause-room c =
    omega (arith, signed_length c.args.kind (type_code c.args.last) c.args.content c.in-Signed.value c.in-Signed.is c.requires.fits, c.requires.room)

pub returns-in-Number-clause-length : goal.returns-in-Number-clause-length
returns-in-Number-clause-length c =
    c.put_number.ensures.length ∙ number_length c.args.kind (type_code c.args.last) c.args.content c.in-Number.n c.in-Number.is c.requires.fits

pub returns-in-Signed-clause-length : goal.returns-in-Signed-clause-length
returns-in-Signed-clause-length c =
    c.put_signed.ensures.length ∙ signed_length c.args.kind (type_code c.args.last) c.args.content c.in-Signed.value c.in-Signed.is c.requires.fits
