use Rattle.std.proofs.Common.{arith}
use Rattle.pdu_codec.proofs.Places.{place_is}
use Rattle.pdu_codec.proofs.cuts.piece_of.Goals as goal

pub start_of-requires : goal.start_of-requires
start_of-requires c = omega (arith, (place_is c.args.fields.now c.args.bytes.now c.args.ends.now c.args.i c.requires.cut c.requires.there).there)

pub bounds-ends-i : goal.bounds-ends-i
bounds-ends-i c = (place_is c.args.fields.now c.args.bytes.now c.args.ends.now c.args.i c.requires.cut c.requires.there).there

pub part-requires-clause-order : goal.part-requires-clause-order
part-requires-clause-order c = omega (arith, c.start_of.ensures, (place_is c.args.fields.now c.args.bytes.now c.args.ends.now c.args.i c.requires.cut c.requires.there).order)

pub part-requires-clause-within : goal.part-requires-clause-within
part-requires-clause-within c = (place_is c.args.fields.now c.args.bytes.now c.args.ends.now c.args.i c.requires.cut c.requires.there).within

pub returns-clause-fits : goal.returns-clause-fits
returns-clause-fits c = rw (c.part.ensures, c.start_of.ensures) (place_is c.args.fields.now c.args.bytes.now c.args.ends.now c.args.i c.requires.cut c.requires.there).fits
