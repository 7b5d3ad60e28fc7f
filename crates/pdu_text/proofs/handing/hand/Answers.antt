use Rattle.pdu_text.proofs.handing.hand.Goals as goal

pub unreachable-requires : goal.unreachable-requires
unreachable-requires g c = c.in-Err.ensures.err.unspelled c.requires.spelled.0 c.requires.spelled.1
