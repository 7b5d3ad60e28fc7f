use Rattle.pdu_text.proofs.handing.with_pdu_text.Goals as goal

pub hand-requires-clause-spelled : goal.hand-requires-clause-spelled
hand-requires-clause-spelled g c = (c.in_ok-length.ensures.ok.message, c.in_ok-length.ensures.ok.spells)

pub returns-clause-ok : goal.returns-clause-ok
returns-clause-ok g c =
    let w = c.in_ok-length.ensures.ok in
    record { message = w.message; bytes = _; reads = w.reads; spells = w.spells; adds = c.hand.ensures }
