-- The reading word by word gives exactly the messages as which a text reads, and else the rule that it breaks first.
use Rattle.std.proofs.Common.{◌≡◌, ℕ, List, Ok, Err}
use Rattle.pdu_layout.specs.Message.{Message}
use Rattle.pdu_text.specs.Machine.{text_said}
use Rattle.pdu_text.specs.Reading.{ReadsMessage}
use Rattle.pdu_text.specs.Refusals.{RefusedFor}
use Rattle.pdu_text.specs.declared.reasons.PduTextWhy.{PduTextWhy}
use Rattle.pdu_text.proofs.Fitting.{drop_room, in_room, in_room_spelled, spelled_room}
use Rattle.pdu_text.proofs.WordByWord as words

pub reads_said : (text : List ℕ) (p : Message) → ReadsMessage text p → text_said text ≡ Ok p
reads_said text p h =
    words.in_room_said text p (record { name = h.name; given = h.given; row = h.row; utf8 = h.utf8; line = h.line; named = h.named; listed = h.listed; said = in_room h.row.fields 1023 0 h.given p.values h.said (spelled_room p h.row h.listed h.spelled); alone = h.alone })

pub said_reads : (text : List ℕ) (p : Message) → text_said text ≡ Ok p → ReadsMessage text p
said_reads text p e =
    let r = words.said_in_room text p e in
    record { name = r.name; given = r.given; row = r.row; utf8 = r.utf8; line = r.line; named = r.named; listed = r.listed; said = drop_room r.row.fields 1023 0 r.given p.values r.said; spelled = in_room_spelled text p r; alone = r.alone }

pub refused_said : (text : List ℕ) (why : PduTextWhy) → RefusedFor text why → text_said text ≡ Err why
refused_said text why h = words.refused_said text why h

pub said_refused : (text : List ℕ) (why : PduTextWhy) → text_said text ≡ Err why → RefusedFor text why
said_refused text why e = words.said_refused text why e
