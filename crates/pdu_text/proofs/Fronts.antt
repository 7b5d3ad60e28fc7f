-- Values, said one after another.
use Rattle.std.proofs.Common.{List, ◌++◌, Result, Ok}
use Rattle.pdu_layout.specs.Fields.{FieldValue}
use Rattle.pdu_text.specs.Reasons.{◌>>=◌}
use Rattle.pdu_text.specs.declared.reasons.PduTextWhy.{PduTextWhy}

abbrev pub with_front : List FieldValue → Result (List FieldValue) PduTextWhy → Result (List FieldValue) PduTextWhy
with_front front rest = rest >>= λ x. Ok (front ++ x)
