use Rattle.std.proofs.Common.{ℕ, sym, ap, ◌∙◌, length}
use Rattle.dcp_types.specs.Codes.{type_code}
use Rattle.dcp_types.specs.Values.{width}
use Rattle.pdu_layout.specs.Fields.{type_from}
use Rattle.pdu_layout.proofs.Contents.{type_from-code}
use Rattle.pdu_codec.proofs.CutFields.{named_first}
use Rattle.pdu_codec.proofs.Places.{value_is}
use Rattle.pdu_codec.proofs.cuts.CutMessageFields.value.Goals as goal

pub value_of-requires : goal.value_of-requires
value_of-requires g c =
    let self = c.args.self.now in
    ap length c.piece_of.ensures.piece
    ∙ value_is self.fields.now self.bytes.now self.ends c.args.i self.is_cut.3 c.requires.typed c.requires.before c.requires.kind
    ∙ ap (λ (t : ℕ). width (type_from t)) (sym (named_first 0 (type_code c.args.kind) _ c.requires.named)) ∙ ap width (type_from-code c.args.kind)
