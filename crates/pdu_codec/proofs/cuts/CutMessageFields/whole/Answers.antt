use Rattle.pdu_layout.specs.Table.{kinds_of}
use Rattle.pdu_codec.proofs.CutFields.{whole_is}
use Rattle.pdu_codec.proofs.cuts.CutMessageFields.whole.Goals as goal

pub returns : goal.returns
returns g c n values same listed kinds held =
    let self = c.args.self.now in
    whole_is self.code (kinds_of self.fields.now) self.bytes.now self.ends self.is_cut n values same listed kinds held
