use Rattle.std.proofs.Common.{map, ap, sym, ◌∙◌, subst}
use Rattle.pdu_layout.specs.Message.{Spells}
use Rattle.pdu_layout.specs.Parts.{value_of}
use Rattle.pdu_text.specs.Contents.{value_of_said, message_of_said}
use Rattle.pdu_text.proofs.Spelled.{written}
use Rattle.pdu_text.proofs.handing.put_said.Goals as goal

pub put_message-requires-clause-few : goal.put_message-requires-clause-few
put_message-requires-clause-few c =
    (written (message_of_said c.args.said.now) c.in-Some.row.name.now c.in-Some.row.fields.now c.deref-in-Some.result.now c.in-Some.ensures c.requires (ap (map value_of) c.deref-in-Some.ensures.value ∙ c.in_ok-contents.ensures ∙ ap (map value_of_said) c.deref.ensures.value)).few

pub put_message-requires-clause-fill : goal.put_message-requires-clause-fill
put_message-requires-clause-fill c =
    (written (message_of_said c.args.said.now) c.in-Some.row.name.now c.in-Some.row.fields.now c.deref-in-Some.result.now c.in-Some.ensures c.requires (ap (map value_of) c.deref-in-Some.ensures.value ∙ c.in_ok-contents.ensures ∙ ap (map value_of_said) c.deref.ensures.value)).fill

pub returns-clause-spelled : goal.returns-clause-spelled
returns-clause-spelled c =
    subst (Spells (message_of_said c.args.said.now)) (sym c.put_message.ensures.bytes) (written (message_of_said c.args.said.now) c.in-Some.row.name.now c.in-Some.row.fields.now c.deref-in-Some.result.now c.in-Some.ensures c.requires (ap (map value_of) c.deref-in-Some.ensures.value ∙ c.in_ok-contents.ensures ∙ ap (map value_of_said) c.deref.ensures.value)).spells
