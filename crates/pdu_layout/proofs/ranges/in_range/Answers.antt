use Rattle.std.proofs.Common.{◌≡◌, Bool, true, false, sym, subst, inl, inr}
use Rattle.std.specs.Prelude.{MatchBool}
use Rattle.std.proofs.lemmas.Bool.{MatchBool-at_true, MatchBool-at_false, cases_Bool}
use Rattle.pdu_layout.specs.declared.message_parts.Parts.{Parts}
use Rattle.pdu_layout.specs.Table.{kinds_of}
use Rattle.pdu_layout.specs.Message.{Message, message_of, HasSpelling}
use Rattle.pdu_layout.specs.Parts.{AreParts, values_of}
use Rattle.pdu_layout.specs.Ranges.{Fill}
use Rattle.pdu_layout.proofs.Spellings.{spelling_of, fill_of}
use Rattle.pdu_layout.proofs.ranges.in_range.Goals as goal

judged : (p : Message) (parts : Parts) (b : Bool) → AreParts p parts → MatchBool b (Fill (kinds_of parts.fields.now) (values_of parts)) (Fill (kinds_of parts.fields.now) (values_of parts) → ⊥) → MatchBool b (HasSpelling p) (HasSpelling p → ⊥)
judged p parts true a m = spelling_of p parts a m
judged p parts false a m = λ h. m (fill_of p parts a h)

pub returns : goal.returns
returns c = judged (message_of c.args.pdu.now) c.parts_of-parts.result c.fit.result c.parts_of-parts.ensures c.fit.ensures
