-- The bytes that spell a message are its one spelling.
use Rattle.std.proofs.Common.{◌≡◌, ℕ, List, sym, ap, ◌∙◌, Option}
use Rattle.pdu_layout.specs.declared.fields.FieldKind.{FieldKind}
use Rattle.pdu_layout.specs.Message.{Message, Spells}
use Rattle.pdu_layout.specs.Reading.{spelling, spelling_with}

pub spelled_is : (p : Message) (b : List ℕ) → Spells p b → b ≡ spelling p
unfolding spelling
spelled_is p b s = s.bytes ∙ ap (λ (o : Option (List FieldKind)). spelling_with p o) (sym s.listed)
