-- What a taker was handed.
use Rattle.std.specs.Prelude.{◌≡◌, ℕ, List, [], ◌∷◌, ◌++◌, Option, Some, None}
use Rattle.pdu_layout.specs.Message.{Message, Spells}
use Rattle.pdu_text.specs.Reading.{ReadsMessage}
use Rattle.pdu_text.specs.Refusals.{RefusedFor}
use Rattle.pdu_text.specs.declared.reasons.PduTextRefused.{PduTextRefused}
use Rattle.pdu_text.specs.declared.reasons.PduTextRefused.TheVariants as refused

-- one message more, where the taker tells
abbrev pub Adds : Option (List (List ℕ)) → Option (List (List ℕ)) → List ℕ → Type 0
Adds None new bytes = Unit {0}
Adds (Some old) new bytes = new ≡ Some (old ++ bytes ∷ [])

-- these are the bytes of the message as which the text reads
pub record ReadsAndSpells (text bytes : List ℕ) : Type 0 where
  pub message : Message
  pub reads : ReadsMessage text message
  pub spells : Spells message bytes

-- the message as which the text reads was handed over, and no other
pub record Handed (text : List ℕ) (old new : Option (List (List ℕ))) : Type 0 where
  pub message : Message
  pub bytes : List ℕ
  pub reads : ReadsMessage text message
  pub spells : Spells message bytes
  pub adds : Adds old new bytes

-- the first rule that the text breaks, or want of memory
abbrev pub IsRefused : List ℕ → PduTextRefused → Type 0
IsRefused text (refused.Line why) = RefusedFor text why
IsRefused text refused.OutOfMemory = Unit {0}
