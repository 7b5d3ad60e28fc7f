-- What the spellings of all messages have in common.
use Rattle.std.specs.Prelude.{◌≡◌, ◌↔◌, ℕ, List, Some}
use Rattle.pdu_layout.specs.Message.{Message, Spells, HasSpelling}
use Rattle.pdu_layout.specs.Reading.{message_in, spelling}
use Rattle.pdu_codec.specs.declared.faults.DecodeWhy.{DecodeWhy}
use Rattle.pdu_codec.specs.Refusals.{Refusal}

-- no two messages have the same bytes
abbrev pub MessagesDiffer : Type 0
MessagesDiffer = (p q : Message) (b : List ℕ) → Spells p b → Spells q b → p ≡ q

-- bytes have one refusal at most
abbrev pub OneRefusal : Type 0
OneRefusal = (b : List ℕ) (m n : ℕ) (v w : DecodeWhy) → Refusal b m v → Refusal b n w → (m ≡ n) × (v ≡ w)

-- bytes say a message exactly where they spell it
abbrev pub ReadAsSpelled : Type 0
ReadAsSpelled = (p : Message) (b : List ℕ) → (message_in b ≡ Some p) ↔ Spells p b

-- the bytes that spell a message are its spelling
abbrev pub SpelledOnce : Type 0
SpelledOnce = (p : Message) (b : List ℕ) → Spells p b → b ≡ spelling p

-- a message that has a spelling is spelled by it
abbrev pub SpellingSpells : Type 0
SpellingSpells = (p : Message) → HasSpelling p → Spells p (spelling p)
