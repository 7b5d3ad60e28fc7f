-- Why bytes spell no message, and where.
use Rattle.std.specs.Prelude.{◌≡◌, ◌≢◌, ℕ, ◌-◌, ◌<◌, ◌≤◌, List, [], ◌++◌, length, take, Some}
use Rattle.pdu_layout.specs.declared.fields.FieldKind.{FieldKind}
use Rattle.pdu_layout.specs.declared.fields.FieldKind.TheVariants.{StateCode, TypeCode}
use Rattle.pdu_codec.specs.declared.faults.DecodeWhy.{DecodeWhy}
use Rattle.pdu_codec.specs.declared.faults.DecodeWhy.TheVariants.{Empty, UnknownType, Short, Long, BadState, BadType, TooLong}
use Rattle.pdu_layout.specs.Message.{Message, Spells}
use Rattle.pdu_layout.specs.Fields.{kind_at}

-- some spelling begins with x
abbrev pub BeginsSpelling : List ℕ → Type 0
BeginsSpelling x = (p : Message) × (more : List ℕ) × Spells p (x ++ more)

abbrev pub IsSpelling : List ℕ → Type 0
IsSpelling x = (p : Message) × Spells p x

-- some spelling begins with x, and its next byte stands in a field of this kind
abbrev pub NextIsIn : FieldKind → List ℕ → Type 0
NextIsIn kind x = (p : Message) × (more : List ℕ) × (s : Spells p (x ++ more)) × (0 < length x) × (kind_at s.kinds 0 p.values (length x - 1) ≡ Some kind)

-- what the cause says, where at is the length of the longest front that begins a spelling
abbrev pub IsCauseAt : List ℕ → ℕ → DecodeWhy → Type 0
IsCauseAt b at Empty = b ≡ []
IsCauseAt b at Short = (b ≢ []) × (at ≡ length b)
IsCauseAt b at UnknownType = (b ≢ []) × (at ≡ 0)
IsCauseAt b at Long = IsSpelling (take at b) × (at < 1024)
IsCauseAt b at TooLong = IsSpelling (take at b) × (at ≡ 1024)
IsCauseAt b at BadState = (at < length b) × NextIsIn StateCode (take at b)
IsCauseAt b at BadType = (at < length b) × NextIsIn TypeCode (take at b)

pub record Refusal (b : List ℕ) (at : ℕ) (why : DecodeWhy) : Type 0 where
  pub unspelled : (p : Message) → Spells p b → ⊥
  pub within : at ≤ length b
  pub begins : BeginsSpelling (take at b)
  pub longest : (n : ℕ) → at < n → n ≤ length b → BeginsSpelling (take n b) → ⊥
  pub cause : IsCauseAt b at why
