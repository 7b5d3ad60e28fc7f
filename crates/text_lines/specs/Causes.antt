-- Why a line is refused: causes, one after another.
use Rattle.std.specs.Prelude.{ℕ, Bool, true, false, List, [], ◌∷◌, if◌then◌else◌, Option, Some, None, Result, Ok, Err, codes}
use Rattle.text_lines.specs.declared.reasons.TextWhy.{TextWhy}
use Rattle.text_lines.specs.declared.reasons.TextWhy.TheVariants as why

-- the printed word
abbrev pub cause_word : TextWhy → List ℕ
cause_word why.NotUtf8 = codes "NOT_UTF8"
cause_word why.UnknownKey = codes "UNKNOWN_KEY"
cause_word why.Order = codes "ORDER"
cause_word why.Missing = codes "MISSING"
cause_word why.Ports = codes "PORTS"
cause_word why.Limit = codes "LIMIT"
cause_word why.Repeated = codes "REPEATED"
cause_word why.Words = codes "WORDS"
cause_word why.BadName = codes "BAD_NAME"
cause_word why.BadNumber = codes "BAD_NUMBER"
cause_word why.BadUuid = codes "BAD_UUID"
cause_word why.UnknownModel = codes "UNKNOWN_MODEL"
cause_word why.UnsupportedType = codes "UNSUPPORTED_TYPE"
cause_word why.UnknownSlave = codes "UNKNOWN_SLAVE"
cause_word why.UnknownPort = codes "UNKNOWN_PORT"
cause_word why.SameAddress = codes "SAME_ADDRESS"
cause_word why.Parameters = codes "PARAMETERS"
cause_word why.TypeMismatch = codes "TYPE_MISMATCH"
cause_word why.TwoWires = codes "TWO_WIRES"
cause_word why.NoWire = codes "NO_WIRE"

infixl 10 ◌>>=◌
abbrev pub ◌>>=◌ : {A B : Type 0} → Result A TextWhy → (A → Result B TextWhy) → Result B TextWhy
(Ok x) >>= f = f x
(Err e) >>= f = Err e

-- the value, or this cause where there is none
abbrev pub or_why : {A : Type 0} → Option A → TextWhy → Result A TextWhy
or_why (Some x) why = Ok x
or_why None why = Err why

-- the first of two causes
abbrev pub or_else : Option TextWhy → Option TextWhy → Option TextWhy
or_else None later = later
or_else (Some why) later = Some why

abbrev pub refused_if : Bool → TextWhy → Option TextWhy
refused_if b why = if b then Some why else None

abbrev pub when : Bool → Option TextWhy → Option TextWhy
when b o = if b then o else None

-- a cause, or else what follows
abbrev pub unless : {X : Type 0} → Option TextWhy → Result X TextWhy → Result X TextWhy
unless None next = next
unless (Some why) next = Err why

-- the cause of a word or line that does not read
abbrev pub bad : {X : Type 0} → Result X TextWhy → Option TextWhy
bad (Ok x) = None
bad (Err why) = Some why

-- something came
abbrev pub came : {X : Type 0} → List X → Bool
came [] = false
came (x ∷ xs) = true
