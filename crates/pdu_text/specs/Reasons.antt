-- Why the text of a message is refused, and what a reader of the code gave against a definition that gives a value or a cause.
use Rattle.std.specs.Prelude.{◌≡◌, ℕ, List, Bool, if◌then◌else◌, Option, Some, None, Result, Ok, Err, codes}
use Rattle.pdu_text.specs.declared.reasons.PduTextWhy.{PduTextWhy}
use Rattle.pdu_text.specs.declared.reasons.PduTextWhy.TheVariants as why
use Rattle.pdu_text.specs.declared.reasons.PduTextRefused.{PduTextRefused}
use Rattle.pdu_text.specs.declared.reasons.PduTextRefused.TheVariants as refused

-- the printed word
abbrev pub why_word : PduTextWhy → List ℕ
why_word why.NotUtf8 = codes "NOT_UTF8"
why_word why.UnknownKey = codes "UNKNOWN_KEY"
why_word why.Words = codes "WORDS"
why_word why.BadNumber = codes "BAD_NUMBER"
why_word why.BadUuid = codes "BAD_UUID"
why_word why.Limit = codes "LIMIT"

infixl 10 ◌>>=◌
abbrev pub ◌>>=◌ : {A B : Type 0} → Result A PduTextWhy → (A → Result B PduTextWhy) → Result B PduTextWhy
(Ok x) >>= f = f x
(Err e) >>= f = Err e

-- the value, or this cause where there is none
abbrev pub or_why : {A : Type 0} → Option A → PduTextWhy → Result A PduTextWhy
or_why (Some x) why = Ok x
or_why None why = Err why

-- the value where it passes the test, or LIMIT
abbrev pub within_room : {A : Type 0} → Bool → A → Result A PduTextWhy
within_room passes x = if passes then Ok x else Err why.Limit

-- what was returned, seen by view, is what is meant
abbrev pub Sees : {X Y : Type 0} → (X → Y) → Result X PduTextWhy → Result Y PduTextWhy → Type 0
Sees view (Ok x) meant = meant ≡ Ok (view x)
Sees view (Err why) meant = meant ≡ Err why

-- an error is the cause that is meant, or want of memory
abbrev pub Fails : {Y : Type 0} → PduTextRefused → Result Y PduTextWhy → Type 0
Fails refused.OutOfMemory meant = Unit {0}
Fails (refused.Line why) meant = meant ≡ Err why

-- what was returned, seen by view, is what is meant, unless memory ran out
abbrev pub Gives : {X Y : Type 0} → (X → Y) → Result X PduTextRefused → Result Y PduTextWhy → Type 0
Gives view (Ok x) meant = meant ≡ Ok (view x)
Gives view (Err e) meant = Fails e meant
