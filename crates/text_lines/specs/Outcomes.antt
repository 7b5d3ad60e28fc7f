-- What the code gave against a definition that gives a value or a cause.
use Rattle.std.specs.Prelude.{◌≡◌, Result, Ok, Err}
use Rattle.text_lines.specs.declared.reasons.TextWhy.{TextWhy}
use Rattle.text_lines.specs.declared.reasons.TextFault.{TextFault}
use Rattle.text_lines.specs.declared.reasons.TextRefused.{TextRefused}
use Rattle.text_lines.specs.declared.reasons.TextRefused.TheVariants as refusals
use Rattle.text_lines.specs.declared.reasons.LineRefused.{LineRefused}
use Rattle.text_lines.specs.declared.reasons.LineRefused.TheVariants as refused

-- what was returned, seen by view, is what is meant
abbrev pub Sees : {X Y : Type 0} → (X → Y) → Result X TextWhy → Result Y TextWhy → Type 0
Sees view (Ok x) meant = meant ≡ Ok (view x)
Sees view (Err why) meant = meant ≡ Err why

-- an error is the cause that is meant, or want of memory
abbrev pub Fails : {Y : Type 0} → LineRefused → Result Y TextWhy → Type 0
Fails refused.OutOfMemory meant = Unit {0}
Fails (refused.Why why) meant = meant ≡ Err why

-- what was returned, seen by view, is what is meant, unless memory ran out
abbrev pub Gives : {X Y : Type 0} → (X → Y) → Result X LineRefused → Result Y TextWhy → Type 0
Gives view (Ok x) meant = meant ≡ Ok (view x)
Gives view (Err e) meant = Fails e meant

-- what a call left of a state is what is meant, or its error is, unless memory ran out
abbrev pub Steps : {X S : Type 0} → Result X LineRefused → S → Result S TextWhy → Type 0
Steps (Ok x) new meant = meant ≡ Ok new
Steps (Err e) new meant = Fails e meant

-- of a whole text: an error is the fault that is meant, or want of memory
abbrev pub FailsAt : {V : Type 0} → TextRefused → Result V TextFault → Type 0
FailsAt refusals.OutOfMemory meant = Unit {0}
FailsAt (refusals.Fault fault) meant = meant ≡ Err fault

-- what was read of a text is what is meant, unless memory ran out
abbrev pub GivesText : {V : Type 0} → Result V TextRefused → Result V TextFault → Type 0
GivesText (Ok v) meant = meant ≡ Ok v
GivesText (Err e) meant = FailsAt e meant
