-- What the fields of one message hold, each by its place.
use Rattle.std.specs.Prelude.{◌≡◌, ℕ, zero, suc, List, [], ◌∷◌, length, slice_get, Option, Some, None}
use Rattle.pdu_layout.specs.declared.fields.FieldKind.{FieldKind}
use Rattle.pdu_layout.specs.declared.fields.FieldKind.TheVariants.{TypeCode}
use Rattle.pdu_layout.specs.Fields.{FieldValue}
use Rattle.pdu_layout.specs.Fields.FieldValue.{Number}
use Rattle.pdu_layout.specs.Table.{kinds_for}

abbrev pub kinds_or_none : Option (List FieldKind) → List FieldKind
kinds_or_none None = []
kinds_or_none (Some kinds) = kinds

-- the kinds of the fields of the message with this code; none where no message has it
abbrev pub layout_of : ℕ → List FieldKind
layout_of code = kinds_or_none (kinds_for code)

-- from field i on, the kinds are these and no more
abbrev pub AreKinds : List FieldKind → ℕ → List FieldKind → Type 0
AreKinds kinds i [] = length kinds ≡ i
AreKinds kinds i (kind ∷ more) = (slice_get kinds i ≡ Some kind) × AreKinds kinds (suc i) more

-- the code of the type that the fields after this one go by
abbrev pub type_named : FieldKind → ℕ → FieldValue → ℕ
type_named TypeCode t (Number n) = n
type_named kind t value = t

-- from field i on, after a type field of code t, each field holds the value at its place
abbrev pub HoldEach : (ℕ → FieldKind → ℕ → FieldValue → Type 0) → List FieldKind → ℕ → ℕ → List FieldValue → Type 0
HoldEach holds [] t i [] = Unit {0}
HoldEach holds (kind ∷ kinds) t i (v ∷ values) = holds i kind t v × HoldEach holds kinds (type_named kind t v) (suc i) values
HoldEach holds _ t i _ = ⊥
