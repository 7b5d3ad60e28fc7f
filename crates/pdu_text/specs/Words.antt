-- What a word of a line says of a field.
use Rattle.std.specs.Prelude.{ℕ, ◌+◌, Bool, ◌==◌, nat_lt, nat_le, List, [], ◌∷◌, length, take, drop, if◌then◌else◌, Option, Some, None, Result, Ok}
use Rattle.std.specs.List.{position}
use Rattle.std.specs.Option.{option_and_then}
use Rattle.std.specs.Result.{result_ok}
use Rattle.std.specs.Str.{bytes_eq}
use Rattle.hex.specs.Hex.{decode_of}
use Rattle.dcp_types.specs.Codes.{state_code, type_code}
use Rattle.dcp_types.specs.Values.{fits}
use Rattle.dcp_types.specs.Words.{state_name}
use Rattle.dcp_types.specs.declared.data_types.DataType.{DataType}
use Rattle.dcp_types.specs.declared.data_types.DataType.TheVariants as types
use Rattle.dcp_types.specs.declared.states.State.{State}
use Rattle.dcp_types.specs.declared.states.State.TheVariants.{Alive, Configuration, Preparing, Prepared, Configuring, Configured, Initializing, Initialized, SendingI, Synchronizing, Synchronized, Running, Computing, Computed, SendingD, Stopping, Stopped, ErrorHandling, ErrorResolved}
use Rattle.text_lines.specs.Numbers.{decimal_number, signed_number}
use Rattle.text_lines.specs.Addresses.{ip}
use Rattle.text_lines.specs.Identities.{identity}
use Rattle.pdu_layout.specs.declared.fields.FieldKind.{FieldKind}
use Rattle.pdu_layout.specs.declared.fields.FieldKind.TheVariants.{I64, StateCode, TypeCode, Value, Uuid, Ip, Rest}
use Rattle.pdu_layout.specs.Fields.{FieldValue, type_from, field_width, limit}
use Rattle.pdu_layout.specs.Fields.FieldValue.{Number, Signed, Bytes}
use Rattle.pdu_layout.specs.Table.{FieldRow}
use Rattle.pdu_text.specs.Reasons.{◌>>=◌, or_why, within_room}
use Rattle.pdu_text.specs.declared.reasons.PduTextWhy.{PduTextWhy}
use Rattle.pdu_text.specs.declared.reasons.PduTextWhy.TheVariants as why

-- the first state of a list with this name
abbrev pub state_in : List State → List ℕ → Option State
state_in [] w = None
state_in (state ∷ states) w = if bytes_eq w (state_name state) then Some state else state_in states w

abbrev pub early_states : List State
early_states = Alive ∷ Configuration ∷ Preparing ∷ Prepared ∷ Configuring ∷ Configured ∷ Initializing ∷ Initialized ∷ SendingI ∷ Synchronizing ∷ []

abbrev pub late_states : List State
late_states = Synchronized ∷ Running ∷ Computing ∷ Computed ∷ SendingD ∷ Stopping ∷ Stopped ∷ ErrorHandling ∷ ErrorResolved ∷ []

abbrev pub or_else : {A : Type 0} → Option A → Option A → Option A
or_else (Some x) other = Some x
or_else None other = other

-- the state with this name
unfoldable pub state_named : List ℕ → Option State
state_named w = or_else (state_in early_states w) (state_in late_states w)

-- a value of this type may stand behind a minus sign
abbrev pub is_signed_type : DataType → Bool
is_signed_type kind = nat_le 4 (type_code kind)

-- a number below a limit
abbrev pub below_said : ℕ → List ℕ → Result FieldValue PduTextWhy
below_said limit w = do
  n ← or_why (decimal_number w) why.BadNumber
  within_room (nat_lt n limit) (Number n)

-- a number of a type
abbrev pub typed_said : DataType → List ℕ → Result FieldValue PduTextWhy
typed_said kind w = do
  z ← or_why (signed_number (is_signed_type kind) w) why.BadNumber
  within_room (fits kind z) (Signed z)

abbrev pub state_said : List ℕ → Result FieldValue PduTextWhy
state_said w = do
  state ← or_why (state_named w) why.BadNumber
  Ok (Number (state_code state))

abbrev pub identity_said : List ℕ → Result FieldValue PduTextWhy
identity_said w = do
  n ← or_why (result_ok (identity w)) why.BadUuid
  Ok (Number n)

abbrev pub ip_said : List ℕ → Result FieldValue PduTextWhy
ip_said w = do
  n ← or_why (result_ok (ip w)) why.BadNumber
  Ok (Number n)

-- hexadecimal digits, capital or small, two for each byte
abbrev pub bytes_said : List ℕ → Result FieldValue PduTextWhy
bytes_said w = do
  bytes ← or_why (result_ok (decode_of w)) why.BadNumber
  Ok (Bytes bytes)

-- what a text says of a field of this kind, after a type field of code t
abbrev pub value_said : FieldKind → ℕ → List ℕ → Result FieldValue PduTextWhy
value_said StateCode t w = state_said w
value_said I64 t w = typed_said types.I64 w
value_said Value t w = typed_said (type_from t) w
value_said Uuid t w = identity_said w
value_said Ip t w = ip_said w
value_said Rest t w = bytes_said w
value_said kind t w = below_said (limit kind) w

-- how many bytes the value has in a message
abbrev pub size_of : FieldKind → ℕ → FieldValue → ℕ
size_of kind t (Bytes bytes) = length bytes
size_of kind t value = field_width kind t

-- the value, where the message has room for its bytes
abbrev pub placed_value : FieldKind → ℕ → ℕ → FieldValue → Result FieldValue PduTextWhy
placed_value kind room t value = within_room (nat_le (size_of kind t value) room) value

-- what stands behind the first `=` of a word, where this name stands before it
abbrev pub text_behind : List ℕ → List ℕ → Option (List ℕ)
text_behind name w = option_and_then (λ at. if bytes_eq (take at w) name then Some (drop (at + 1) w) else None) (position (λ b. b == 61) w)

-- what a word says of a field
unfoldable pub word_said : FieldRow → ℕ → List ℕ → Result FieldValue PduTextWhy
word_said f t w = do
  text ← or_why (text_behind f.name w) why.UnknownKey
  value_said f.kind t text

-- what a word says of a field, where the message has room for so many bytes more
unfoldable pub field_said : FieldRow → ℕ → ℕ → List ℕ → Result FieldValue PduTextWhy
field_said f room t w = do
  text ← or_why (text_behind f.name w) why.UnknownKey
  value ← value_said f.kind t text
  placed_value f.kind room t value

-- the code of the type that the fields after this one go by
abbrev pub type_said : FieldKind → ℕ → FieldValue → ℕ
type_said TypeCode t (Number n) = n
type_said kind t value = t
