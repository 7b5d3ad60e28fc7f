-- The printed form of a message: its name, then of each field a space, the name, `=` and what it holds, and a line feed.
use Rattle.std.specs.Prelude.{ℕ, List, [], ◌∷◌, ◌++◌, Option, Some, None, decimal, slice_get}
use Rattle.std.specs.Fmt.{signed_decimal}
use Rattle.hex.specs.Hex.{encode_lower}
use Rattle.dcp_types.specs.Words.{state_name}
use Rattle.dcp_types.specs.declared.states.State.{State}
use Rattle.dcp_types.specs.declared.states.State.TheVariants.{Alive, Configuration, Preparing, Prepared, Configuring, Configured, Initializing, Initialized, SendingI, Synchronizing, Synchronized, Running, Computing, Computed, SendingD, Stopping, Stopped, ErrorHandling, ErrorResolved}
use Rattle.text_lines.specs.Printed.{ip_word, identity_word}
use Rattle.pdu_layout.specs.declared.fields.FieldKind.{FieldKind}
use Rattle.pdu_layout.specs.declared.fields.FieldKind.TheVariants.{StateCode, Uuid, Ip}
use Rattle.pdu_layout.specs.Fields.{FieldValue}
use Rattle.pdu_layout.specs.Fields.FieldValue.{Number, Signed, Bytes}
use Rattle.pdu_layout.specs.Table.{FieldRow, Row, row_of}
use Rattle.pdu_layout.specs.Message.{Message}

-- the states, in the order of their codes
abbrev pub states : List State
states = Alive ∷ Configuration ∷ Preparing ∷ Prepared ∷ Configuring ∷ Configured ∷ Initializing ∷ Initialized ∷ SendingI ∷ Synchronizing ∷ Synchronized ∷ Running ∷ Computing ∷ Computed ∷ SendingD ∷ Stopping ∷ Stopped ∷ ErrorHandling ∷ ErrorResolved ∷ []

abbrev pub name_of : Option State → List ℕ
name_of (Some state) = state_name state
name_of None = []

-- the name of the state with this code
unfoldable pub state_word : ℕ → List ℕ
state_word code = name_of (slice_get states code)

-- the text of what a field holds: numbers in decimal, bytes in hexadecimal
abbrev pub value_text : FieldKind → FieldValue → List ℕ
value_text StateCode (Number n) = state_word n
value_text Uuid (Number n) = identity_word n
value_text Ip (Number n) = ip_word n
value_text kind (Number n) = decimal n
value_text kind (Signed z) = signed_decimal z
value_text kind (Bytes bytes) = encode_lower bytes

abbrev pub fields_text : List FieldRow → List FieldValue → List ℕ
fields_text [] values = 10 ∷ []
fields_text (f ∷ fs) [] = 10 ∷ []
fields_text (f ∷ fs) (v ∷ vs) = 32 ∷ (f.name ++ (61 ∷ (value_text f.kind v ++ fields_text fs vs)))

abbrev pub row_line : List ℕ → List FieldRow → List FieldValue → List ℕ
row_line name fields values = name ++ fields_text fields values

abbrev pub printed_row : Option Row → List FieldValue → List ℕ
printed_row None values = []
printed_row (Some row) values = row_line row.name row.fields values

-- the line of a message, by its row of the table
unfoldable pub line_of_message : Message → List ℕ
line_of_message p = printed_row (row_of p.code) p.values
