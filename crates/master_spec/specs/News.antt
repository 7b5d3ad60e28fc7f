-- What a datagram tells the master.
use Rattle.std.specs.Prelude.{ℕ, ◌==◌, if◌then◌else◌, List, [], ◌∷◌, Option, Some, None}
use Rattle.dcp_types.specs.declared.addresses.Address.{Address}
use Rattle.pdu_layout.specs.declared.messages.Pdu.{Pdu}
use Rattle.pdu_layout.specs.declared.messages.Pdu.TheVariants as pdu
use Rattle.pdu_layout.specs.declared.messages.Inf.TheVariants as inf
use Rattle.pdu_layout.specs.Fields.{FieldValue}
use Rattle.pdu_layout.specs.Fields.FieldValue.{Number, Signed, Bytes}
use Rattle.pdu_layout.specs.Message.{Message, message_of}
use Rattle.pdu_layout.specs.Reading.{message_in, spelling}
use Rattle.master_spec.specs.declared.requests.Request.{Request}
use Rattle.master_spec.specs.declared.requests.Request.TheVariants.{Change, Configure, AskState, AskError}
use Rattle.master_spec.specs.declared.requests.Answer.{Answer}
use Rattle.master_spec.specs.declared.requests.Answer.TheVariants.{Ack, Nack, StateAck, ErrorAck, LogAck}

-- the type code of an answer, and the code of the state that it names, 255 where it names none
abbrev pub type_in_answer : Answer → ℕ
type_in_answer Ack = 176
type_in_answer (Nack code) = 177
type_in_answer (StateAck state) = 178
type_in_answer (ErrorAck code) = 179
type_in_answer LogAck = 180

abbrev pub state_in_answer : Answer → ℕ
state_in_answer Ack = 255
state_in_answer (Nack code) = 255
state_in_answer (StateAck state) = state
state_in_answer (ErrorAck code) = 255
state_in_answer LogAck = 255

-- an answer, the notice of a new state, values under a data id, or what does not count
pub data News : Type 0 where
  Answers : (number sender : ℕ) → Answer → News
  Hints : (sender : ℕ) → News
  Brings : (number id : ℕ) → (payload : List ℕ) → News
  Nothing : News

abbrev pub acks : List FieldValue → News
acks (Number number ∷ Number sender ∷ []) = Answers number sender Ack
acks _ = Nothing

abbrev pub nacks : List FieldValue → News
nacks (Number number ∷ Number sender ∷ Number expected ∷ Number code ∷ []) = Answers number sender (Nack code)
nacks _ = Nothing

abbrev pub state_acks : List FieldValue → News
state_acks (Number number ∷ Number sender ∷ Number state ∷ []) = Answers number sender (StateAck state)
state_acks _ = Nothing

abbrev pub error_acks : List FieldValue → News
error_acks (Number number ∷ Number sender ∷ Number code ∷ []) = Answers number sender (ErrorAck code)
error_acks _ = Nothing

abbrev pub log_acks : List FieldValue → News
log_acks (Number number ∷ Number sender ∷ Bytes entries ∷ []) = Answers number sender LogAck
log_acks _ = Nothing

abbrev pub hints : List FieldValue → News
hints (Number sender ∷ Number state ∷ []) = Hints sender
hints _ = Nothing

abbrev pub news_brought : List FieldValue → News
news_brought (Number number ∷ Number id ∷ Bytes payload ∷ []) = Brings number id payload
news_brought _ = Nothing

-- by the type code
abbrev pub news_by : ℕ → List FieldValue → News
news_by code values =
    if code == 176 then acks values
    else if code == 177 then nacks values
    else if code == 178 then state_acks values
    else if code == 179 then error_acks values
    else if code == 180 then log_acks values
    else if code == 224 then hints values
    else if code == 240 then news_brought values
    else Nothing

abbrev pub news_in : Option Message → News
news_in None = Nothing
news_in (Some m) = news_by m.code m.values

-- what the bytes of a datagram tell
unfoldable pub news_of : List ℕ → News
news_of bytes = news_in (message_in bytes)

-- a request to the slave with this id, under this number, as a message
abbrev pub pdu_of : (number id : ℕ) → Request → Pdu
pdu_of number id (Change state body) = pdu.Stc number id state body
pdu_of number id (Configure body) = pdu.Cfg number id body
pdu_of number id AskState = pdu.Inf number id inf.State
pdu_of number id AskError = pdu.Inf number id inf.Error

-- its bytes
unfoldable pub request_bytes : (number id : ℕ) → Request → List ℕ
request_bytes number id request = spelling (message_of (pdu_of number id request))
