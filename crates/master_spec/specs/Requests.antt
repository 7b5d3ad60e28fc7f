-- What a log shows of the conversation with one slave. The log has its newest entry first, and the place of an entry is the number of those before it.
use Rattle.std.specs.Prelude.{ℕ, ◌+◌, ◌-◌, ◌==◌, ◌&&◌, ◌||◌, not, nat_lt, nat_le, Bool, true, false, if◌then◌else◌, Option, Some, None, is_some, List, [], ◌∷◌, ◌++◌, length, drop, count_by, filter, reverse}
use Rattle.dcp_types.specs.declared.addresses.Address.{Address}
use Rattle.dcp_ends.specs.declared.entries.LogEntry.{LogEntry}
use Rattle.dcp_ends.specs.declared.entries.LogEntry.TheVariants.{Sent, Got, Idle, Turn}
use Rattle.dcp_ends.specs.Logs.{same_address}
use Rattle.pdu_layout.specs.Fields.{FieldValue}
use Rattle.pdu_layout.specs.Fields.FieldValue.{Number, Signed, Bytes}
use Rattle.pdu_layout.specs.Message.{Message}
use Rattle.pdu_layout.specs.Reading.{message_in}
use Rattle.master_spec.specs.declared.requests.Answer.{Answer}
use Rattle.master_spec.specs.declared.requests.Answer.TheVariants.{Ack, Nack, StateAck, ErrorAck, LogAck}
use Rattle.master_spec.specs.News.{News, Answers, Hints, Brings, Nothing, news_of}
use Rattle.master_spec.specs.Jobs.{Job, asked_by}
use Rattle.master_spec.specs.declared.setups.Slave.{Slave}
use Rattle.master_spec.specs.declared.setups.Setup.{Setup}

-- the answer that decides a request, and where it came
pub record Decision : Type 0 where
  pub place : ℕ
  pub answer : Answer

-- a request: its type code, its number, what its fields hold after the receiver, where it was first sent, where again (the newest first), and its decision
pub record Asking : Type 0 where
  pub code : ℕ
  pub number : ℕ
  pub more : List FieldValue
  pub first : ℕ
  pub repeats : List ℕ
  pub decision : Option Decision

-- ---- what a datagram of the master asks

abbrev pub is_request : ℕ → Bool
is_request code = (nat_le 1 code && nat_le code 10) || ((nat_le 32 code && nat_le code 43) || (nat_le 128 code && nat_le code 130))

abbrev pub asking_with : ℕ → (code : ℕ) → List FieldValue → Option Asking
asking_with place code (Number number ∷ Number receiver ∷ more) =
    if is_request code then Some (record { code = code; number = number; more = more; first = place; repeats = []; decision = None }) else None
asking_with place code _ = None

abbrev pub asking_in : ℕ → Option Message → Option Asking
asking_in place None = None
asking_in place (Some m) = asking_with place m.code m.values

-- ---- the requests to a slave, one for each number in a row, the newest first

abbrev pub with_asking : Option Asking → List Asking → List Asking
with_asking None asks = asks
with_asking (Some a) [] = a ∷ []
with_asking (Some a) (b ∷ asks) =
    if a.number == b.number
    then record { code = b.code; number = b.number; more = b.more; first = b.first; repeats = a.first ∷ b.repeats; decision = b.decision } ∷ asks
    else a ∷ b ∷ asks

abbrev pub decided_by : Option Decision → Decision → Option Decision
decided_by None d = Some d
decided_by (Some e) d = Some e

-- the first answer with the newest request's number and the slave as its sender decides it
abbrev pub with_news : (id place : ℕ) → News → List Asking → List Asking
with_news id place (Answers number sender answer) [] = []
with_news id place (Answers number sender answer) (b ∷ asks) =
    if (sender == id) && (number == b.number)
    then record { code = b.code; number = b.number; more = b.more; first = b.first; repeats = b.repeats; decision = decided_by b.decision (record { place = place; answer = answer }) } ∷ asks
    else b ∷ asks
with_news id place (Hints sender) asks = asks
with_news id place (Brings number data_id payload) asks = asks
with_news id place Nothing asks = asks

abbrev pub asks_after : Address → Slave → (place : ℕ) → LogEntry → List Asking → List Asking
asks_after master slave place (Sent from to bytes) asks =
    if same_address from master && same_address to slave.address then with_asking (asking_in place (message_in bytes)) asks else asks
asks_after master slave place (Got at from bytes) asks =
    if same_address at master && same_address from slave.address then with_news slave.id place (news_of bytes) asks else asks
asks_after master slave place (Idle at) asks = asks
asks_after master slave place (Turn at) asks = asks

abbrev pub asks : Address → Slave → List LogEntry → List Asking
asks master slave [] = []
asks master slave (entry ∷ log) = asks_after master slave (length log) entry (asks master slave log)

-- ---- questions on requests, by the type code

abbrev pub is_state_request : Asking → Bool
is_state_request a = nat_le 1 a.code && nat_le a.code 10

abbrev pub is_configuration : Asking → Bool
is_configuration a = nat_le 32 a.code && nat_le a.code 43

-- a request of the spine
abbrev pub is_main : Asking → Bool
is_main a = is_state_request a || is_configuration a

abbrev pub is_prepare : Asking → Bool
is_prepare a = a.code == 3

abbrev pub is_run : Asking → Bool
is_run a = a.code == 6

abbrev pub is_step : Asking → Bool
is_step a = a.code == 7

abbrev pub is_outputs : Asking → Bool
is_outputs a = a.code == 8

abbrev pub is_stop : Asking → Bool
is_stop a = a.code == 9

abbrev pub is_reset : Asking → Bool
is_reset a = a.code == 10

abbrev pub is_state_question : Asking → Bool
is_state_question a = a.code == 128

abbrev pub is_error_question : Asking → Bool
is_error_question a = a.code == 129

-- a step request asks for one step
abbrev pub is_one : List FieldValue → Bool
is_one (Number state ∷ Number steps ∷ []) = steps == 1
is_one _ = false

abbrev pub is_single : Asking → Bool
is_single a = is_one a.more

abbrev pub is_ack : Answer → Bool
is_ack Ack = true
is_ack _ = false

abbrev pub is_acked_by : Option Decision → Bool
is_acked_by None = false
is_acked_by (Some d) = is_ack d.answer

abbrev pub is_acked : Asking → Bool
is_acked a = is_acked_by a.decision

-- ---- phases, by the spine: a request stands in it behind those that are acknowledged

-- how many requests of the spine are acknowledged
abbrev pub acked : List Asking → ℕ
acked asks = count_by (λ a. is_main a && is_acked a) asks

-- the phase of the request at a place of the spine
abbrev pub phase_at : List Job → ℕ → ℕ
phase_at [] i = 0
phase_at (job ∷ js) i = if nat_lt i (length (asked_by job)) then 1 else 1 + phase_at js (i - length (asked_by job))

-- the last phase of which a request was sent; 0 before the first
abbrev pub phase_reached : List Job → List Asking → ℕ
phase_reached js [] = 0
phase_reached js (a ∷ asks) = if is_main a then phase_at js (acked asks) else phase_reached js asks

-- the requests since the last one of an earlier phase
abbrev pub of_phase : List Job → ℕ → List Asking → List Asking
of_phase js p [] = []
of_phase js p (a ∷ asks) = if is_main a && nat_lt (phase_at js (acked asks)) p then [] else a ∷ of_phase js p asks

-- ---- turns of the master

abbrev pub is_turn_of : Address → LogEntry → Bool
is_turn_of master (Turn at) = same_address at master
is_turn_of master (Sent from to bytes) = false
is_turn_of master (Got at from bytes) = false
is_turn_of master (Idle at) = false

-- how many turns of the master stand before a place
abbrev pub turns_before : Address → List LogEntry → ℕ → ℕ
turns_before master log i = count_by (is_turn_of master) (drop (length log - i) log)

-- the turns from one place to a later one, and from a place to the end
abbrev pub turns_between : Address → List LogEntry → (i j : ℕ) → ℕ
turns_between master log i j = turns_before master log j - turns_before master log i

abbrev pub turns_after : Address → List LogEntry → (i : ℕ) → ℕ
turns_after master log i = turns_between master log i (length log)

-- the outputs of a slave under a number came at a place
abbrev pub are_outputs : Slave → (number size : ℕ) → News → Bool
are_outputs slave number size (Brings n id payload) = (n == number) && ((id == slave.id) && (length payload == size))
are_outputs slave number size _ = false

abbrev pub brings_outputs : Address → Slave → (number size : ℕ) → LogEntry → Bool
brings_outputs master slave number size (Got at from bytes) =
    (same_address at master && same_address from slave.address) && are_outputs slave number size (news_of bytes)
brings_outputs master slave number size (Sent from to bytes) = false
brings_outputs master slave number size (Idle at) = false
brings_outputs master slave number size (Turn at) = false
