-- Messages of a slave have spellings.
use Rattle.std.proofs.Common.{◌≡◌, ℕ, ◌<◌, ◌≤◌, List, [], ◌∷◌, ◌++◌, length, refl, arith, length-append}
use Rattle.dcp_types.proofs.Digits.{IsBytes}
use Rattle.dcp_types.specs.Codes.{state_code}
use Rattle.dcp_types.specs.declared.states.State.{State}
use Rattle.dcp_types.specs.declared.states.State.TheVariants.{Alive, Configuration, Preparing, Prepared, Configuring, Configured, Initializing, Initialized, SendingI, Synchronizing, Synchronized, Running, Computing, Computed, SendingD, Stopping, Stopped, ErrorHandling, ErrorResolved}
use Rattle.dcp_types.specs.declared.addresses.Address.{Address}
use Rattle.dcp_types.specs.Values.{digits}
use Rattle.dcp_ends.specs.Events.{Send}
use Rattle.pdu_layout.specs.declared.fields.FieldKind.TheVariants.{U8, U16, StateCode, Rest}
use Rattle.pdu_layout.specs.Fields.FieldValue.{Number, Bytes}
use Rattle.pdu_layout.specs.Message.{Message, Spells, HasSpelling}
use Rattle.pdu_layout.specs.Reading.{spelling}
use Rattle.slave_spec.specs.declared.words.SlaveRequest.{SlaveRequest}
use Rattle.slave_spec.specs.Transport.{SlaveAnswer, Ack, Nack, StateAck, ErrorAck, LogAck, Exchange, again, answer_message, send, expected}
use Rattle.slave_core.specs.Standing.{newest_answer}
use Rattle.slave_core.specs.Core.{bytes_again}

pub nack_spelled : (a b c d : ℕ) → a < 65536 → b < 256 → c < 65536 → d < 65536 → HasSpelling (record { code = 177; values = Number a ∷ Number b ∷ Number c ∷ Number d ∷ [] })
unfolding digits
nack_spelled a b c d ha hb hc hd =
    (_, record { kinds = U16 ∷ U8 ∷ U16 ∷ U16 ∷ []; listed = refl; fits = (ha, (hb, (hc, (hd, tt)))); bytes = refl; at_most = omega arith })

pub ack_spelled : (a b : ℕ) → a < 65536 → b < 256 → HasSpelling (record { code = 176; values = Number a ∷ Number b ∷ [] })
unfolding digits
ack_spelled a b ha hb = (_, record { kinds = U16 ∷ U8 ∷ []; listed = refl; fits = (ha, (hb, tt)); bytes = refl; at_most = omega arith })

pub error_spelled : (a b c : ℕ) → a < 65536 → b < 256 → c < 65536 → HasSpelling (record { code = 179; values = Number a ∷ Number b ∷ Number c ∷ [] })
unfolding digits
error_spelled a b c ha hb hc = (_, record { kinds = U16 ∷ U8 ∷ U16 ∷ []; listed = refl; fits = (ha, (hb, (hc, tt))); bytes = refl; at_most = omega arith })

state_below : (s : State) → state_code s < 19
state_below Alive = omega arith
state_below Configuration = omega arith
state_below Preparing = omega arith
state_below Prepared = omega arith
state_below Configuring = omega arith
state_below Configured = omega arith
state_below Initializing = omega arith
state_below Initialized = omega arith
state_below SendingI = omega arith
state_below Synchronizing = omega arith
state_below Synchronized = omega arith
state_below Running = omega arith
state_below Computing = omega arith
state_below Computed = omega arith
state_below SendingD = omega arith
state_below Stopping = omega arith
state_below Stopped = omega arith
state_below ErrorHandling = omega arith
state_below ErrorResolved = omega arith

pub state_spelled : (a b : ℕ) (s : State) → a < 65536 → b < 256 → HasSpelling (record { code = 178; values = Number a ∷ Number b ∷ Number (state_code s) ∷ [] })
unfolding digits
state_spelled a b s ha hb = (_, record { kinds = U16 ∷ U8 ∷ StateCode ∷ []; listed = refl; fits = (ha, (hb, (state_below s, tt))); bytes = refl; at_most = omega arith })

pub changed_spelled : (b : ℕ) (s : State) → b < 256 → HasSpelling (record { code = 224; values = Number b ∷ Number (state_code s) ∷ [] })
unfolding digits
changed_spelled b s hb = (_, record { kinds = U8 ∷ StateCode ∷ []; listed = refl; fits = (hb, (state_below s, tt)); bytes = refl; at_most = omega arith })

pub entries_spelled : (a b : ℕ) (x : List ℕ) → a < 65536 → b < 256 → IsBytes x → length x ≤ 704 → HasSpelling (record { code = 180; values = Number a ∷ Number b ∷ Bytes x ∷ [] })
unfolding digits
entries_spelled a b x ha hb hx few = (_, record { kinds = U16 ∷ U8 ∷ Rest ∷ []; listed = refl; fits = (ha, (hb, (hx, tt))); bytes = refl; at_most = omega (arith, length-append x []) })

pub noted_spelled : (b c d : ℕ) (x : List ℕ) → b < 256 → c < 256 → d < 256 → IsBytes x → length x ≤ 704 → HasSpelling (record { code = 225; values = Number b ∷ Number c ∷ Number d ∷ Bytes x ∷ [] })
unfolding digits
noted_spelled b c d x hb hc hd hx few = (_, record { kinds = U8 ∷ U8 ∷ U8 ∷ Rest ∷ []; listed = refl; fits = (hb, (hc, (hd, (hx, tt)))); bytes = refl; at_most = omega (arith, length-append x []) })

answer_again : (to : Address) (r : SlaveRequest) (next : ℕ) (a : SlaveAnswer) → bytes_again to (spelling (answer_message r next a)) ≡ send to (answer_message r next a) ∷ []
unfolding spelling
answer_again to r next Ack = refl
answer_again to r next (Nack code) = refl
answer_again to r next (StateAck state) = refl
answer_again to r next (ErrorAck code) = refl
answer_again to r next (LogAck entries) = refl

pub again_is : (to : Address) (served : List Exchange) → bytes_again to (newest_answer served) ≡ again to served
again_is to [] = refl
again_is to (e ∷ served) = answer_again to e.request (expected (e ∷ served)) e.answer
