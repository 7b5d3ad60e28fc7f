-- A slave stands for a list of events.
use Rattle.std.specs.Prelude.{◌≡◌, ℕ, List, [], ◌∷◌, Bool, true, false}
use Rattle.dcp_types.specs.declared.addresses.Address.{Address}
use Rattle.dcp_ends.specs.Events.{Event, Send}
use Rattle.pdu_layout.specs.Reading.{spelling}
use Rattle.slave_spec.specs.declared.words.SlaveRequest.{SlaveRequest}
use Rattle.slave_spec.specs.declared.words.Session.{Session}
use Rattle.slave_spec.specs.declared.words.Session.TheVariants.{Before, During, After}
use Rattle.slave_spec.specs.Transport.{Exchange, SlaveState, Answered, expected, answer_message, send, notice_sends}
use Rattle.slave_spec.specs.Plants.{Plant}
use Rattle.slave_spec.specs.Slaves.{slave_after}

-- the bytes of the newest answer
abbrev pub newest_answer : List Exchange → List ℕ
newest_answer [] = []
newest_answer (e ∷ served) = spelling (answer_message e.request (expected (e ∷ served)) e.answer)

-- what the transport keeps of a slave
pub record SessionStandsAt (at : Session) (next : ℕ) (bytes : List ℕ) (turns : ℕ) (Stands : Plant → Type 0) (x : SlaveState Plant) : Type 0 where
  pub session : at ≡ x.session
  pub number : next ≡ expected x.served
  pub kept : bytes ≡ newest_answer x.served
  pub quiet : turns ≡ x.quiet
  pub inner : Stands x.inner

-- the session after a taken request, where it is known whether that was the last one
abbrev pub session_with : Session → Address → ℕ → Bool → Session
session_with Before from receiver ends = During from receiver
session_with (During master id) from receiver true = After master id
session_with (During master id) from receiver false = During master id
session_with (After master id) from receiver ends = After master id

-- what is sent for a taken request, with the next number
abbrev pub answering : Address → SlaveRequest → (next : ℕ) → Answered Plant → List Send
answering from r next a = send from (answer_message r next a.answer) ∷ notice_sends from r.receiver a.notices
