-- The answers that are awaited to a request that was taken.
use Rattle.std.specs.Prelude.{◌≡◌, ◌≤◌, ℕ, zero, suc, Bool, true, false, List, [], ◌∷◌, ◌++◌, length, map, slice_get, Some, None, if◌then◌else◌}
use Rattle.dcp_types.specs.declared.addresses.Address.{Address}
use Rattle.dcp_types.specs.declared.fault_codes.FaultCode.TheVariants.{ModelOverflow, DivideByZero, OutOfRange}
use Rattle.dcp_ends.specs.Events.{Send}
use Rattle.pdu_layout.specs.declared.messages.Stc.{Stc}
use Rattle.pdu_layout.specs.declared.messages.Stc.TheVariants as stc
use Rattle.slave_desc.specs.declared.descriptions.SlaveDesc.{SlaveDesc}
use Rattle.slave_spec.specs.declared.words.SlaveRequest.{SlaveRequest}
use Rattle.slave_spec.specs.Transport.{SlaveAnswer, LogAck, answer_message, send, is_last}
use Rattle.slave_spec.specs.Requests.{is_category}
use Rattle.slave_spec.specs.Foreign.{ForeignPlant, foreign_answers, foreign_answered, hands_out}
use Rattle.conform.specs.declared.faults.Faults.{Faults}
use Rattle.conform.specs.declared.faults.Faults.TheVariants as faults
use Rattle.conform.specs.declared.meanings.Meaning.{Meaning}
use Rattle.conform.specs.declared.meanings.Meaning.TheVariants as meanings
use Rattle.conform.specs.declared.plants.ForeignDevice.{ForeignDevice}
use Rattle.conform.specs.declared.plants.Setting.{Setting}
use Rattle.conform.specs.declared.plants.Setting.TheVariants as settings
use Rattle.conform.specs.Plants.{ForeignFor}

-- the fault with this place
abbrev pub fault_at : Faults → ℕ → Faults
fault_at faults.Model zero = faults.One ModelOverflow
fault_at faults.Model (suc zero) = faults.One DivideByZero
fault_at faults.Model (suc (suc i)) = faults.One OutOfRange
fault_at f i = f

-- the machine after the answer with this place
abbrev pub settled : Meaning → ℕ → ForeignDevice → ForeignDevice
settled meanings.Logging (suc zero) c = record c { logs = true }
settled meanings.Fault i c = record c { faults = fault_at c.faults i }
settled meaning i c = c

abbrev pub is_entries : Meaning → Bool
is_entries meanings.Entries = true
is_entries meaning = false

abbrev pub is_ending : Meaning → Bool
is_ending meanings.Last = true
is_ending meaning = false

abbrev pub reply : Address → SlaveRequest → (next : ℕ) → SlaveAnswer → Send
reply to r next answer = send to (answer_message r next answer)

-- the beginning of an answer with entries
abbrev pub heads : Meaning → Address → SlaveRequest → List Send
heads meanings.Entries to r = reply to r 0 (LogAck []) ∷ []
heads meaning to r = []

-- The answers stand in the outbox, and the machine stands so that each of them leads on with what it means.
pub record HasAnswersOut (d : SlaveDesc) (p : ForeignPlant) (to : Address) (r : SlaveRequest) (next : ℕ) (meaning : Meaning) (plant : ForeignDevice) (out : List Send) : Type 0 where
  pub out_is : out ≡ map (reply to r next) (foreign_answers d p r.asked) ++ heads meaning to r
  pub few : length (foreign_answers d p r.asked) ≤ 3
  pub entries : hands_out r.asked ≡ is_entries meaning
  pub last : (i : ℕ) (a : SlaveAnswer) → slice_get (foreign_answers d p r.asked) i ≡ Some a → is_last r.asked a ≡ is_ending meaning
  pub after : (i : ℕ) (a : SlaveAnswer) → slice_get (foreign_answers d p r.asked) i ≡ Some a → ForeignFor (settled meaning i plant) d (foreign_answered d p r.asked a)
  pub handed : is_entries meaning ≡ true → ForeignFor plant d p

-- what an answer to a change of state, to a setting, and to a question for entries means
abbrev pub change_meaning : Stc → (accepted : Bool) → Meaning
change_meaning stc.Deregister true = meanings.Last
change_meaning body accepted = meanings.Plain

abbrev pub setting_meaning : Setting → Meaning
setting_meaning (settings.Logging None) = meanings.Logging
setting_meaning setting = meanings.Plain

abbrev pub log_meaning : (category : ℕ) → Meaning
log_meaning category = if is_category category then meanings.Entries else meanings.Plain
