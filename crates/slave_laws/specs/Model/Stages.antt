-- Where the exchanges with a slave have it, by the table of states. Exchanges have the newest first.
use Rattle.std.specs.Prelude.{◌≡◌, ℕ, ◌==◌, Bool, true, false, if◌then◌else◌, ◌⊎◌, Option, Some, None, List, [], ◌∷◌}
use Rattle.dcp_types.specs.declared.states.State.{State}
use Rattle.dcp_types.specs.declared.states.State.TheVariants.{Alive}
use Rattle.dcp_types.specs.declared.error_codes.ErrorCode.{ErrorCode}
use Rattle.dcp_types.specs.Codes.{state_code}
use Rattle.pdu_layout.specs.declared.messages.Stc.{Stc}
use Rattle.pdu_layout.specs.declared.messages.Inf.TheVariants as inf
use Rattle.pdu_layout.specs.Fields.{FieldValue}
use Rattle.pdu_layout.specs.Fields.FieldValue.{Number}
use Rattle.log_spec.specs.Messages.{Note}
use Rattle.log_spec.specs.Log.{DecidedRequest}
use Rattle.slave_states.specs.Transitions.{transition_row, next_on_turn, is_same}
use Rattle.slave_spec.specs.declared.words.SlaveRequest.{SlaveRequest}
use Rattle.slave_spec.specs.declared.words.Asked.{Asked}
use Rattle.slave_spec.specs.declared.words.Asked.TheVariants.{Change, Setting, Question}
use Rattle.slave_spec.specs.Transport.{SlaveAnswer, Ack, Nack, StateAck, ErrorAck}
use Rattle.slave_spec.specs.Requests.{is_in_error}
use Rattle.slave_laws.specs.Talk.Desks.{answer_note}
use Rattle.plan_laws.specs.Course.Taken.{asked_in, is_acknowledged}

-- ---- the states to which a change leads
abbrev pub first_state : Option State → Option State → Option State
first_state None other = other
first_state (Some state) other = Some state

-- the state right after a change that names the state before it, whether initial outputs were sent or not
abbrev pub entered_by : Stc → (named : State) → Option State
entered_by request named = first_state (transition_row request named false) (transition_row request named true)

-- the state that is reached from there by turns alone
abbrev pub reached_by_turns : State → State
reached_by_turns state = next_on_turn state 0

-- ---- read off the exchanges
pub record SlaveStage : Type 0 where
  -- the state right after the newest acknowledged change
  pub entered : State
  -- the slave has told since that it is where turns alone lead from there
  pub rested : Bool

abbrev pub stage_entered : Option State → SlaveStage → SlaveStage
stage_entered None g = g
stage_entered (Some state) g = record { entered = state; rested = false }

abbrev pub stage_changed : Stc → (named : State) → (acked : Bool) → SlaveStage → SlaveStage
stage_changed request named true g = stage_entered (entered_by request named) g
stage_changed request named false g = g

-- by the state with this code, which was told
abbrev pub stage_told : Option ℕ → SlaveStage → SlaveStage
stage_told None g = g
stage_told (Some code) g = if code == state_code (reached_by_turns g.entered) then record { entered = g.entered; rested = true } else g

-- by what was asked, whether it was acknowledged, and which state was told
abbrev pub stage_after : Option Asked → (acked : Bool) → (told : Option ℕ) → SlaveStage → SlaveStage
stage_after (Some (Change named request)) acked told g = stage_changed request named acked g
stage_after (Some (Question inf.State)) acked told g = stage_told told g
stage_after asked acked told g = g

-- the code of the state that an answer names
abbrev pub third_number : List FieldValue → Option ℕ
third_number (Number number ∷ Number sender ∷ Number state ∷ more) = Some state
third_number values = None

abbrev pub state_in_note : Note → Option ℕ
state_in_note a = if a.message.code == 178 then third_number a.message.values else None

abbrev pub stage_by : List DecidedRequest → SlaveStage
stage_by [] = record { entered = Alive; rested = false }
stage_by (e ∷ es) = stage_after (asked_in e.request) (is_acknowledged e.answer) (state_in_note e.answer) (stage_by es)

-- ---- what a slave may answer
-- it is where turns lead, or, until it has told so, where it entered; or it is in error
abbrev pub IsInStage : SlaveStage → State → Type 0
IsInStage g state = (state ≡ reached_by_turns g.entered) ⊎ (((state ≡ g.entered) × (g.rested ≡ false)) ⊎ (is_in_error state ≡ true))

abbrev pub IsNoteOf : Note → SlaveAnswer → Type 0
IsNoteOf a answer = (r : SlaveRequest) × ((next : ℕ) × (a ≡ answer_note r next answer))

-- an acknowledgement or a refusal
abbrev pub IsVerdictNote : Note → Type 0
IsVerdictNote a = IsNoteOf a Ack ⊎ ((code : ErrorCode) × IsNoteOf a (Nack code))

-- a change or a setting is acknowledged or refused; a question for the state is answered with the state of a session, and one for the fault with a code
abbrev pub FitsStage : Option Asked → SlaveStage → Note → Type 0
FitsStage None g a = ⊥
FitsStage (Some (Change named request)) g a = IsVerdictNote a
FitsStage (Some (Setting body)) g a = IsVerdictNote a
FitsStage (Some (Question inf.State)) g a = (state : State) × (IsNoteOf a (StateAck state) × (IsInStage g state × (is_same state Alive ≡ false)))
FitsStage (Some (Question inf.Error)) g a = (code : ℕ) × IsNoteOf a (ErrorAck code)
FitsStage (Some (Question (inf.Log category most))) g a = Unit {0}

-- each answer fits the exchanges before it
abbrev pub AllFitStages : List DecidedRequest → Type 0
AllFitStages [] = Unit {0}
AllFitStages (e ∷ es) = FitsStage (asked_in e.request) (stage_by es) e.answer × AllFitStages es
