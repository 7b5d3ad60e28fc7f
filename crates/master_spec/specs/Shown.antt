-- Why a run failed, read off its log.
use Rattle.std.specs.Prelude.{◌≡◌, ℕ, ◌+◌, ◌-◌, ◌%◌, ◌<◌, ◌≤◌, ◌&&◌, max, Bool, true, false, IsTrue, IsFalse, if◌then◌else◌, Option, Some, None, IfSome, List, [], ◌∷◌, length, filter, slice_get, find}
use Rattle.std.specs.List.{list_any}
use Rattle.dcp_ends.specs.declared.entries.LogEntry.{LogEntry}
use Rattle.master_spec.specs.declared.tasks.Task.{Task}
use Rattle.master_spec.specs.declared.tasks.Task.TheVariants as tasks
use Rattle.master_spec.specs.declared.causes.Cause.{Cause}
use Rattle.master_spec.specs.declared.causes.Cause.TheVariants as causes
use Rattle.master_spec.specs.Tasks.{target_of, passing_of, task_row, task_step}
use Rattle.master_spec.specs.declared.requests.Answer.{Answer}
use Rattle.master_spec.specs.declared.requests.Answer.TheVariants.{Ack, Nack, StateAck, ErrorAck}
use Rattle.master_spec.specs.News.{type_in_answer, state_in_answer}
use Rattle.master_spec.specs.Marks.{is_missing}
use Rattle.master_spec.specs.Conversation.{is_error, is_state}
use Rattle.master_spec.specs.declared.setups.Slave.{Slave}
use Rattle.master_spec.specs.declared.setups.Setup.{Setup}
use Rattle.master_spec.specs.Setup.{jobs_of}
use Rattle.master_spec.specs.Requests.{Asking, Decision, asks, is_main, is_state_request, is_step, is_outputs, is_state_question, is_error_question, is_acked, phase_reached, of_phase, turns_between, turns_after}
use Rattle.master_spec.specs.Exchanged.{IsIn, Brings, IsDecided}

-- the last phase of which a request was sent to any slave
abbrev pub last_phase_of : Setup → List LogEntry → List Slave → ℕ
last_phase_of setup log [] = 0
last_phase_of setup log (s ∷ slaves) = max (phase_reached (jobs_of setup s) (asks setup.address s log)) (last_phase_of setup log slaves)

abbrev pub last_phase : Setup → List LogEntry → ℕ
last_phase setup log = last_phase_of setup log setup.slaves

-- each repeat comes in the turn_limit-th turn after the sending before it; the newest first
abbrev pub AreSpaced : Setup → List LogEntry → (first : ℕ) → List ℕ → Type 0
AreSpaced setup log first [] = Unit {0}
AreSpaced setup log first (i ∷ []) = turns_between setup.address log first i ≡ setup.limits.turn_limit
AreSpaced setup log first (j ∷ i ∷ is) = (turns_between setup.address log i j ≡ setup.limits.turn_limit) × AreSpaced setup log first (i ∷ is)

abbrev pub last_sending : ℕ → List ℕ → ℕ
last_sending first [] = first
last_sending first (i ∷ is) = i

-- sent as often as the limit says, each time after the turns of the limit, and not answered within them
pub record IsUnanswered (setup : Setup) (log : List LogEntry) (r : Asking) : Type 0 where
  pub often : length r.repeats + 1 ≡ setup.limits.tries
  pub spaced : AreSpaced setup log r.first r.repeats
  pub turns : setup.limits.turn_limit ≤ turns_after setup.address log (last_sending r.first r.repeats)
  pub late : IfSome r.decision (λ d. setup.limits.turn_limit ≤ turns_between setup.address log (last_sending r.first r.repeats) d.place)

-- an answer that names the target
abbrev pub names_in : Task → Answer → Bool
names_in task (StateAck state) = is_state (target_of task) state
names_in task _ = false

abbrev pub names_target : Task → Option Decision → Bool
names_target task None = false
names_target task (Some d) = names_in task d.answer

-- the answer fits the request: earlier are the requests of the phase before it, for the state's target. To a question for the log any answer fits
abbrev pub fits_change : Answer → Bool
fits_change Ack = true
fits_change (Nack code) = true
fits_change _ = false

abbrev pub fits_error : Answer → Bool
fits_error (ErrorAck code) = true
fits_error (Nack code) = true
fits_error _ = false

abbrev pub fits_state : Task → List Asking → Answer → Bool
fits_state task earlier (Nack code) = true
fits_state task earlier (StateAck state) =
    if is_error state then true
    else if is_state (target_of task) state then true
    else if is_state (passing_of task) state then (if list_any (λ a. is_state_question a && names_target task a.decision) earlier then false else true)
    else false
fits_state task earlier _ = false

abbrev pub fits_answer : Task → (r : Asking) → List Asking → Answer → Bool
fits_answer task r earlier answer =
    if is_main r then fits_change answer
    else if is_error_question r then fits_error answer
    else if is_state_question r then fits_state task earlier answer
    else true

-- a step that was refused because inputs were missing
abbrev pub IsMissing : Asking → Type 0
IsMissing a = (place code : ℕ) × IsDecided a place (Nack code) × IsTrue (is_missing code)

-- the last request to a slave, the requests before it in its phase, and the task of the phase, which has begun
pub record Last (setup : Setup) (log : List LogEntry) (slave : Slave) (p : ℕ) (task : Task) (r : Asking) (earlier : List Asking) : Type 0 where
  pub phase : p ≡ last_phase setup log
  pub begun : 1 ≤ p
  pub job : (list : List _) × (slice_get (jobs_of setup slave) (p - 1) ≡ Some (record { task = task; list = list }))
  pub last : of_phase (jobs_of setup slave) p (asks setup.address slave log) ≡ r ∷ earlier

pub record MissesInputs (setup : Setup) (log : List LogEntry) (task : Task) (r : Asking) (earlier : List Asking) (k : ℕ) : Type 0 where
  pub step : task ≡ tasks.Step k
  pub asks_step : IsTrue (is_step r)
  pub tries : length (filter is_step (r ∷ earlier)) ≡ setup.limits.step_tries
  pub each : (i : ℕ) (a : Asking) → slice_get (filter is_step (r ∷ earlier)) i ≡ Some a → IsMissing a

pub record MissesOutputs (setup : Setup) (log : List LogEntry) (slave : Slave) (task : Task) (r : Asking) (earlier : List Asking) (k : ℕ) : Type 0 where
  pub row : ℕ
  pub row_is : task_row task ≡ Some row
  pub step : task_step task ≡ k
  pub asks_state : IsTrue (is_state_question r)
  pub place : ℕ
  pub state : ℕ
  pub told : IsDecided r place (StateAck state)
  pub target : IsTrue (is_state (target_of task) state)
  pub turns : setup.limits.data_turns ≤ turns_after setup.address log place
  pub request : Asking
  pub request_is : find is_outputs earlier ≡ Some request
  pub missing : (i : ℕ) → request.first < i → Brings setup log slave (row % 65536) i → setup.limits.data_turns ≤ turns_between setup.address log place i

pub record IsStuck (setup : Setup) (log : List LogEntry) (task : Task) (r : Asking) (earlier : List Asking) (t : ℕ) : Type 0 where
  pub asks_state : IsTrue (is_state_question r)
  pub place : ℕ
  pub told : IsDecided r place (StateAck t)
  pub passing : IsTrue (is_state (passing_of task) t)
  pub request : Asking
  pub request_is : find (λ a. is_state_request a && is_acked a) earlier ≡ Some request
  pub acked : ℕ
  pub request_done : IsDecided request acked Ack
  pub late : setup.limits.state_limit ≤ turns_between setup.address log acked r.first

pub record IsFaulted (r : Asking) (earlier : List Asking) (c : ℕ) : Type 0 where
  pub asks_error : IsTrue (is_error_question r)
  pub place : ℕ
  pub told : IsDecided r place (ErrorAck c)
  pub question : Asking
  pub before : (rest : List Asking) × (earlier ≡ question ∷ rest)
  pub asked_state : IsTrue (is_state_question question)
  pub state : ℕ
  pub at : ℕ
  pub named : IsDecided question at (StateAck state)
  pub error : IsTrue (is_error state)

pub record IsRefusedAsking (r : Asking) (c : ℕ) : Type 0 where
  pub place : ℕ
  pub told : IsDecided r place (Nack c)
  pub other : IsFalse (is_step r && is_missing c)

pub record IsUnexpected (task : Task) (r : Asking) (earlier : List Asking) (y t : ℕ) : Type 0 where
  pub place : ℕ
  pub answer : Answer
  pub told : IsDecided r place answer
  pub type_is : type_in_answer answer ≡ y
  pub state_is : state_in_answer answer ≡ t
  pub unfit : IsFalse (fits_answer task r earlier answer)

abbrev pub ShownBy : Setup → List LogEntry → Slave → Task → Asking → List Asking → Cause → Type 0
ShownBy setup log slave task r earlier (causes.NoAnswer q) = (r.number ≡ q) × IsUnanswered setup log r
ShownBy setup log slave task r earlier (causes.Refused q c) = (r.number ≡ q) × IsRefusedAsking r c
ShownBy setup log slave task r earlier (causes.InputsMissing q k) = (r.number ≡ q) × MissesInputs setup log task r earlier k
ShownBy setup log slave task r earlier (causes.DataMissing k) = MissesOutputs setup log slave task r earlier k
ShownBy setup log slave task r earlier (causes.Stuck q t) = (r.number ≡ q) × IsStuck setup log task r earlier t
ShownBy setup log slave task r earlier (causes.Faulted q c) = (r.number ≡ q) × IsFaulted r earlier c
ShownBy setup log slave task r earlier (causes.Unexpected q y t) = (r.number ≡ q) × IsUnexpected task r earlier y t

-- The log shows this cause for this slave: it ended in phase p, the last that was begun.
pub record Shown (setup : Setup) (log : List LogEntry) (slave : Slave) (p : ℕ) (cause : Cause) : Type 0 where
  pub task : Task
  pub request : Asking
  pub earlier : List Asking
  pub last : Last setup log slave p task request earlier
  pub shown : ShownBy setup log slave task request earlier cause

-- The log shows it, and nothing for any slave of a lesser number.
pub record First (setup : Setup) (log : List LogEntry) (slave : Slave) (p : ℕ) (cause : Cause) : Type 0 where
  pub is_in : IsIn setup slave
  pub shown : Shown setup log slave p cause
  pub none_before : (t : Slave) → IsIn setup t → t.id < slave.id → (other : Cause) → Shown setup log t p other → ⊥
