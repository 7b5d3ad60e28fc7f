-- The master after a list of events, the newest first: all its conversations, the phase, the rows and the report.
use Rattle.std.specs.Prelude.{ℕ, ℤ, ◌+◌, ◌-◌, ◌*◌, ◌%◌, ◌==◌, ◌&&◌, ◌||◌, not, nat_lt, nat_le, Bool, true, false, if◌then◌else◌, Option, Some, None, is_some, List, [], ◌∷◌, ◌++◌, map, length, take, drop, slice_get, unwrap_or}
use Rattle.std.specs.List.{list_all, flat_map}
use Rattle.dcp_types.specs.declared.addresses.Address.{Address}
use Rattle.dcp_types.specs.declared.limits.Limits.{Limits}
use Rattle.dcp_types.specs.declared.data_types.DataType.{DataType}
use Rattle.dcp_types.specs.Values.{width}
use Rattle.dcp_ends.specs.Events.{Event, Gram, Tick, Send}
use Rattle.dcp_ends.specs.Logs.{same_address}
use Rattle.pdu_layout.specs.Reading.{value_in}
use Rattle.master_spec.specs.declared.causes.Cause.{Cause}
use Rattle.master_spec.specs.declared.causes.Verdict.{Verdict}
use Rattle.master_spec.specs.declared.causes.Verdict.TheVariants as verdicts
use Rattle.master_spec.specs.declared.reports.Report.{Report}
use Rattle.master_spec.specs.declared.reports.Report.TheVariants as reports
use Rattle.master_spec.specs.declared.requests.Request.{Request}
use Rattle.master_spec.specs.declared.requests.Request.TheVariants.{Change, Configure, AskState, AskError}
use Rattle.master_spec.specs.Tasks.{task_row}
use Rattle.master_spec.specs.Jobs.{Job}
use Rattle.master_spec.specs.News.{News, Answers, Hints, Brings, Nothing, news_of, request_bytes}
use Rattle.master_spec.specs.Marks.{Mark, Begun, Asked, Again, Answered, Hinted, Brought, Turned, Ended, open_request, verdict_of, job_of, kept}
use Rattle.master_spec.specs.Conversation.{answer_mark, extended, messages_if}
use Rattle.master_spec.specs.declared.setups.Slave.{Slave}
use Rattle.master_spec.specs.declared.setups.Setup.{Setup}
use Rattle.master_spec.specs.Setup.{jobs_of}

-- a conversation: with whom, and all that happened in it
pub record CourseTalk : Type 0 where
  pub slave : Slave
  pub marks : List Mark

-- ---- one conversation and one event

abbrev pub payload_size : List DataType → ℕ
payload_size [] = 0
payload_size (kind ∷ kinds) = width kind + payload_size kinds

-- Which mark a slave's datagram makes. An answer counts with the slave's id as its sender and the number of the open request, a notice with its id, values under its data id with the length of all its outputs.
abbrev pub mark_for : Slave → List Mark → News → Option Mark
mark_for slave marks (Answers number sender answer) =
    answer_mark slave.id number sender answer marks
mark_for slave marks (Hints sender) = if sender == slave.id then Some Hinted else None
mark_for slave marks (Brings number id payload) =
    if (id == slave.id) && (length payload == payload_size slave.types) then Some (Brought number payload) else None
mark_for slave marks Nothing = None

-- only what comes from its address concerns a slave
abbrev pub mark_of_gram : CourseTalk → Address → List ℕ → Option Mark
mark_of_gram talk from bytes = if same_address from talk.slave.address then mark_for talk.slave talk.marks (news_of bytes) else None

-- the conversation after a mark, and what it sends
abbrev pub marked : Limits → CourseTalk → Option Mark → CourseTalk
marked limits talk m = record { slave = talk.slave; marks = extended limits m talk.marks }

abbrev pub send_to : Address → List ℕ → Send
send_to to bytes = record { to = to; bytes = bytes }

abbrev pub sends_after : Limits → CourseTalk → Option Mark → List Send
sends_after limits talk m = map (send_to talk.slave.address) (messages_if limits talk.slave.id m talk.marks)

-- ---- all conversations

pub record Course : Type 0 where
  -- how many phases have begun
  pub phase : ℕ
  -- one conversation for each slave, by number
  pub talks : List CourseTalk
  -- the rows counted so far: the outputs by slave and then by port
  pub rows : List (List ℤ)
  pub report : Option Report
  -- what the newest event sent, in order
  pub sent : List Send

abbrev pub fresh_talk : Slave → CourseTalk
fresh_talk slave = record { slave = slave; marks = [] }

-- before the first event
abbrev pub begin : Setup → Course
begin setup = record { phase = 0; talks = map fresh_talk setup.slaves; rows = []; report = None; sent = [] }

abbrev pub is_settled_as : Verdict → Bool
is_settled_as verdicts.Going = false
is_settled_as verdicts.Passed = true
is_settled_as (verdicts.Ended cause) = true

abbrev pub is_passed_as : Verdict → Bool
is_passed_as verdicts.Going = false
is_passed_as verdicts.Passed = true
is_passed_as (verdicts.Ended cause) = false

abbrev pub is_settled : CourseTalk → Bool
is_settled talk = is_settled_as (verdict_of talk.marks)

abbrev pub has_passed : CourseTalk → Bool
has_passed talk = is_passed_as (verdict_of talk.marks)

-- it has ended, or has passed with no request open
abbrev pub is_quiet : CourseTalk → Bool
is_quiet talk = is_settled talk && not (has_passed talk && is_some (open_request talk.marks))

-- the values of a payload, each in its type's width
abbrev pub values_in : List DataType → List ℕ → List ℤ
values_in [] payload = []
values_in (kind ∷ kinds) payload = value_in kind (take (width kind) payload) ∷ values_in kinds (drop (width kind) payload)

-- the outputs of a slave in a row
abbrev pub talk_outputs : ℕ → CourseTalk → List ℤ
talk_outputs row talk = values_in talk.slave.types (unwrap_or (kept row talk.marks) [])

abbrev pub row_in_job : Option Job → Option ℕ
row_in_job None = None
row_in_job (Some job) = task_row job.task

-- the row of the present phase, which is the same for all
abbrev pub row_now : List CourseTalk → Option ℕ
row_now [] = None
row_now (talk ∷ talks) = row_in_job (job_of talk.marks)

-- a row counts once all have passed its phase together, and then it stays counted
abbrev pub counted_at : Option ℕ → List CourseTalk → List (List ℤ) → List (List ℤ)
counted_at None talks rows = rows
counted_at (Some row) talks rows =
    if (length rows == row) && list_all has_passed talks then rows ++ flat_map (talk_outputs row) talks ∷ [] else rows

abbrev pub counted_rows : List CourseTalk → List (List ℤ) → List (List ℤ)
counted_rows talks rows = counted_at (row_now talks) talks rows

-- ---- a datagram: each conversation takes what is for it

abbrev pub after_gram : Setup → Address → List ℕ → Course → Course
after_gram setup from bytes c =
    let talks = map (λ talk. marked setup.limits talk (mark_of_gram talk from bytes)) c.talks in
    record {
      phase = c.phase;
      talks = talks;
      rows = counted_rows talks c.rows;
      report = c.report;
      sent = flat_map (λ talk. sends_after setup.limits talk (mark_of_gram talk from bytes)) c.talks;
    }

-- ---- a turn

-- the least slave that has ended, and why
abbrev pub failed_by : ℕ → Slave → Verdict → Option Report → Option Report
failed_by phase slave (verdicts.Ended cause) rest = Some (reports.Failed slave.id phase cause)
failed_by phase slave verdicts.Passed rest = rest
failed_by phase slave verdicts.Going rest = rest

abbrev pub failed : ℕ → List CourseTalk → Option Report
failed phase [] = None
failed phase (talk ∷ talks) = failed_by phase talk.slave (verdict_of talk.marks) (failed phase talks)

-- the job of a phase, from 1
abbrev pub begun_with : Option Job → Option Mark
begun_with None = None
begun_with (Some job) = Some (Begun job)

abbrev pub task_begun : Setup → ℕ → CourseTalk → Option Mark
task_begun setup phase talk = begun_with (slice_get (jobs_of setup talk.slave) (phase - 1))

-- how many phases there are: as many as each slave has jobs
abbrev pub phases : Setup → ℕ
phases setup = 1 + setup.runs * (8 + 2 * setup.steps)

-- the next phase begins for all
abbrev pub with_next : Setup → Course → Course
with_next setup c = record {
  phase = c.phase + 1;
  talks = map (λ talk. marked setup.limits talk (task_begun setup (c.phase + 1) talk)) c.talks;
  rows = c.rows;
  report = c.report;
  sent = c.sent ++ flat_map (λ talk. sends_after setup.limits talk (task_begun setup (c.phase + 1) talk)) c.talks;
}

abbrev pub with_report : Course → Report → Course
with_report c report = record { phase = c.phase; talks = c.talks; rows = c.rows; report = Some report; sent = c.sent }

-- once no conversation is going and none that passed is open: the report, or the next phase
abbrev pub decided : Setup → Course → Option Report → Course
decided setup c (Some report) = with_report c report
decided setup c None = if c.phase == phases setup then with_report c (reports.Finished setup.steps) else with_next setup c

-- each conversation has its turn; it was asked before whether all were settled
abbrev pub with_turns : Setup → (settled : Bool) → Course → Course
with_turns setup settled c =
    let talks = map (λ talk. marked setup.limits talk (Some (Turned settled))) c.talks in
    record {
      phase = c.phase;
      talks = talks;
      rows = counted_rows talks c.rows;
      report = c.report;
      sent = flat_map (λ talk. sends_after setup.limits talk (Some (Turned settled))) c.talks;
    }

abbrev pub decided_if : Setup → Bool → Course → Course
decided_if setup false c = c
decided_if setup true c = decided setup c (failed c.phase c.talks)

abbrev pub course_turned : Setup → Course → Course
course_turned setup c = decided_if setup (list_all is_quiet c.talks) c

-- the same, with nothing sent
abbrev pub still : Course → Course
still c = record { phase = c.phase; talks = c.talks; rows = c.rows; report = c.report; sent = [] }

-- Phase 1 begins on the first turn.
abbrev pub course_after_turn : Setup → Course → Course
course_after_turn setup c =
    if c.phase == 0 then with_next setup (still c)
    else course_turned setup (with_turns setup (list_all is_settled c.talks) c)

-- ---- any event; after the report nothing happens

unfoldable pub step : Setup → Event → Course → Course
step setup (Gram from bytes) c = if is_some c.report then still c else after_gram setup from bytes c
step setup Tick c = if is_some c.report then still c else course_after_turn setup c

-- the master after these events, the newest first
abbrev pub course : Setup → List Event → Course
course setup [] = begin setup
course setup (event ∷ events) = step setup event (course setup events)

-- the turns that began without a report
abbrev pub master_turns : Setup → List Event → ℕ
master_turns setup [] = 0
master_turns setup (Gram from bytes ∷ events) = master_turns setup events
master_turns setup (Tick ∷ events) = if is_some (course setup events).report then master_turns setup events else master_turns setup events + 1
