-- The master of the code stands for a course of the definitions.
use Rattle.std.specs.Prelude.{◌≡◌, ℕ, ◌+◌, ◌-◌, ◌*◌, ◌≤◌, ◌^◌, min, ℤ, Option, Some, None, Bool, false, ◌&&◌, ◌==◌, List, map, length, drop, reverse, All, vec_capacity}
use Rattle.std.specs.List.{flat_map, list_all}
use Rattle.dcp_types.specs.declared.addresses.Address.{Address}
use Rattle.dcp_ends.specs.Events.{Event, Rules}
use Rattle.master_spec.specs.declared.setups.Setup.{Setup}
use Rattle.master_spec.specs.declared.setups.Script.{Script}
use Rattle.dcp_types.specs.declared.limits.Limits.{Limits}
use Rattle.master_spec.specs.declared.reports.Report.{Report}
use Rattle.master_core.specs.declared.records.Talk.{Talk}
use Rattle.master_spec.specs.Course.{Course, course, counted_rows, master_turns, marked, sends_after, mark_of_gram, is_settled, has_passed, row_now, CourseTalk as Said}
use Rattle.master_spec.specs.Marks.{Turned}
use Rattle.master_spec.specs.Jobs.{jobs}
use Rattle.master_spec.specs.Rules.{master_rules_from}
use Rattle.master_core.specs.declared.records.MasterCore.{MasterCore}
use Rattle.master_core.specs.declared.rows.Rows.{Rows}
use Rattle.master_core.specs.declared.stages.Schedule.{Schedule}
use Rattle.master_core.specs.Stages.{first_stage}
use Rattle.master_core.specs.Rest.{rest}
use Rattle.master_core.specs.Each.{Each}
use Rattle.master_core.specs.Talking.{TalkStandsAt, Now, now_in, slave_talked_to, outputs_width}

-- what the master was given
abbrev pub core_setup : MasterCore → Setup
core_setup m = record { address = m.address; limits = m.limits; steps = m.schedule.steps; runs = m.schedule.runs; slaves = map slave_talked_to m.talks.items }

abbrev pub rules_of : MasterCore → Rules
rules_of m = master_rules_from (core_setup m)

-- so many phases are behind the schedule: from its stage on come the jobs that are left
abbrev pub IsBehind : ℕ → Schedule → Type 0
IsBehind done s = (script : Script) → rest s.steps s.runs script s.stage.run s.stage.part ≡ drop done (jobs s.steps s.runs script)

-- the rows, one after the other, with room for all
pub record HasRows (width lines : ℕ) (r : Rows) (rows : List (List ℤ)) : Type 0 where
  pub counted_are : r.counted ≡ length rows
  pub values : r.values.items ≡ flat_map (λ row. row) rows
  pub width_is : r.width ≡ width
  pub each : All (λ row. length row ≡ width) rows
  pub room : width * lines ≤ vec_capacity r.values

-- how many rows all runs have
abbrev pub lines_of : Schedule → ℕ
lines_of s = s.runs * (s.steps + 1)

-- The parts of a master, whose slaves have these jobs now, stand for a course.
pub record Stand (now : Now) (limits : Limits) (phase : ℕ) (talks : List Talk) (schedule : Schedule) (rows : Rows) (report : Option Report) (c : Course) : Type 0 where
  pub phase_is : phase ≡ c.phase
  pub some : 1 ≤ length talks
  pub talks_stand : Each (TalkStandsAt limits now) talks c.talks
  pub rows_are : HasRows (outputs_width talks) (lines_of schedule) rows c.rows
  pub report_is : report ≡ c.report

-- and the schedule is at the phase that began newest, or at the first before one has begun
pub record StandsWith (limits : Limits) (phase : ℕ) (talks : List Talk) (schedule : Schedule) (rows : Rows) (report : Option Report) (c : Course) : Type 0 where
  pub parts : Stand (now_in c.phase schedule) limits phase talks schedule rows report c
  pub first : c.phase ≡ 0 → schedule.stage ≡ first_stage
  pub stage : IsBehind (c.phase - 1) schedule

abbrev pub StandsIn : Now → MasterCore → Course → Type 0
StandsIn now m c = Stand now m.limits m.phase m.talks.items m.schedule m.rows m.report c

abbrev pub StandsFor : MasterCore → Course → Type 0
StandsFor m c = StandsWith m.limits m.phase m.talks.items m.schedule m.rows m.report c

-- and what is to be sent is what the newest event sent
pub record Meets (m : MasterCore) (c : Course) : Type 0 where
  pub stands : StandsFor m c
  pub sent : m.out ≡ c.sent

-- the master after these events, the oldest first
pub record StandsAfter (m : MasterCore) (events : List Event) : Type 0 where
  pub stands : StandsFor m (course (core_setup m) (reverse events))
  pub turns_are : m.turns ≡ min (master_turns (core_setup m) (reverse events)) (2 ^ 64 - 1)

-- the course once a row has been counted, where one is due
abbrev pub with_counted : Course → Course
with_counted c = record { phase = c.phase; talks = c.talks; rows = counted_rows c.talks c.rows; report = c.report; sent = c.sent }

-- the course once all conversations have had their turn
abbrev pub with_talks_turned : Setup → Course → Course
with_talks_turned setup c = record {
  phase = c.phase;
  talks = map (λ talk. marked setup.limits talk (Some (Turned (list_all is_settled c.talks)))) c.talks;
  rows = c.rows;
  report = c.report;
  sent = flat_map (λ talk. sends_after setup.limits talk (Some (Turned (list_all is_settled c.talks)))) c.talks;
}

-- the course once all conversations have been offered a datagram
abbrev pub with_gram_heard : Setup → Address → List ℕ → Course → Course
with_gram_heard setup from bytes c = record {
  phase = c.phase;
  talks = map (λ talk. marked setup.limits talk (mark_of_gram talk from bytes)) c.talks;
  rows = c.rows;
  report = c.report;
  sent = flat_map (λ talk. sends_after setup.limits talk (mark_of_gram talk from bytes)) c.talks;
}

-- the next row is whole
abbrev pub is_due_at : Option ℕ → List Said → List (List ℤ) → Bool
is_due_at None talks rows = false
is_due_at (Some row) talks rows = (length rows == row) && list_all has_passed talks

abbrev pub is_row_due : Course → Bool
is_row_due c = is_due_at (row_now c.talks) c.talks c.rows
