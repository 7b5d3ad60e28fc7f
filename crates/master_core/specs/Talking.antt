-- A conversation of the code, with its slave and the outputs that it keeps, stands for one of the course.
use Rattle.std.specs.Prelude.{◌≡◌, ℕ, ◌+◌, zero, suc, Option, Some, None, List, [], ◌∷◌, length, take, ℤ}
use Rattle.dcp_types.specs.declared.data_types.DataType.{DataType}
use Rattle.dcp_types.specs.declared.limits.Limits.{Limits}
use Rattle.conversation.specs.Standing.{Stands, job_row, is_list_of}
use Rattle.master_spec.specs.declared.setups.Slave.{Slave}
use Rattle.master_spec.specs.Jobs.{Job}
use Rattle.master_spec.specs.Marks.{Mark, job_of, latest, kept}
use Rattle.master_spec.specs.Course as course
use Rattle.master_spec.specs.Course.{payload_size, values_in}
use Rattle.master_core.specs.declared.records.Talk.{Talk}
use Rattle.master_core.specs.declared.stages.Schedule.{Schedule}
use Rattle.master_core.specs.declared.stages.Stage.{Stage}
use Rattle.master_core.specs.Stages.{job_at, list_in}
use Rattle.master_spec.specs.Askable.{IsLatestAskable, IsPresentAskable, IsScriptAskable}

-- the job that each slave has now, if any
abbrev pub Now : Type 0
Now = Slave → Option Job

abbrev pub at_stage : ℕ → Stage → Now
at_stage steps stage slave = Some (job_at steps stage slave.script)

-- before the first phase there is none
abbrev pub now_in : (phase : ℕ) → Schedule → Now
now_in zero s slave = None
now_in (suc phase) s slave = at_stage s.steps s.stage slave

-- the lists that go with these jobs are those of the present phase
abbrev pub IsNow : Schedule → Now → Type 0
IsNow s now = (slave : Slave) → is_list_of (now slave) (list_in slave.script s.stage.run s.stage.part)

abbrev pub slave_talked_to : Talk → Slave
slave_talked_to t = t.slave

-- nothing has happened in the conversation
pub record IsFreshTalk (limits : Limits) (t : Talk) : Type 0 where
  pub stands : Stands t.conversation []
  pub id : t.conversation.id ≡ t.slave.id
  pub limits_are : t.conversation.limits ≡ limits

-- the outputs that were kept for the present row stand in the room for them
abbrev pub HasKept : List DataType → List ℕ → List Mark → Type 0
HasKept types room marks = (row : ℕ) (payload : List ℕ) → job_row (job_of marks) ≡ Some row → kept row marks ≡ Some payload → take (payload_size types) room ≡ payload

pub record TalkStandsAt (limits : Limits) (now : Now) (t : Talk) (talk : course.CourseTalk) : Type 0 where
  pub slave : t.slave ≡ talk.slave
  pub stands : Stands t.conversation talk.marks
  pub id : t.conversation.id ≡ t.slave.id
  pub limits_are : t.conversation.limits ≡ limits
  pub job : job_of talk.marks ≡ now t.slave
  pub jobs : IsPresentAskable (job_of talk.marks)
  pub latest_is : IsLatestAskable (latest talk.marks)
  pub outputs : HasKept t.slave.types t.outputs talk.marks
  pub script : IsScriptAskable t.slave

-- the values that it keeps
abbrev pub values_kept : Talk → List ℤ
values_kept t = values_in t.slave.types t.outputs

-- how many outputs these slaves have
abbrev pub outputs_width : List Talk → ℕ
outputs_width [] = 0
outputs_width (t ∷ ts) = length t.slave.types + outputs_width ts
