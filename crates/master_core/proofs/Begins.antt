-- A slave begins a phase.
use Rattle.std.proofs.Common.{◌≡◌, ℕ, false, Some, List, ◌∷◌, ◌++◌, sym, ap, subst, ◌∙◌}
use Rattle.std.specs.List.{flat_map}
use Rattle.dcp_types.specs.declared.limits.Limits.{Limits}
use Rattle.dcp_ends.specs.Events.{Send}
use Rattle.pdu_layout.specs.declared.messages.Cfg.{Cfg}
use Rattle.conversation.specs.declared.records.Conversation.{Conversation}
use Rattle.conversation.specs.Standing.{Stands, CanSend, due_of}
use Rattle.master_spec.specs.declared.tasks.Task.{Task}
use Rattle.master_spec.specs.declared.setups.Slave.{Slave}
use Rattle.master_spec.specs.Jobs.{Job}
use Rattle.master_spec.specs.Marks.{Begun}
use Rattle.master_spec.specs.Conversation.{reaction, marks_after, messages_after}
use Rattle.master_spec.specs.Course.{marked, sends_after}
use Rattle.master_spec.specs.Course as course
use Rattle.master_core.specs.declared.records.Talk.{Talk}
use Rattle.master_core.specs.declared.stages.Stage.{Stage}
use Rattle.master_core.specs.Stages.{job_at, part_task, list_in}
use Rattle.master_spec.specs.Askable.{IsJobAskable}
use Rattle.master_core.specs.Sends.{sends_to}
use Rattle.master_core.specs.Talking.{TalkStandsAt, Now, at_stage}
use Rattle.master_core.proofs.Spelled.{job_askable}
use Rattle.master_core.proofs.Carried.{begun_carried}
use Rattle.master_core.proofs.Cleared.{can_begin, sent_after}

job_made : (steps : ℕ) (stage : Stage) (t : Talk) (talk : course.CourseTalk) (task : Task) (list : List Cfg) → t.slave ≡ talk.slave → task ≡ part_task steps t.slave.script.uuid stage.run stage.part → list ≡ list_in t.slave.script stage.run stage.part
    → record { task = task; list = list } ≡ job_at steps stage talk.slave.script
job_made steps stage t talk task list slave is lists =
    ap (λ (x : Task). record { task = x; list = list }) is
    ∙ ap (λ (x : List Cfg). record { task = part_task steps t.slave.script.uuid stage.run stage.part; list = x }) lists
    ∙ ap (λ (x : Slave). job_at steps stage x.script) slave

pub begin_stands : (limits : Limits) (now : Now) (t new : Talk) (talk : course.CourseTalk) (c : Conversation) (steps : ℕ) (stage : Stage) (task : Task) (list : List Cfg) → TalkStandsAt limits now t talk
    → task ≡ part_task steps t.slave.script.uuid stage.run stage.part → list ≡ list_in t.slave.script stage.run stage.part → Stands c (marks_after t.conversation.limits (Begun (record { task = task; list = list })) talk.marks)
    → (c.id ≡ t.conversation.id) × (c.limits ≡ t.conversation.limits) → new.conversation ≡ record c { is_due = false } → new.slave ≡ t.slave
    → TalkStandsAt limits (at_stage steps stage) new (marked limits talk (Some (Begun (job_at steps stage talk.slave.script))))
begin_stands limits now t new talk c steps stage task list s is lists stands given cleared slave =
    let e = job_made steps stage t talk task list s.slave is lists in
    let back : job_at steps stage talk.slave.script ≡ job_at steps stage t.slave.script = ap (λ (x : Slave). job_at steps stage x.script) (sym s.slave) in
    let there : Stands c (marks_after t.conversation.limits (Begun (job_at steps stage talk.slave.script)) talk.marks) = subst (λ (j : Job). Stands c (marks_after t.conversation.limits (Begun j) talk.marks)) e stands in
    let asks = subst IsJobAskable (sym back) (job_askable steps stage.run stage.part t.slave s.script) in
    begun_carried limits now (at_stage steps stage) t new talk c (job_at steps stage talk.slave.script) s there given cleared slave asks (ap (λ (j : Job). Some j) back)

pub begin_sends : (limits : Limits) (now : Now) (t : Talk) (talk : course.CourseTalk) (c : Conversation) (steps : ℕ) (stage : Stage) (task : Task) (list : List Cfg) (out new : List Send) → TalkStandsAt limits now t talk
    → task ≡ part_task steps t.slave.script.uuid stage.run stage.part → list ≡ list_in t.slave.script stage.run stage.part
    → (CanSend t.conversation.id (Begun (record { task = task; list = list }) ∷ talk.marks) (reaction t.conversation.limits (Begun (record { task = task; list = list })) talk.marks)
    → due_of c ≡ messages_after t.conversation.limits t.conversation.id (Begun (record { task = task; list = list })) talk.marks)
    → new ≡ out ++ flat_map (sends_to t.slave.address) (due_of c) → new ≡ out ++ sends_after limits talk (Some (Begun (job_at steps stage talk.slave.script)))
begin_sends limits now t talk c steps stage task list out new s is lists due sends =
    let e = job_made steps stage t talk task list s.slave is lists in
    let P : Job → Type 0 = λ j. CanSend t.conversation.id (Begun j ∷ talk.marks) (reaction t.conversation.limits (Begun j) talk.marks) → due_of c ≡ messages_after t.conversation.limits t.conversation.id (Begun j) talk.marks in
    let back : job_at steps stage talk.slave.script ≡ job_at steps stage t.slave.script = ap (λ (x : Slave). job_at steps stage x.script) (sym s.slave) in
    let asks = subst IsJobAskable (sym back) (job_askable steps stage.run stage.part t.slave s.script) in
    let can = can_begin limits now t talk (job_at steps stage talk.slave.script) s asks in
    sends ∙ ap (λ (l : List Send). out ++ l) (sent_after limits now t talk (Some (Begun (job_at steps stage talk.slave.script))) (due_of c) s can (subst P e due can))
