-- What was due is sent: the conversation is otherwise as it was.
use Rattle.std.proofs.Common.{◌≡◌, ◌<◌, ℕ, false, Option, Some, None, List, ◌∷◌, map, sym, ap, subst, ◌∙◌}
use Rattle.std.specs.List.{flat_map}
use Rattle.dcp_types.specs.declared.limits.Limits.{Limits}
use Rattle.master_spec.specs.Jobs.{Job}
use Rattle.master_spec.specs.Marks.{Mark, Begun}
use Rattle.master_spec.specs.Conversation.{reaction, messages_if, messages_after}
use Rattle.master_spec.specs.Course as course
use Rattle.master_spec.specs.Course.{send_to, sends_after}
use Rattle.master_spec.specs.declared.setups.Slave.{Slave}
use Rattle.conversation.specs.declared.records.Conversation.{Conversation}
use Rattle.conversation.specs.Standing.{Stands, CanSend, CanSendAfter}
use Rattle.master_core.specs.declared.records.Talk.{Talk}
use Rattle.master_spec.specs.Askable.{IsJobAskable, IsPresentAskable}
use Rattle.master_core.specs.Sends.{sends_to}
use Rattle.master_core.specs.Talking.{TalkStandsAt, Now}
use Rattle.master_core.proofs.Sendable.{IsHeard, OnMark, sendable, can_send, all_sent, heard_fine, heard_job}

cleared : (c : Conversation) (marks : List Mark) → Stands c marks → Stands (record c { is_due = false }) marks
cleared c marks s = record {
  in_range = s.in_range;
  cause = s.cause;
  task = s.task;
  list = s.list;
  latest_is = s.latest_is;
  next = s.next;
  sent = s.sent;
  since_sending = s.since_sending;
  since_answer = s.since_answer;
  since_ack = s.since_ack;
  late = s.late;
  hinted = s.hinted;
  refused = s.refused;
  configured_is = s.configured_is;
  acknowledged = s.acknowledged;
  reached = s.reached;
  outputs = s.outputs;
  bytes = s.bytes;
}

pub clear_stands : (c d : Conversation) (marks : List Mark) → d ≡ record c { is_due = false } → Stands c marks → Stands d marks
clear_stands c d marks e s = subst (λ (x : Conversation). Stands x marks) (sym e) (cleared c marks s)

-- ---- what is due goes out

small_id : (limits : Limits) (now : Now) (t : Talk) (talk : course.CourseTalk) → TalkStandsAt limits now t talk → t.conversation.id < 256
small_id limits now t talk s = subst (λ (n : ℕ). n < 256) (sym s.id) s.script.id

pub can_after : (limits : Limits) (now : Now) (t : Talk) (talk : course.CourseTalk) (m : Option Mark) → TalkStandsAt limits now t talk → OnMark IsHeard m → CanSendAfter t.conversation.limits t.conversation.id m talk.marks
can_after limits now t talk None s heard = tt
can_after limits now t talk (Some m) s heard =
    let asks = subst IsPresentAskable (sym (heard_job m talk.marks heard)) s.jobs in
    can_send t.conversation.id (m ∷ talk.marks) (reaction t.conversation.limits m talk.marks) (small_id limits now t talk s)
    (sendable t.conversation.limits m talk.marks asks (heard_fine m heard) s.latest_is)

pub can_begin : (limits : Limits) (now : Now) (t : Talk) (talk : course.CourseTalk) (job : Job) → TalkStandsAt limits now t talk → IsJobAskable job
    → CanSend t.conversation.id (Begun job ∷ talk.marks) (reaction t.conversation.limits (Begun job) talk.marks)
can_begin limits now t talk job s asks =
    can_send t.conversation.id (Begun job ∷ talk.marks) (reaction t.conversation.limits (Begun job) talk.marks) (small_id limits now t talk s)
    (sendable t.conversation.limits (Begun job) talk.marks asks asks s.latest_is)

pub sent_after : (limits : Limits) (now : Now) (t : Talk) (talk : course.CourseTalk) (m : Option Mark) (due : List (List ℕ)) → TalkStandsAt limits now t talk → CanSendAfter t.conversation.limits t.conversation.id m talk.marks
    → due ≡ messages_if t.conversation.limits t.conversation.id m talk.marks → flat_map (sends_to t.slave.address) due ≡ sends_after limits talk m
sent_after limits now t talk None due s can e = ap (λ (l : List (List ℕ)). flat_map (sends_to t.slave.address) l) e
sent_after limits now t talk (Some m) due s can e =
    ap (λ (l : List (List ℕ)). flat_map (sends_to t.slave.address) l) e
    ∙ all_sent t.slave.address t.conversation.id (m ∷ talk.marks) (reaction t.conversation.limits m talk.marks) can
    ∙ ap (λ (l : Limits). map (send_to t.slave.address) (messages_after l t.conversation.id m talk.marks)) s.limits_are
    ∙ ap (λ (n : ℕ). map (send_to t.slave.address) (messages_after limits n m talk.marks)) s.id
    ∙ ap (λ (x : Slave). map (send_to x.address) (messages_after limits x.id m talk.marks)) s.slave
