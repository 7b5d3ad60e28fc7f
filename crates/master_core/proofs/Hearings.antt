-- A slave hears a datagram.
use Rattle.std.proofs.Common.{◌≡◌, ◌≤◌, ℕ, false, Bool, true, Option, None, List, ◌++◌, length, take, sym, ap, subst, ◌∙◌, arith}
use Rattle.std.specs.Prelude.{option_map, MatchOption, IfSome, if◌then◌else◌}
use Rattle.std.specs.List.{flat_map}
use Rattle.std.proofs.lemmas.Option.{IfSome_then}
use Rattle.dcp_types.specs.declared.addresses.Address.{Address}
use Rattle.dcp_types.specs.declared.data_types.DataType.{DataType}
use Rattle.dcp_types.specs.declared.limits.Limits.{Limits}
use Rattle.dcp_ends.specs.Events.{Send}
use Rattle.dcp_ends.specs.Logs.{same_address}
use Rattle.pdu_layout.specs.declared.messages.Cfg.{Cfg}
use Rattle.conversation.specs.declared.records.Conversation.{Conversation}
use Rattle.conversation.specs.Standing.{Stands, CanSendAfter, HasList, is_list_of, due_of}
use Rattle.conversation.specs.Hearing.{IsWith, answer_taken}
use Rattle.master_spec.specs.declared.setups.Slave.{Slave}
use Rattle.master_spec.specs.Jobs.{Job}
use Rattle.master_spec.specs.News.{News, news_of}
use Rattle.master_spec.specs.Marks.{Mark}
use Rattle.master_spec.specs.Conversation.{extended, messages_if}
use Rattle.master_spec.specs.Course.{marked, sends_after, mark_for, mark_of_gram, payload_size}
use Rattle.master_spec.specs.Course as course
use Rattle.master_core.specs.declared.records.Talk.{Talk}
use Rattle.master_core.specs.declared.stages.Schedule.{Schedule}
use Rattle.master_core.specs.Stages.{list_in}
use Rattle.master_core.specs.Sends.{sends_to}
use Rattle.master_core.specs.Talking.{TalkStandsAt, Now, IsNow}
use Rattle.master_core.proofs.Sendable.{mark_heard}
use Rattle.master_core.proofs.Carried.{heard_carried, kept_by}
use Rattle.master_core.proofs.Cleared.{can_after, sent_after}
use Rattle.master_core.proofs.Payloads.{size_few}

-- the room is long enough
pub small_taken : {R : Type 0} (bytes : R → List ℕ) (o : Option R) (types : List DataType) (size : ℕ) → IfSome o (λ r. length (bytes r) ≡ size) → size ≡ payload_size types → length types ≤ 8 → IfSome o (λ r. length (bytes r) ≤ 64)
small_taken bytes o types size sized is few = IfSome_then o sized (λ r e. omega (arith, e, is, few, size_few types))

with_slave : (limits : Limits) (now : Now) (t : Talk) (talk : course.CourseTalk) (size : ℕ) → TalkStandsAt limits now t talk → size ≡ payload_size t.slave.types → IsWith t.conversation talk.slave size
with_slave limits now t talk size s is = record { id = ap (λ (x : Slave). x.id) (sym s.slave) ∙ sym s.id; size_is = ap (λ (x : Slave). payload_size x.types) (sym s.slave) ∙ sym is }

has_list : (limits : Limits) (now : Now) (t : Talk) (talk : course.CourseTalk) (schedule : Schedule) (list : List Cfg) → TalkStandsAt limits now t talk → IsNow schedule now → list ≡ list_in t.slave.script schedule.stage.run schedule.stage.part
    → HasList talk.marks list
has_list limits now t talk schedule list s fit is =
    subst (λ (o : Option Job). is_list_of o list) (sym s.job) (subst (λ (l : List Cfg). is_list_of (now t.slave) l) (sym is) (fit t.slave))

-- what the conversation heard, as its clauses tell
pub record Heard {R : Type 0} (bytes : R → List ℕ) (t : Talk) (c : Conversation) (o : Option R) (size : ℕ) (list : List Cfg) (news : News) : Type 0 where
  pub stands : (marks : List Mark) (slave : Slave) → Stands t.conversation marks → HasList marks list → IsWith t.conversation slave size → Stands c (extended t.conversation.limits (mark_for slave marks news) marks)
  pub due : (marks : List Mark) (slave : Slave) → Stands t.conversation marks → HasList marks list → IsWith t.conversation slave size → CanSendAfter t.conversation.limits t.conversation.id (mark_for slave marks news) marks
      → due_of c ≡ messages_if t.conversation.limits t.conversation.id (mark_for slave marks news) marks
  pub taken_is : (marks : List Mark) (slave : Slave) → Stands t.conversation marks → IsWith t.conversation slave size → option_map bytes o ≡ answer_taken (mark_for slave marks news) marks
  pub sized : IfSome o (λ r. length (bytes r) ≡ size)
  pub given : (c.id ≡ t.conversation.id) × (c.limits ≡ t.conversation.limits)

pub heard_stands : {R : Type 0} (bytes : R → List ℕ) (limits : Limits) (now : Now) (t new : Talk) (talk : course.CourseTalk) (c : Conversation) (o : Option R) (schedule : Schedule) (size : ℕ) (list : List Cfg) (news : News)
    → TalkStandsAt limits now t talk → IsNow schedule now → Heard bytes t c o size list news → size ≡ payload_size t.slave.types → list ≡ list_in t.slave.script schedule.stage.run schedule.stage.part
    → MatchOption o (new.outputs ≡ t.outputs) (λ r. take (length (bytes r)) new.outputs ≡ bytes r) → new.conversation ≡ record c { is_due = false } → new.slave ≡ t.slave
    → TalkStandsAt limits now new (marked limits talk (mark_for talk.slave talk.marks news))
heard_stands bytes limits now t new talk c o schedule size list news s fit h is lists room cleared slave =
    let with_it = with_slave limits now t talk size s is in
    let m = mark_for talk.slave talk.marks news in
    let heard = mark_heard talk.slave talk.marks news s.latest_is in
    let sized = IfSome_then o h.sized (λ r e. e ∙ is) in
    heard_carried limits now t new talk c m s (h.stands talk.marks talk.slave s.stands (has_list limits now t talk schedule list s fit lists) with_it) h.given cleared slave heard
    (kept_by bytes o t.slave.types t.outputs new.outputs m talk.marks (h.taken_is talk.marks talk.slave s.stands with_it) room sized heard s.outputs)

pub heard_sends : {R : Type 0} (bytes : R → List ℕ) (limits : Limits) (now : Now) (t : Talk) (talk : course.CourseTalk) (c : Conversation) (o : Option R) (schedule : Schedule) (size : ℕ) (list : List Cfg) (news : News) (out new : List Send)
    → TalkStandsAt limits now t talk → IsNow schedule now → Heard bytes t c o size list news → size ≡ payload_size t.slave.types → list ≡ list_in t.slave.script schedule.stage.run schedule.stage.part
    → new ≡ out ++ flat_map (sends_to t.slave.address) (due_of c) → new ≡ out ++ sends_after limits talk (mark_for talk.slave talk.marks news)
heard_sends bytes limits now t talk c o schedule size list news out new s fit h is lists sends =
    let with_it = with_slave limits now t talk size s is in
    let m = mark_for talk.slave talk.marks news in
    let heard = mark_heard talk.slave talk.marks news s.latest_is in
    let can = can_after limits now t talk m s heard in
    sends ∙ ap (λ (l : List Send). out ++ l)
    (sent_after limits now t talk m (due_of c) s can (h.due talk.marks talk.slave s.stands (has_list limits now t talk schedule list s fit lists) with_it can))

-- ---- by the sender

abbrev gram_by : Bool → course.CourseTalk → List ℕ → Option Mark
gram_by b talk bytes = if b then mark_for talk.slave talk.marks (news_of bytes) else None

gram_is : (limits : Limits) (now : Now) (t : Talk) (talk : course.CourseTalk) (from : Address) (bytes : List ℕ) (b : Bool) → TalkStandsAt limits now t talk → same_address from t.slave.address ≡ b
    → gram_by b talk bytes ≡ mark_of_gram talk from bytes
gram_is limits now t talk from bytes b s e =
    ap (λ (x : Bool). gram_by x talk bytes) (sym e ∙ ap (λ (x : Slave). same_address from x.address) s.slave)

pub from_it : (limits : Limits) (now : Now) (t : Talk) (talk : course.CourseTalk) (from : Address) (bytes : List ℕ) → TalkStandsAt limits now t talk → same_address from t.slave.address ≡ true
    → mark_for talk.slave talk.marks (news_of bytes) ≡ mark_of_gram talk from bytes
from_it limits now t talk from bytes s e = gram_is limits now t talk from bytes true s e

pub not_from_it : (limits : Limits) (now : Now) (t : Talk) (talk : course.CourseTalk) (from : Address) (bytes : List ℕ) → TalkStandsAt limits now t talk → same_address from t.slave.address ≡ false
    → None ≡ mark_of_gram talk from bytes
not_from_it limits now t talk from bytes s e = gram_is limits now t talk from bytes false s e
