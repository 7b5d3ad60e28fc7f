-- A conversation that stands for one of the course does so after each mark.
use Rattle.std.proofs.Common.{◌≡◌, ℕ, ◌%◌, ◌==◌, ◌&&◌, Bool, true, false, Option, Some, None, List, ◌∷◌, take, refl, sym, ap, subst, ◌∙◌}
use Rattle.std.specs.Prelude.{if◌then◌else◌, not, is_some, option_map, MatchOption, IfSome, length}
use Rattle.dcp_types.specs.declared.limits.Limits.{Limits}
use Rattle.dcp_types.specs.declared.data_types.DataType.{DataType}
use Rattle.conversation.specs.declared.records.Conversation.{Conversation}
use Rattle.conversation.specs.Standing.{Stands, job_row, kept_for, is_wanted_row}
use Rattle.conversation.specs.Hearing.{answer_taken, taken_of}
use Rattle.master_spec.specs.declared.reactions.Reaction.{Reaction}
use Rattle.master_spec.specs.declared.reactions.Reaction.TheVariants.{Wait, Ask, Repeat, GiveUp}
use Rattle.master_spec.specs.Jobs.{Job}
use Rattle.master_spec.specs.Marks.{Mark, Begun, Asked, Again, Answered, Hinted, Brought, Turned, Ended, job_of, latest, kept, or_else}
use Rattle.master_spec.specs.Conversation.{reaction, done, marks_after, extended}
use Rattle.master_spec.specs.Course.{payload_size, marked}
use Rattle.master_spec.specs.Course as course
use Rattle.master_spec.specs.declared.setups.Slave.{Slave}
use Rattle.master_core.specs.declared.records.Talk.{Talk}
use Rattle.master_spec.specs.Askable.{IsLatestAskable, IsPresentAskable, IsScriptAskable, IsJobAskable}
use Rattle.master_core.specs.Talking.{Now, HasKept, TalkStandsAt}
use Rattle.master_core.proofs.Cleared.{clear_stands}
use Rattle.master_core.proofs.Sendable.{Sendable, sendable, IsFine, IsHeard, OnMark, heard_fine, heard_job}

-- ---- what is done leaves the job, and what was kept

or_none : {A : Type 0} (o : Option A) → or_else o None ≡ o
or_none None = refl
or_none (Some x) = refl

job_done : (r : Reaction) (marks : List Mark) → job_of (done r marks) ≡ job_of marks
job_done Wait marks = refl
job_done (Ask request) marks = refl
job_done Repeat marks = refl
job_done (GiveUp cause) marks = refl

latest_done : (r : Reaction) (marks : List Mark) → Sendable marks r → IsLatestAskable (latest marks) → IsLatestAskable (latest (done r marks))
latest_done Wait marks s l = l
latest_done (Ask request) marks s l = s
latest_done Repeat marks s l = l
latest_done (GiveUp cause) marks s l = l

kept_done : (row : ℕ) (r : Reaction) (marks : List Mark) → kept row (done r marks) ≡ kept row marks
kept_done row Wait marks = refl
kept_done row (Ask request) marks = or_none (kept row marks)
kept_done row Repeat marks = or_none (kept row marks)
kept_done row (GiveUp cause) marks = or_none (kept row marks)

has_done : (types : List DataType) (room : List ℕ) (r : Reaction) (marks : List Mark) → HasKept types room marks → HasKept types room (done r marks)
has_done types room r marks h = λ row payload at is. h row payload (sym (ap job_row (job_done r marks)) ∙ at) (sym (kept_done row r marks) ∙ is)

-- ---- what was kept, after one more mark

abbrev pub HasKeptAfter : List DataType → List ℕ → Option Mark → List Mark → Type 0
HasKeptAfter types room None marks = HasKept types room marks
HasKeptAfter types room (Some m) marks = HasKept types room (m ∷ marks)

none_some : {A : Type 0} {P : Type 0} (x : A) → None ≡ Some x → P
none_some x e = absurd (cc)

old_kept : (k : Option (List ℕ)) (b : Bool) (p q : List ℕ) → (if not (is_some k) && b then Some p else None) ≡ None → or_else k (if b then Some p else None) ≡ Some q → k ≡ Some q
old_kept (Some x) b p q e f = f
old_kept None true p q e f = none_some p (sym e)
old_kept None false p q e f = none_some q f

new_kept : (k : Option (List ℕ)) (b : Bool) (p q w : List ℕ) → (if not (is_some k) && b then Some p else None) ≡ Some w → or_else k (if b then Some p else None) ≡ Some q → w ≡ q
new_kept (Some x) b p q w e f = none_some w e
new_kept None true p q w e f = cc
new_kept None false p q w e f = none_some w e

-- by the row of the present job
abbrev taken_by : Option ℕ → (number : ℕ) → List ℕ → List Mark → Option (List ℕ)
taken_by o number payload marks = if not (kept_for o marks) && is_wanted_row o number then Some payload else None

old_brought : (types : List DataType) (room : List ℕ) (number : ℕ) (p : List ℕ) (marks : List Mark) → taken_by (job_row (job_of marks)) number p marks ≡ None → HasKept types room marks → HasKept types room (Brought number p ∷ marks)
old_brought types room number p marks none h = λ row payload at is.
    let e : taken_by (Some row) number p marks ≡ None = ap (λ (o : Option ℕ). taken_by o number p marks) (sym at) ∙ none in
    h row payload at (old_kept (kept row marks) (number == row % 65536) p payload e is)

new_brought : (types : List DataType) (room : List ℕ) (number : ℕ) (p w : List ℕ) (marks : List Mark) → taken_by (job_row (job_of marks)) number p marks ≡ Some w → take (payload_size types) room ≡ w → HasKept types room (Brought number p ∷ marks)
new_brought types room number p w marks some whole = λ row payload at is.
    let e : taken_by (Some row) number p marks ≡ Some w = ap (λ (o : Option ℕ). taken_by o number p marks) (sym at) ∙ some in
    whole ∙ new_kept (kept row marks) (number == row % 65536) p payload w e is

same_kept : (types : List DataType) (room : List ℕ) (m : Mark) (marks : List Mark) → job_of (m ∷ marks) ≡ job_of marks → ((row : ℕ) → kept row (m ∷ marks) ≡ kept row marks) → HasKept types room marks → HasKept types room (m ∷ marks)
same_kept types room m marks job k h = λ row payload at is. h row payload (sym (ap job_row job) ∙ at) (sym (k row) ∙ is)

old_mark : (types : List DataType) (room : List ℕ) (m : Mark) (marks : List Mark) → IsHeard m → taken_of m marks ≡ None → HasKept types room marks → HasKept types room (m ∷ marks)
old_mark types room (Begun job) marks heard none h = absurd heard
old_mark types room (Asked request) marks heard none h = same_kept types room (Asked request) marks refl (λ row. or_none (kept row marks)) h
old_mark types room Again marks heard none h = same_kept types room Again marks refl (λ row. or_none (kept row marks)) h
old_mark types room (Answered request answer) marks heard none h = same_kept types room (Answered request answer) marks refl (λ row. or_none (kept row marks)) h
old_mark types room Hinted marks heard none h = same_kept types room Hinted marks refl (λ row. or_none (kept row marks)) h
old_mark types room (Brought number payload) marks heard none h = old_brought types room number payload marks none h
old_mark types room (Turned settled) marks heard none h = same_kept types room (Turned settled) marks refl (λ row. or_none (kept row marks)) h
old_mark types room (Ended cause) marks heard none h = same_kept types room (Ended cause) marks refl (λ row. or_none (kept row marks)) h

-- nothing was taken, and the room is as it was
pub old_after : (types : List DataType) (room : List ℕ) (m : Option Mark) (marks : List Mark) → OnMark IsHeard m → answer_taken m marks ≡ None → HasKept types room marks → HasKeptAfter types room m marks
old_after types room None marks heard none h = h
old_after types room (Some m) marks heard none h = old_mark types room m marks heard none h

new_mark : (types : List DataType) (room : List ℕ) (m : Mark) (marks : List Mark) (w : List ℕ) → taken_of m marks ≡ Some w → take (payload_size types) room ≡ w → HasKept types room (m ∷ marks)
new_mark types room (Begun job) marks w some whole = none_some w some
new_mark types room (Asked request) marks w some whole = none_some w some
new_mark types room Again marks w some whole = none_some w some
new_mark types room (Answered request answer) marks w some whole = none_some w some
new_mark types room Hinted marks w some whole = none_some w some
new_mark types room (Brought number payload) marks w some whole = new_brought types room number payload w marks some whole
new_mark types room (Turned settled) marks w some whole = none_some w some
new_mark types room (Ended cause) marks w some whole = none_some w some

-- the payload was taken, and stands in the room
pub new_after : (types : List DataType) (room : List ℕ) (m : Option Mark) (marks : List Mark) (w : List ℕ) → answer_taken m marks ≡ Some w → take (payload_size types) room ≡ w → HasKeptAfter types room m marks
new_after types room None marks w some whole = none_some w some
new_after types room (Some m) marks w some whole = new_mark types room m marks w some whole

pub begun_kept : (types : List DataType) (room : List ℕ) (job : Job) (marks : List Mark) → HasKept types room (Begun job ∷ marks)
begun_kept types room job marks = λ row payload at is. none_some payload is

-- ---- the whole

-- the slave and the limits are as they were
pub record SameTalk (t new : Talk) : Type 0 where
  pub slave : new.slave ≡ t.slave
  pub id : new.conversation.id ≡ t.conversation.id
  pub limits_are : new.conversation.limits ≡ t.conversation.limits

pub carry : (limits : Limits) (now later : Now) (t new : Talk) (talk : course.CourseTalk) (m : Mark) → TalkStandsAt limits now t talk → SameTalk t new → Stands new.conversation (marks_after limits m talk.marks)
    → job_of (m ∷ talk.marks) ≡ later t.slave → IsPresentAskable (job_of (m ∷ talk.marks)) → IsFine m → IsLatestAskable (latest (m ∷ talk.marks)) → HasKept t.slave.types new.outputs (m ∷ talk.marks)
    → TalkStandsAt limits later new (marked limits talk (Some m))
carry limits now later t new talk m s same stands job asks fine newest kept =
    let r = reaction limits m talk.marks in
    let sends = sendable limits m talk.marks asks fine s.latest_is in
    let back = sym same.slave in
    record {
      slave = same.slave ∙ s.slave;
      stands = stands;
      id = same.id ∙ s.id ∙ ap (λ (x : Slave). x.id) back;
      limits_are = same.limits_are ∙ s.limits_are;
      job = job_done r (m ∷ talk.marks) ∙ job ∙ ap later back;
      jobs = subst IsPresentAskable (sym (job_done r (m ∷ talk.marks))) asks;
      latest_is = latest_done r (m ∷ talk.marks) sends newest;
      outputs = subst (λ (x : Slave). HasKept x.types new.outputs (done r (m ∷ talk.marks))) back (has_done t.slave.types new.outputs r (m ∷ talk.marks) kept);
      script = subst IsScriptAskable back s.script;
    }

newest_heard : (m : Mark) (marks : List Mark) → IsHeard m → IsLatestAskable (latest marks) → IsLatestAskable (latest (m ∷ marks))
newest_heard (Begun job) marks h l = absurd h
newest_heard (Asked request) marks h l = h
newest_heard Again marks h l = l
newest_heard (Answered request answer) marks h l = h
newest_heard Hinted marks h l = l
newest_heard (Brought number payload) marks h l = l
newest_heard (Turned settled) marks h l = l
newest_heard (Ended cause) marks h l = l

-- with the mark of a datagram or of a turn
pub carry_heard : (limits : Limits) (now : Now) (t new : Talk) (talk : course.CourseTalk) (m : Option Mark) → TalkStandsAt limits now t talk → SameTalk t new → Stands new.conversation (extended limits m talk.marks)
    → OnMark IsHeard m → HasKeptAfter t.slave.types new.outputs m talk.marks → TalkStandsAt limits now new (marked limits talk m)
carry_heard limits now t new talk None s same stands heard kept =
    let back = sym same.slave in
    record {
      slave = same.slave ∙ s.slave;
      stands = stands;
      id = same.id ∙ s.id ∙ ap (λ (x : Slave). x.id) back;
      limits_are = same.limits_are ∙ s.limits_are;
      job = s.job ∙ ap now back;
      jobs = s.jobs;
      latest_is = s.latest_is;
      outputs = subst (λ (x : Slave). HasKept x.types new.outputs talk.marks) back kept;
      script = subst IsScriptAskable back s.script;
    }
carry_heard limits now t new talk (Some m) s same stands heard kept =
    carry limits now now t new talk m s same stands (heard_job m talk.marks heard ∙ s.job) (subst IsPresentAskable (sym (heard_job m talk.marks heard)) s.jobs) (heard_fine m heard)
    (newest_heard m talk.marks heard s.latest_is) kept

-- ---- a turn, and the begin of a phase

same_talk : (t new : Talk) (c : Conversation) → (c.id ≡ t.conversation.id) × (c.limits ≡ t.conversation.limits) → new.conversation ≡ record c { is_due = false } → new.slave ≡ t.slave → SameTalk t new
same_talk t new c given cleared slave = record {
  slave = slave;
  id = ap (λ (x : Conversation). x.id) cleared ∙ given.0;
  limits_are = ap (λ (x : Conversation). x.limits) cleared ∙ given.1;
}

pub turned_carried : (limits : Limits) (now : Now) (t new : Talk) (talk : course.CourseTalk) (c : Conversation) (settled : Bool) → TalkStandsAt limits now t talk → Stands c (marks_after t.conversation.limits (Turned settled) talk.marks)
    → (c.id ≡ t.conversation.id) × (c.limits ≡ t.conversation.limits) → new.conversation ≡ record c { is_due = false } → new.slave ≡ t.slave → new.outputs ≡ t.outputs
    → TalkStandsAt limits now new (marked limits talk (Some (Turned settled)))
turned_carried limits now t new talk c settled s stands given cleared slave outputs =
    let there : Stands c (marks_after limits (Turned settled) talk.marks) = subst (λ (l : Limits). Stands c (marks_after l (Turned settled) talk.marks)) s.limits_are stands in
    let kept : HasKept t.slave.types new.outputs talk.marks = subst (λ (room : List ℕ). HasKept t.slave.types room talk.marks) (sym outputs) s.outputs in
    carry_heard limits now t new talk (Some (Turned settled)) s (same_talk t new c given cleared slave) (clear_stands c new.conversation _ cleared there) tt
    (old_after t.slave.types new.outputs (Some (Turned settled)) talk.marks tt refl kept)

pub begun_carried : (limits : Limits) (now later : Now) (t new : Talk) (talk : course.CourseTalk) (c : Conversation) (job : Job) → TalkStandsAt limits now t talk → Stands c (marks_after t.conversation.limits (Begun job) talk.marks)
    → (c.id ≡ t.conversation.id) × (c.limits ≡ t.conversation.limits) → new.conversation ≡ record c { is_due = false } → new.slave ≡ t.slave → IsJobAskable job → Some job ≡ later t.slave
    → TalkStandsAt limits later new (marked limits talk (Some (Begun job)))
begun_carried limits now later t new talk c job s stands given cleared slave asks is =
    let there : Stands c (marks_after limits (Begun job) talk.marks) = subst (λ (l : Limits). Stands c (marks_after l (Begun job) talk.marks)) s.limits_are stands in
    carry limits now later t new talk (Begun job) s (same_talk t new c given cleared slave) (clear_stands c new.conversation _ cleared there) is asks asks tt
    (begun_kept t.slave.types new.outputs job talk.marks)

-- what a slave hears
pub heard_carried : (limits : Limits) (now : Now) (t new : Talk) (talk : course.CourseTalk) (c : Conversation) (m : Option Mark) → TalkStandsAt limits now t talk → Stands c (extended t.conversation.limits m talk.marks)
    → (c.id ≡ t.conversation.id) × (c.limits ≡ t.conversation.limits) → new.conversation ≡ record c { is_due = false } → new.slave ≡ t.slave → OnMark IsHeard m → HasKeptAfter t.slave.types new.outputs m talk.marks
    → TalkStandsAt limits now new (marked limits talk m)
heard_carried limits now t new talk c m s stands given cleared slave heard kept =
    let there : Stands c (extended limits m talk.marks) = subst (λ (l : Limits). Stands c (extended l m talk.marks)) s.limits_are stands in
    carry_heard limits now t new talk m s (same_talk t new c given cleared slave) (clear_stands c new.conversation _ cleared there) heard kept

-- what was taken stands in the room
pub kept_by : {R : Type 0} (bytes : R → List ℕ) (o : Option R) (types : List DataType) (old new : List ℕ) (m : Option Mark) (marks : List Mark) → option_map bytes o ≡ answer_taken m marks
    → MatchOption o (new ≡ old) (λ r. take (length (bytes r)) new ≡ bytes r) → IfSome o (λ r. length (bytes r) ≡ payload_size types) → OnMark IsHeard m → HasKept types old marks → HasKeptAfter types new m marks
kept_by bytes None types old new m marks e same sized heard h = old_after types new m marks heard (sym e) (subst (λ (room : List ℕ). HasKept types room marks) (sym same) h)
kept_by bytes (Some r) types old new m marks e front sized heard h =
    new_after types new m marks (bytes r) (sym e) (ap (λ (n : ℕ). take n new) (sym sized) ∙ front)
