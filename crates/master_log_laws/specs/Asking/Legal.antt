-- A conversation goes by the rules, mark by mark: what has to hold of a mark by what was before it.
use Rattle.std.specs.Prelude.{◌≡◌, ℕ, ◌≤◌, ◌⊎◌, Some, None, List, [], ◌∷◌, slice_get}
use Rattle.dcp_types.specs.declared.limits.Limits.{Limits}
use Rattle.dcp_ends.specs.Events.{Event}
use Rattle.master_spec.specs.declared.causes.Verdict.TheVariants as verdicts
use Rattle.master_spec.specs.declared.reactions.Reaction.{Reaction}
use Rattle.master_spec.specs.declared.reactions.Reaction.TheVariants.{Wait, Ask, Repeat, GiveUp}
use Rattle.master_spec.specs.declared.setups.Slave.{Slave}
use Rattle.master_spec.specs.declared.setups.Setup.{Setup}
use Rattle.master_spec.specs.Jobs.{Job}
use Rattle.master_spec.specs.Setup.{jobs_of}
use Rattle.master_spec.specs.Marks.{Mark, Begun, Asked, Again, Answered, Hinted, Brought, Turned, Ended, count, is_begun, open_request, job_of, verdict_of}
use Rattle.master_spec.specs.Conversation.{reaction}
use Rattle.master_spec.specs.Course.{CourseTalk, course}

-- what follows from the newest mark
abbrev pub Does : Limits → List Mark → Reaction → Type 0
Does limits [] r = ⊥
Does limits (m ∷ marks) r = reaction limits m marks ≡ r

-- nothing follows from it, or it has followed
abbrev pub Rests : Limits → List Mark → Type 0
Rests limits [] = Unit {0}
Rests limits (m ∷ marks) = reaction limits m marks ≡ Wait

-- a phase begins with its job once the one before has passed, and no request is open
pub record BeginsJob (js : List Job) (job : Job) (marks : List Mark) : Type 0 where
  pub job_is : slice_get js (count is_begun marks) ≡ Some job
  pub free : open_request marks ≡ None
  pub passed : (job_of marks ≡ None) ⊎ (verdict_of marks ≡ verdicts.Passed)

abbrev pub IsLegal : Limits → List Job → Mark → List Mark → Type 0
IsLegal limits js (Begun job) marks = Rests limits marks × BeginsJob js job marks
IsLegal limits js (Asked request) marks = Does limits marks (Ask request)
IsLegal limits js Again marks = Does limits marks Repeat
IsLegal limits js (Answered request answer) marks = Rests limits marks × (open_request marks ≡ Some request)
IsLegal limits js Hinted marks = Rests limits marks
IsLegal limits js (Brought number payload) marks = Rests limits marks
IsLegal limits js (Turned settled) marks = Rests limits marks
IsLegal limits js (Ended cause) marks = Does limits marks (GiveUp cause)

abbrev pub AreLegal : Limits → List Job → List Mark → Type 0
AreLegal limits js [] = Unit {0}
AreLegal limits js (m ∷ marks) = IsLegal limits js m marks × AreLegal limits js marks

-- after an event, in a phase
pub record GoesByRule (limits : Limits) (js : List Job) (phase : ℕ) (marks : List Mark) : Type 0 where
  pub legal : AreLegal limits js marks
  pub rests : Rests limits marks
  pub phase_is : count is_begun marks ≡ phase

-- ---- all conversations
abbrev pub AllWith : (Slave → List Mark → Type 0) → List CourseTalk → Type 0
AllWith P [] = Unit {0}
AllWith P (talk ∷ talks) = P talk.slave talk.marks × AllWith P talks

-- whatever comes to the master, each of its conversations goes by the rules, and all are in the same phase
abbrev pub TalksGoByRule : Type 0
TalksGoByRule = (setup : Setup) → 1 ≤ setup.runs → (events : List Event)
    → AllWith (λ slave marks. GoesByRule setup.limits (jobs_of setup slave) (course setup events).phase marks) (course setup events).talks
