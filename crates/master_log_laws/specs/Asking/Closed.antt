-- When the master asks a slave something new.
use Rattle.std.specs.Prelude.{◌≡◌, ℕ, ◌+◌, ◌%◌, Option, Some, None, List, [], ◌∷◌}
use Rattle.dcp_types.specs.declared.limits.Limits.{Limits}
use Rattle.master_spec.specs.declared.requests.Request.{Request}
use Rattle.master_spec.specs.declared.reactions.Reaction.TheVariants.{Ask}
use Rattle.master_spec.specs.News.{request_bytes}
use Rattle.master_spec.specs.Marks.{Mark, Begun, Asked, Again, Answered, Hinted, Brought, Turned, Ended, count, is_answer, asked, open_request}
use Rattle.master_spec.specs.Conversation.{reaction, marks_after, messages_after}
use Rattle.dcp_ends.specs.Events.{Event}
use Rattle.master_spec.specs.declared.setups.Setup.{Setup}
use Rattle.master_spec.specs.Course.{CourseTalk, course}

-- how many requests were answered
abbrev pub answered_requests : List Mark → ℕ
answered_requests marks = count is_answer marks

abbrev pub open_count : Option Request → ℕ
open_count None = 0
open_count (Some request) = 1

-- all requests are answered but the one that is open
abbrev pub IsFit : List Mark → Type 0
IsFit marks = asked marks ≡ answered_requests marks + open_count (open_request marks)

-- what may come: a phase begins when no request is open, and only an open request is answered; the other marks of the list the master makes itself
abbrev pub MayCome : Mark → List Mark → Type 0
MayCome (Begun job) marks = open_request marks ≡ None
MayCome (Answered request answer) marks = open_request marks ≡ Some request
MayCome Hinted marks = Unit {0}
MayCome (Brought number payload) marks = Unit {0}
MayCome (Turned settled) marks = Unit {0}
MayCome (Asked request) marks = ⊥
MayCome Again marks = ⊥
MayCome (Ended cause) marks = ⊥

-- a new request finds all earlier ones answered, and its number is how many these are
pub record IsClosed (limits : Limits) (id : ℕ) (m : Mark) (marks : List Mark) (request : Request) : Type 0 where
  pub none_open : open_request (m ∷ marks) ≡ None
  pub closed : asked (m ∷ marks) ≡ answered_requests (m ∷ marks)
  pub sent : messages_after limits id m marks ≡ request_bytes (answered_requests (m ∷ marks) % 65536) id request ∷ []

abbrev pub AsksWhenClosed : Type 0
AsksWhenClosed = (limits : Limits) (id : ℕ) (m : Mark) (marks : List Mark) (request : Request) → IsFit marks → MayCome m marks → reaction limits m marks ≡ Ask request → IsClosed limits id m marks request

abbrev pub StaysFit : Type 0
StaysFit = (limits : Limits) (m : Mark) (marks : List Mark) → IsFit marks → MayCome m marks → IsFit (marks_after limits m marks)

-- ---- all conversations
abbrev pub AllTalks : (List Mark → Type 0) → List CourseTalk → Type 0
AllTalks P [] = Unit {0}
AllTalks P (talk ∷ talks) = P talk.marks × AllTalks P talks

-- whatever comes to the master, each of its conversations stays fit
abbrev pub CoursesAreFit : Type 0
CoursesAreFit = (setup : Setup) (events : List Event) → AllTalks IsFit (course setup events).talks
