-- The marks of a conversation, each with the place of the entry that made it, and the requests that they tell.
use Rattle.std.specs.Prelude.{◌≡◌, ℕ, ◌%◌, ◌<◌, ◌⊎◌, true, Option, Some, None, is_some, List, [], ◌∷◌}
use Rattle.pdu_layout.specs.Fields.{FieldValue}
use Rattle.pdu_layout.specs.Message.{message_of}
use Rattle.pdu_layout.specs.declared.messages.Cfg.{Cfg}
use Rattle.pdu_layout.specs.Reading.{message_in}
use Rattle.master_spec.specs.declared.requests.Request.{Request}
use Rattle.master_spec.specs.declared.requests.Request.TheVariants.{Configure}
use Rattle.master_spec.specs.declared.reactions.Reaction.TheVariants.{Ask, GiveUp}
use Rattle.dcp_types.specs.declared.limits.Limits.{Limits}
use Rattle.master_spec.specs.declared.causes.Cause.{Cause}
use Rattle.master_log_laws.specs.Asking.Closed.{MayCome}
use Rattle.master_spec.specs.declared.requests.Answer.{Answer}
use Rattle.master_spec.specs.News.{pdu_of, request_bytes}
use Rattle.master_spec.specs.Jobs.{Job, asked_by}
use Rattle.master_spec.specs.Conversation.{first_of, reaction}
use Rattle.std.specs.Prelude.{slice_get}
use Rattle.master_spec.specs.Marks.{Mark, Begun, Asked, Again, Answered, Hinted, Brought, Turned, Ended, asked, newest_number, open_request, cause_of}
use Rattle.master_spec.specs.Requests.{Asking, decided_by}

-- a mark, and the place of its entry; marks of a turn stand right after it
pub record Placed : Type 0 where
  pub place : ℕ
  pub mark : Mark

abbrev pub at : ℕ → Mark → Placed
at place mark = record { place = place; mark = mark }

abbrev pub marks_of : List Placed → List Mark
marks_of [] = []
marks_of (x ∷ xs) = x.mark ∷ marks_of xs

-- ---- the requests that the marks tell
abbrev pub after_receiver : List FieldValue → List FieldValue
after_receiver [] = []
after_receiver (a ∷ []) = []
after_receiver (a ∷ b ∷ more) = more

abbrev pub code_of : Request → ℕ
code_of r = (message_of (pdu_of 0 0 r)).code

abbrev pub more_of : Request → List FieldValue
more_of r = after_receiver (message_of (pdu_of 0 0 r)).values

abbrev pub first_at : (place number : ℕ) → Request → Asking
first_at place number r = record { code = code_of r; number = number; more = more_of r; first = place; repeats = []; decision = None }

abbrev pub again_at : ℕ → List Asking → List Asking
again_at place [] = []
again_at place (b ∷ bs) = record { code = b.code; number = b.number; more = b.more; first = b.first; repeats = place ∷ b.repeats; decision = b.decision } ∷ bs

abbrev pub decided_at : ℕ → Answer → List Asking → List Asking
decided_at place answer [] = []
decided_at place answer (b ∷ bs) =
    record { code = b.code; number = b.number; more = b.more; first = b.first; repeats = b.repeats; decision = decided_by b.decision (record { place = place; answer = answer }) } ∷ bs

abbrev pub askings_told_by : ℕ → Mark → List Mark → List Asking → List Asking
askings_told_by place (Asked request) marks bs = first_at place (asked marks % 65536) request ∷ bs
askings_told_by place Again marks bs = again_at place bs
askings_told_by place (Answered request answer) marks bs = decided_at place answer bs
askings_told_by place (Begun job) marks bs = bs
askings_told_by place Hinted marks bs = bs
askings_told_by place (Brought number payload) marks bs = bs
askings_told_by place (Turned settled) marks bs = bs
askings_told_by place (Ended cause) marks bs = bs

abbrev pub askings_told : List Placed → List Asking
askings_told [] = []
askings_told (x ∷ xs) = askings_told_by x.place x.mark (marks_of xs) (askings_told xs)

abbrev pub told_if : ℕ → Option Mark → List Mark → List Asking → List Asking
told_if place None marks bs = bs
told_if place (Some m) marks bs = askings_told_by place m marks bs

-- the newest request has the newest number, and is decided unless it is open
abbrev pub IsHeadRequest : Option Request → ℕ → List Asking → Type 0
IsHeadRequest None q [] = Unit {0}
IsHeadRequest None q (b ∷ bs) = (b.number ≡ q) × (is_some b.decision ≡ true)
IsHeadRequest (Some request) q [] = ⊥
IsHeadRequest (Some request) q (b ∷ bs) = (b.number ≡ q) × ((b.decision ≡ None) × (b.code ≡ code_of request))

abbrev pub IsHeadOf : List Mark → List Asking → Type 0
IsHeadOf marks bs = IsHeadRequest (open_request marks) (newest_number marks) bs

-- ---- what is still to be sent to the slave: nothing, or the newest mark's request
abbrev pub IsAsked : ℕ → List ℕ → (marks older : List Mark) → Request → Type 0
IsAsked id b marks older r = (marks ≡ Asked r ∷ older) × (b ≡ request_bytes (asked older % 65536) id r)

abbrev pub IsAgain : ℕ → List ℕ → (marks older : List Mark) → Request → Type 0
IsAgain id b marks older r = (marks ≡ Again ∷ older) × ((open_request older ≡ Some r) × (b ≡ request_bytes (newest_number older) id r))

abbrev pub Owes : (Request → Type 0) → ℕ → List (List ℕ) → (marks older : List Mark) → Type 0
Owes good id [] marks older = marks ≡ older
Owes good id (b ∷ []) marks older = (r : Request) × (good r × ((cause_of older ≡ None) × (IsAsked id b marks older r ⊎ IsAgain id b marks older r)))
Owes good id (b ∷ c ∷ more) marks older = ⊥

-- ---- requests that read back
abbrev pub ReadBack : ℕ → Request → Type 0
ReadBack id r = (number : ℕ) → number < 65536 → message_in (request_bytes number id r) ≡ Some (message_of (pdu_of number id r))

abbrev pub IsGoodJob : (Request → Type 0) → Job → Type 0
IsGoodJob good job = ((r : Request) → first_of (asked_by job) ≡ Ask r → good r) × ((i : ℕ) (body : Cfg) → slice_get job.list i ≡ Some body → good (Configure body))

abbrev pub IsGoodMark : (Request → Type 0) → Mark → Type 0
IsGoodMark good (Begun job) = IsGoodJob good job
IsGoodMark good (Asked request) = good request
IsGoodMark good (Answered request answer) = good request
IsGoodMark good Again = Unit {0}
IsGoodMark good Hinted = Unit {0}
IsGoodMark good (Brought number payload) = Unit {0}
IsGoodMark good (Turned settled) = Unit {0}
IsGoodMark good (Ended cause) = Unit {0}

abbrev pub AreGood : (Request → Type 0) → List Mark → Type 0
AreGood good [] = Unit {0}
AreGood good (m ∷ marks) = IsGoodMark good m × AreGood good marks

-- the requests of the log are those of the marks, but for what is still to be sent
-- the conversation ended by what happened last in xs
abbrev pub Why : Limits → Cause → List Placed → Type 0
Why limits cause [] = ⊥
Why limits cause (x ∷ xs) = (reaction limits x.mark (marks_of xs) ≡ GiveUp cause) × (MayCome x.mark (marks_of xs) × IsHeadOf (marks_of xs) (askings_told xs))

-- it ended with this cause, and nothing was sent since
abbrev pub ShutBy : Limits → Cause → Mark → List Placed → Type 0 → Type 0
ShutBy limits cause (Ended c) xs before = (c ≡ cause) × Why limits cause xs
ShutBy limits cause (Asked request) xs before = ⊥
ShutBy limits cause Again xs before = ⊥
ShutBy limits cause (Begun job) xs before = before
ShutBy limits cause (Answered request answer) xs before = before
ShutBy limits cause Hinted xs before = before
ShutBy limits cause (Brought number payload) xs before = before
ShutBy limits cause (Turned settled) xs before = before

abbrev pub Shut : Limits → Cause → List Placed → Type 0
Shut limits cause [] = ⊥
Shut limits cause (x ∷ xs) = ShutBy limits cause x.mark xs (Shut limits cause xs)

pub record Tracks (limits : Limits) (good : Request → Type 0) (id : ℕ) (marks : List Mark) (owed : List (List ℕ)) (bs : List Asking) (xs : List Placed) : Type 0 where
  pub owes : Owes good id owed marks (marks_of xs)
  pub is : bs ≡ askings_told xs
  pub head : IsHeadOf (marks_of xs) (askings_told xs)
  pub all : AreGood good (marks_of xs)
  pub shut : (cause : Cause) → cause_of (marks_of xs) ≡ Some cause → Shut limits cause xs
