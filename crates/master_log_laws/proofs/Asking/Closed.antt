-- A new request finds all earlier ones answered.
use Rattle.std.proofs.Common.{◌≡◌, ◌+◌, ◌%◌, Bool, true, false, if◌then◌else◌, Option, Some, None, List, [], ◌∷◌, refl, ap, ◌∙◌, arith}
use Rattle.std.specs.Prelude.{nat_le}
use Rattle.dcp_types.specs.declared.limits.Limits.{Limits}
use Rattle.master_spec.specs.declared.requests.Request.{Request}
use Rattle.master_spec.specs.declared.requests.Answer.{Answer}
use Rattle.master_spec.specs.declared.requests.Latest.{Latest}
use Rattle.master_spec.specs.declared.requests.Latest.TheVariants as latests
use Rattle.master_spec.specs.declared.reactions.Reaction.{Reaction}
use Rattle.master_spec.specs.declared.reactions.Reaction.TheVariants.{Wait, Ask, Repeat, GiveUp}
use Rattle.master_spec.specs.declared.causes.Cause.TheVariants as causes
use Rattle.master_spec.specs.Jobs.{Job}
use Rattle.master_spec.specs.News.{request_bytes}
use Rattle.master_spec.specs.Marks.{Mark, Begun, Asked, Again, Answered, Hinted, Brought, Turned, Ended, asked, latest, open_in, open_request, job_of, conversation_ended, turns_since, is_sending, newest_number, sendings}
use Rattle.master_spec.specs.Conversation.{awaited_by, on_hint, on_turn, on_silence, on_mark, reaction_in, reaction, done, messages_of}
use Rattle.master_log_laws.specs.Asking.Closed.{answered_requests, open_count, IsFit, MayCome, AsksWhenClosed, StaysFit}

-- silence asks nothing new
no_ask : (limits : Limits) (marks : List Mark) (request : Request) → on_silence limits marks ≡ Ask request → ⊥
no_ask limits marks request h = by (nat_le limits.turn_limit (turns_since is_sending marks)) (nat_le limits.tries (sendings marks)) h
  where
    by : (b c : Bool) → (if b then (if c then GiveUp (causes.NoAnswer (newest_number marks)) else Repeat) else Wait) ≡ Ask request → ⊥
    by true true e = cc
    by true false e = cc
    by false c e = cc

-- while a request is open, the answer is awaited
hint_open : (job : Job) (l : Latest) (marks : List Mark) (request : Request) → on_hint (awaited_by job l marks) ≡ Ask request → open_in l ≡ None
hint_open job latests.Nothing marks request h = refl
hint_open job (latests.Asked r) marks request h = absurd cc
hint_open job (latests.Answered r a) marks request h = refl

turn_open : (limits : Limits) (job : Job) (l : Latest) (settled : Bool) (marks : List Mark) (request : Request) → on_turn limits job (awaited_by job l marks) settled marks ≡ Ask request → open_in l ≡ None
turn_open limits job latests.Nothing settled marks request h = refl
turn_open limits job (latests.Asked r) settled marks request h = absurd (no_ask limits marks request h)
turn_open limits job (latests.Answered r a) settled marks request h = refl

mark_open : (limits : Limits) (job : Job) (m : Mark) (marks : List Mark) (request : Request) → on_mark limits job m marks (m ∷ marks) ≡ Ask request → open_request (m ∷ marks) ≡ None
mark_open limits job (Begun j) marks request h = refl
mark_open limits job (Answered r a) marks request h = refl
mark_open limits job Hinted marks request h = hint_open job (latest marks) (Hinted ∷ marks) request h
mark_open limits job (Turned settled) marks request h = turn_open limits job (latest marks) settled (Turned settled ∷ marks) request h
mark_open limits job (Asked r) marks request h = absurd cc
mark_open limits job Again marks request h = absurd cc
mark_open limits job (Brought n p) marks request h = absurd cc
mark_open limits job (Ended c) marks request h = absurd cc

in_open : (limits : Limits) (job : Option Job) (m : Mark) (marks : List Mark) (request : Request) → reaction_in limits job m marks (m ∷ marks) ≡ Ask request → open_request (m ∷ marks) ≡ None
in_open limits None m marks request h = absurd cc
in_open limits (Some job) m marks request h = by (conversation_ended marks) h
  where
    by : (b : Bool) → (if b then Wait else on_mark limits job m marks (m ∷ marks)) ≡ Ask request → open_request (m ∷ marks) ≡ None
    by true e = absurd cc
    by false e = mark_open limits job m marks request e

pub asks_open : (limits : Limits) (m : Mark) (marks : List Mark) (request : Request) → reaction limits m marks ≡ Ask request → open_request (m ∷ marks) ≡ None
unfolding reaction
asks_open limits m marks request h = in_open limits (job_of (m ∷ marks)) m marks request h

answered_more : (marks : List Mark) (request : Request) (answer : Answer) → asked marks ≡ answered_requests marks + 1 → IsFit (Answered request answer ∷ marks)
answered_more marks request answer z = grind arith

-- what comes leaves the counts fit
comes_fit : (m : Mark) (marks : List Mark) → IsFit marks → MayCome m marks → IsFit (m ∷ marks)
comes_fit (Begun job) marks f c = f ∙ ap (λ o. answered_requests marks + open_count o) c
comes_fit (Answered request answer) marks f c = let z : asked marks ≡ answered_requests marks + 1 = f ∙ ap (λ o. answered_requests marks + open_count o) c in answered_more marks request answer z
comes_fit Hinted marks f c = f
comes_fit (Brought number payload) marks f c = f
comes_fit (Turned settled) marks f c = f
comes_fit (Asked request) marks f c = absurd c
comes_fit Again marks f c = absurd c
comes_fit (Ended cause) marks f c = absurd c

done_fit : (r : Reaction) (marks : List Mark) → IsFit marks → ((request : Request) → r ≡ Ask request → open_request marks ≡ None) → IsFit (done r marks)
done_fit Wait marks f o = f
done_fit (Ask request) marks f o = let z = f ∙ ap (λ q. answered_requests marks + open_count q) (o request refl) in omega (arith, z)
done_fit Repeat marks f o = f
done_fit (GiveUp cause) marks f o = f

pub stays_fit : StaysFit
stays_fit limits m marks f c = done_fit (reaction limits m marks) (m ∷ marks) (comes_fit m marks f c) (λ request e. asks_open limits m marks request e)

pub asks_closed : AsksWhenClosed
asks_closed limits id m marks request f c h =
    let none = asks_open limits m marks request h in
    let closed : asked (m ∷ marks) ≡ answered_requests (m ∷ marks) = comes_fit m marks f c ∙ ap (λ q. answered_requests (m ∷ marks) + open_count q) none ∙ omega arith in
    record {
      none_open = none;
      closed = closed;
      sent = ap (messages_of id (m ∷ marks)) h ∙ ap (λ k. request_bytes (k % 65536) id request ∷ []) closed;
    }
