-- A notice of a new state, and outputs that come, take none of the turns that a conversation has left.
use Rattle.std.proofs.Common.{◌≡◌, ℕ, Bool, true, false, Some, List, ◌∷◌, refl, sym, ap, subst, ◌∙◌, arith}
use Rattle.scenario.specs.Sound.{IsLimits}
use Rattle.dcp_types.specs.declared.limits.Limits.{Limits}
use Rattle.master_spec.specs.declared.requests.Request.{Request}
use Rattle.master_spec.specs.declared.requests.Request.TheVariants.{Change, Configure, AskState, AskError}
use Rattle.master_spec.specs.declared.requests.Answer.{Answer}
use Rattle.master_spec.specs.declared.requests.Latest.{Latest}
use Rattle.master_spec.specs.declared.reactions.Awaited.{Awaited}
use Rattle.master_spec.specs.declared.reactions.Awaited.TheVariants.{TheAnswer, TheState, TheInputs, TheOutputs, TheOthers}
use Rattle.master_spec.specs.declared.reactions.Reaction.{Reaction}
use Rattle.master_spec.specs.declared.reactions.Reaction.TheVariants.{Wait}
use Rattle.master_spec.specs.Jobs.{Job}
use Rattle.master_spec.specs.Marks.{Mark, Hinted, Brought, Answered, open_request, is_passed}
use Rattle.master_spec.specs.Conversation.{done, marks_after, awaited, on_hint}
use Rattle.master_log_laws.proofs.Bound.Places.{awaited_if, Open, Waiting, Place, listing, changing, refused, waiting, asking, erring, bringing, resting, beating, failing, Stay, over, going, Live}
use Rattle.master_log_laws.proofs.Bound.Reactions.{reacts, reacts_ended, awaited_is, awaited_open, passed_more}
use Rattle.master_log_laws.proofs.Bound.Opens.{just_open}
use Rattle.master_log_laws.proofs.Bound.Answers.{answered}

open_hinted : (l : Limits) (marks : List Mark) → Open l marks → Open l (Hinted ∷ marks)
open_hinted l marks o = record { whole = o.whole; soon = o.soon; few = o.few }

-- a notice alone leaves the place as it is
place_hinted : (l : Limits) (job : Job) (n : ℕ) (marks : List Mark) → Place l job n marks → Place l job n (Hinted ∷ marks)
place_hinted l job n marks (listing p) = listing (record { body = p.body; latest_is = p.latest_is; opened = open_hinted l marks p.opened; by_list = p.by_list; short = p.short; room = p.room })
place_hinted l job n marks (changing p) = changing (record { state = p.state; body = p.body; latest_is = p.latest_is; opened = open_hinted l marks p.opened; by_one = p.by_one; short = p.short; room = p.room })
place_hinted l job n marks (refused p) = refused (record { state = p.state; body = p.body; code = p.code; latest_is = p.latest_is; soon = p.soon; by_one = p.by_one; short = p.short; room = p.room })
place_hinted l job n marks (waiting p) = waiting (record { awaits = p.awaits; soon = p.soon; since_ack = p.since_ack; room = p.room })
place_hinted l job n marks (asking p) = asking (record { latest_is = p.latest_is; opened = open_hinted l marks p.opened; since_ack = p.since_ack; begun = p.begun; room = p.room })
place_hinted l job n marks (erring p) = erring (record { latest_is = p.latest_is; opened = open_hinted l marks p.opened; room = p.room })
place_hinted l job n marks (bringing p) = bringing (record { awaits = p.awaits; soon = p.soon; room = p.room })
place_hinted l job n marks (resting p) = resting (record { passed = passed_more job Hinted marks refl p.passed; awaits = p.awaits })
place_hinted l job n marks (beating p) = beating (record { passed = passed_more job Hinted marks refl p.passed; latest_is = p.latest_is; opened = open_hinted l marks p.opened; room = p.room })
place_hinted l job n marks (failing p) = failing (record { passed = passed_more job Hinted marks refl p.passed; latest_is = p.latest_is; opened = open_hinted l marks p.opened; room = p.room })

open_brought : (l : Limits) (number : ℕ) (payload : List ℕ) (marks : List Mark) → Open l marks → Open l (Brought number payload ∷ marks)
open_brought l number payload marks o = record { whole = o.whole; soon = o.soon; few = o.few }

-- so do outputs; the task may be done by them, and then the place says so at the next turn
place_brought : (l : Limits) (job : Job) (n : ℕ) (number : ℕ) (payload : List ℕ) (marks : List Mark) → Place l job n marks → Place l job n (Brought number payload ∷ marks)
place_brought l job n number payload marks (listing p) = listing (record { body = p.body; latest_is = p.latest_is; opened = open_brought l number payload marks p.opened; by_list = p.by_list; short = p.short; room = p.room })
place_brought l job n number payload marks (changing p) = changing (record { state = p.state; body = p.body; latest_is = p.latest_is; opened = open_brought l number payload marks p.opened; by_one = p.by_one; short = p.short; room = p.room })
place_brought l job n number payload marks (refused p) = refused (record { state = p.state; body = p.body; code = p.code; latest_is = p.latest_is; soon = p.soon; by_one = p.by_one; short = p.short; room = p.room })
place_brought l job n number payload marks (waiting p) = waiting (record { awaits = p.awaits; soon = p.soon; since_ack = p.since_ack; room = p.room })
place_brought l job n number payload marks (asking p) = asking (record { latest_is = p.latest_is; opened = open_brought l number payload marks p.opened; since_ack = p.since_ack; begun = p.begun; room = p.room })
place_brought l job n number payload marks (erring p) = erring (record { latest_is = p.latest_is; opened = open_brought l number payload marks p.opened; room = p.room })
place_brought l job n number payload marks (bringing p) = bringing (record { awaits = p.awaits; soon = p.soon; room = p.room })
place_brought l job n number payload marks (resting p) = resting (record { passed = passed_more job (Brought number payload) marks refl p.passed; awaits = p.awaits })
place_brought l job n number payload marks (beating p) = beating (record { passed = passed_more job (Brought number payload) marks refl p.passed; latest_is = p.latest_is; opened = open_brought l number payload marks p.opened; room = p.room })
place_brought l job n number payload marks (failing p) = failing (record { passed = passed_more job (Brought number payload) marks refl p.passed; latest_is = p.latest_is; opened = open_brought l number payload marks p.opened; room = p.room })

-- what a notice makes of a conversation
abbrev Hints : Limits → Job → ℕ → List Mark → Awaited → Type 0
Hints l job n marks a = Stay l n (done (on_hint a) (Hinted ∷ marks))

-- where an answer is open, or nothing more is waited for, it is only noted
noted : (l : Limits) (job : Job) (n : ℕ) (marks : List Mark) (a : Awaited) → Live job marks → Place l job n marks → awaited job (Hinted ∷ marks) ≡ a → on_hint a ≡ Wait → Hints l job n marks (awaited job (Hinted ∷ marks))
noted l job n marks a live p e w =
    let f : on_hint (awaited job (Hinted ∷ marks)) ≡ Wait = ap on_hint e ∙ w in
    subst (λ (r : Reaction). Stay l n (done r (Hinted ∷ marks))) (sym f) (going job live.job_is live.no_cause (place_hinted l job n marks p))

hint_waiting : (l : Limits) (job : Job) (n : ℕ) (marks : List Mark) → IsLimits l → Live job marks → Waiting l job n marks → Hints l job n marks (awaited job (Hinted ∷ marks))
hint_waiting l job n marks lim live p = by (is_passed job (Hinted ∷ marks)) refl
  where
    by : (passed : Bool) → is_passed job (Hinted ∷ marks) ≡ passed → Hints l job n marks (awaited job (Hinted ∷ marks))
    by true h = noted l job n marks TheOthers live (waiting p) (awaited_is job (Hinted ∷ marks) true h ∙ p.awaits true) refl
    by false h =
        let room = p.room in
        let soon = p.soon in
        let since = p.since_ack in
        let e : awaited job (Hinted ∷ marks) ≡ TheState = awaited_is job (Hinted ∷ marks) false h ∙ p.awaits false in
        subst (λ (a : Awaited). Hints l job n marks a) (sym e)
        (going job live.job_is live.no_cause (asking (record {
          latest_is = refl;
          opened = just_open l AskState (Hinted ∷ marks) lim;
          since_ack = omega arith;
          begun = omega (arith, since, soon);
          room = omega (arith, room);
        })))

hint_at : (l : Limits) (job : Job) (n : ℕ) (marks : List Mark) → IsLimits l → Live job marks → Place l job n marks → Hints l job n marks (awaited job (Hinted ∷ marks))
hint_at l job n marks lim live (listing p) = noted l job n marks TheAnswer live (listing p) (awaited_open job (Hinted ∷ marks) (Configure p.body) p.latest_is) refl
hint_at l job n marks lim live (changing p) = noted l job n marks TheAnswer live (changing p) (awaited_open job (Hinted ∷ marks) (Change p.state p.body) p.latest_is) refl
hint_at l job n marks lim live (refused p) = noted l job n marks (TheInputs (Change p.state p.body)) live (refused p) (awaited_is job (Hinted ∷ marks) (is_passed job (Hinted ∷ marks)) refl ∙ ap (λ (x : Latest). awaited_if job x (is_passed job (Hinted ∷ marks))) p.latest_is) refl
hint_at l job n marks lim live (waiting p) = hint_waiting l job n marks lim live p
hint_at l job n marks lim live (asking p) = noted l job n marks TheAnswer live (asking p) (awaited_open job (Hinted ∷ marks) AskState p.latest_is) refl
hint_at l job n marks lim live (erring p) = noted l job n marks TheAnswer live (erring p) (awaited_open job (Hinted ∷ marks) AskError p.latest_is) refl
hint_at l job n marks lim live (bringing p) = by (is_passed job (Hinted ∷ marks)) refl
  where
    by : (passed : Bool) → is_passed job (Hinted ∷ marks) ≡ passed → Hints l job n marks (awaited job (Hinted ∷ marks))
    by true h = noted l job n marks TheOthers live (bringing p) (awaited_is job (Hinted ∷ marks) true h ∙ p.awaits true) refl
    by false h = noted l job n marks TheOutputs live (bringing p) (awaited_is job (Hinted ∷ marks) false h ∙ p.awaits false) refl
hint_at l job n marks lim live (resting p) = noted l job n marks TheOthers live (resting p) (awaited_is job (Hinted ∷ marks) true (passed_more job Hinted marks refl p.passed) ∙ p.awaits) refl
hint_at l job n marks lim live (beating p) = noted l job n marks TheAnswer live (beating p) (awaited_open job (Hinted ∷ marks) AskState p.latest_is) refl
hint_at l job n marks lim live (failing p) = noted l job n marks TheAnswer live (failing p) (awaited_open job (Hinted ∷ marks) AskError p.latest_is) refl

-- ---- what comes from outside takes no turn

pub stays_hinted : (l : Limits) (n : ℕ) (marks : List Mark) → IsLimits l → Stay l n marks → Stay l n (marks_after l Hinted marks)
stays_hinted l n marks lim (over cause e) =
    subst (λ (r : Reaction). Stay l n (done r (Hinted ∷ marks))) (sym (reacts_ended l Hinted marks cause e)) (over cause e)
stays_hinted l n marks lim (going job j c p) =
    subst (λ (r : Reaction). Stay l n (done r (Hinted ∷ marks))) (sym (reacts l Hinted marks job c j))
    (hint_at l job n marks lim (record { job_is = j; no_cause = c }) p)

pub stays_brought : (l : Limits) (n number : ℕ) (payload : List ℕ) (marks : List Mark) → Stay l n marks → Stay l n (marks_after l (Brought number payload) marks)
stays_brought l n number payload marks (over cause e) =
    subst (λ (r : Reaction). Stay l n (done r (Brought number payload ∷ marks))) (sym (reacts_ended l (Brought number payload) marks cause e)) (over cause e)
stays_brought l n number payload marks (going job j c p) =
    subst (λ (r : Reaction). Stay l n (done r (Brought number payload ∷ marks))) (sym (reacts l (Brought number payload) marks job c j))
    (going job j c (place_brought l job n number payload marks p))

pub stays_answered : (l : Limits) (n : ℕ) (r : Request) (a : Answer) (marks : List Mark) → IsLimits l → open_request marks ≡ Some r → Stay l n marks → Stay l n (marks_after l (Answered r a) marks)
stays_answered l n r a marks lim o (over cause e) =
    subst (λ (x : Reaction). Stay l n (done x (Answered r a ∷ marks))) (sym (reacts_ended l (Answered r a) marks cause e)) (over cause e)
stays_answered l n r a marks lim o (going job j c p) =
    subst (λ (x : Reaction). Stay l n (done x (Answered r a ∷ marks))) (sym (reacts l (Answered r a) marks job c j))
    (answered l job n marks r a lim (record { job_is = j; no_cause = c }) o p)
