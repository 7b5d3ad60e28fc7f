-- What the turns that are left say of a conversation.
use Rattle.std.proofs.Common.{◌≡◌, ℕ, ◌+◌, ◌≤◌, Bool, true, false, Option, Some, None, List, length, ap, ◌∙◌, arith}
use Rattle.std.specs.Prelude.{if◌then◌else◌}
use mathlib.Core.Logic.{◌⊎◌, inl, inr}
use Rattle.scenario.specs.Sound.{IsLimits}
use Rattle.dcp_types.specs.declared.limits.Limits.{Limits}
use Rattle.master_spec.specs.declared.causes.Cause.{Cause}
use Rattle.master_spec.specs.declared.causes.Verdict.TheVariants as verdicts
use Rattle.master_spec.specs.Jobs.{Job}
use Rattle.master_spec.specs.Marks.{Mark, settings_answered, latest, open_in, open_request, refusals, is_passed, cause_of, job_of, verdict_by, verdict_of}
use Rattle.master_log_laws.proofs.Bound.Budgets.{patience, attempt, closing, one_of}
use Rattle.master_log_laws.proofs.Bound.Places.{Listing, Place, listing, changing, refused, waiting, asking, erring, bringing, resting, beating, failing, Stay, over, going}
use Rattle.master_log_laws.proofs.Bound.Reactions.{others_closed, state_closed, outputs_closed}
use Rattle.master_log_laws.proofs.Bound.Opens.{open_below}
use Rattle.master_log_laws.proofs.Bound.Answers.{changing_room}

-- ---- the verdict

verdict_passed : (job : Job) (marks : List Mark) → job_of marks ≡ Some job → cause_of marks ≡ None → is_passed job marks ≡ true → verdict_of marks ≡ verdicts.Passed
verdict_passed job marks j c p =
    ap (λ (x : Option Cause). verdict_by x (job_of marks) marks) c
    ∙ ap (λ (o : Option Job). verdict_by None o marks) j
    ∙ ap (λ (b : Bool). if b then verdicts.Passed else verdicts.Going) p

verdict_over : (cause : Cause) (marks : List Mark) → cause_of marks ≡ Some cause → verdict_of marks ≡ verdicts.Ended cause
verdict_over cause marks c = ap (λ (x : Option Cause). verdict_by x (job_of marks) marks) c

-- ---- while a conversation is going, there is room for all that may follow once it is settled

listing_room : (l : Limits) (job : Job) (n : ℕ) (marks : List Mark) → Listing l job n marks → closing l + 1 ≤ n
listing_room l job n marks p =
    let room = p.room in
    let below = open_below l marks p.opened in
    let one = one_of (settings_answered marks) (length job.list) (patience l) p.short in
    omega (arith, room, below, one)

place_room : (l : Limits) (job : Job) (n : ℕ) (marks : List Mark) → IsLimits l → Place l job n marks → (closing l + 1 ≤ n) ⊎ (is_passed job marks ≡ true)
place_room l job n marks lim (listing p) = inl (listing_room l job n marks p)
place_room l job n marks lim (changing p) =
    let room = changing_room l job n marks p in
    let few = lim.state_limit.0 in
    inl (omega (arith, room, few))
place_room l job n marks lim (refused p) =
    let room = p.room in
    let soon = p.soon in
    let one = one_of (refusals marks) l.step_tries (attempt l) p.short in
    inl (omega (arith, room, soon, one))
place_room l job n marks lim (waiting p) =
    let room = p.room in
    let soon = p.soon in
    let since = p.since_ack in
    inl (omega (arith, room, soon, since))
place_room l job n marks lim (asking p) =
    let room = p.room in
    let below = open_below l marks p.opened in
    let since = p.since_ack in
    let begun = p.begun in
    inl (omega (arith, room, below, since, begun))
place_room l job n marks lim (erring p) =
    let room = p.room in
    let below = open_below l marks p.opened in
    inl (omega (arith, room, below))
place_room l job n marks lim (bringing p) =
    let room = p.room in
    let soon = p.soon in
    inl (omega (arith, room, soon))
place_room l job n marks lim (resting p) = inr p.passed
place_room l job n marks lim (beating p) = inr p.passed
place_room l job n marks lim (failing p) = inr p.passed

pub going_room : (l : Limits) (n : ℕ) (marks : List Mark) → IsLimits l → Stay l n marks → verdict_of marks ≡ verdicts.Going → closing l + 1 ≤ n
going_room l n marks lim (over cause e) v = let f = verdict_over cause marks e in absurd (cc)
going_room l n marks lim (going job j c p) v = by (place_room l job n marks lim p)
  where
    by : (closing l + 1 ≤ n) ⊎ (is_passed job marks ≡ true) → closing l + 1 ≤ n
    by (inl h) = h
    by (inr h) = let f = verdict_passed job marks j c h in absurd (cc)

-- ---- with no turn left nothing keeps the phase from its end

pub record Done (marks : List Mark) : Type 0 where
  pub passed : verdict_of marks ≡ verdicts.Passed
  pub closed : open_request marks ≡ None

place_none : (l : Limits) (job : Job) (marks : List Mark) → IsLimits l → (closing l + 1 ≤ 0) ⊎ (is_passed job marks ≡ true) → is_passed job marks ≡ true
place_none l job marks lim (inl h) = absurd (omega (arith, h))
place_none l job marks lim (inr h) = h

place_closed : (l : Limits) (job : Job) (marks : List Mark) → IsLimits l → Place l job 0 marks → open_request marks ≡ None
place_closed l job marks lim (listing p) = let h = listing_room l job 0 marks p in absurd (omega (arith, h))
place_closed l job marks lim (changing p) = let h = changing_room l job 0 marks p in absurd (omega (arith, h))
place_closed l job marks lim (refused p) = ap open_in p.latest_is
place_closed l job marks lim (waiting p) = state_closed job (latest marks) (p.awaits false)
place_closed l job marks lim (asking p) =
    let room = p.room in
    let below = open_below l marks p.opened in
    let since = p.since_ack in
    let begun = p.begun in
    absurd (omega (arith, room, below, since, begun))
place_closed l job marks lim (erring p) = let below = open_below l marks p.opened in let room = p.room in absurd (omega (arith, below, room))
place_closed l job marks lim (bringing p) = outputs_closed job (latest marks) (p.awaits false)
place_closed l job marks lim (resting p) = others_closed job (latest marks) true p.awaits
place_closed l job marks lim (beating p) = let below = open_below l marks p.opened in let room = p.room in absurd (omega (arith, below, room))
place_closed l job marks lim (failing p) = let below = open_below l marks p.opened in let room = p.room in absurd (omega (arith, below, room))

pub all_done : (l : Limits) (marks : List Mark) → IsLimits l → Stay l 0 marks → ((cause : Cause) × (verdict_of marks ≡ verdicts.Ended cause)) ⊎ Done marks
all_done l marks lim (over cause e) = inl (cause, verdict_over cause marks e)
all_done l marks lim (going job j c p) = inr (record {
  passed = verdict_passed job marks j c (place_none l job marks lim (place_room l job 0 marks lim p));
  closed = place_closed l job marks lim p;
})
