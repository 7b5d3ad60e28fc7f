-- A turn takes one of the turns that a conversation has left.
use Rattle.std.proofs.Common.{◌≡◌, ℕ, ◌+◌, ◌<◌, ◌≤◌, ◌||◌, Bool, true, false, List, ◌∷◌, refl, sym, subst, ◌∙◌, arith}
use Rattle.std.specs.Prelude.{if◌then◌else◌, nat_le}
use Rattle.std.proofs.lemmas.Bool.{leb-false}
use Rattle.scenario.specs.Sound.{IsLimits}
use Rattle.dcp_types.specs.declared.limits.Limits.{Limits}
use Rattle.master_spec.specs.declared.causes.Cause.TheVariants as causes
use Rattle.master_spec.specs.declared.requests.Request.TheVariants.{Change, Configure, AskState, AskError}
use Rattle.master_spec.specs.declared.requests.Latest.{Latest}
use Rattle.master_spec.specs.declared.reactions.Awaited.{Awaited}
use Rattle.master_spec.specs.declared.reactions.Awaited.TheVariants.{TheState, TheOutputs, TheOthers}
use Rattle.master_spec.specs.declared.reactions.Reaction.{Reaction}
use Rattle.master_spec.specs.declared.reactions.Reaction.TheVariants.{Wait, Ask, GiveUp}
use Rattle.master_spec.specs.Tasks.{is_by_end, task_step}
use Rattle.master_spec.specs.Jobs.{Job}
use Rattle.master_spec.specs.Marks.{Mark, Asked, Again, Turned, turns_since, is_answer, latest, is_passed}
use Rattle.master_spec.specs.Conversation.{done, marks_after, awaited, on_turn}
use Rattle.master_log_laws.proofs.Bound.Budgets.{patience}
use Rattle.master_log_laws.proofs.Bound.Places.{awaited_if, Listing, Changing, Refused, Waiting, Asking, Erring, Bringing, Resting, Beating, Failing, Place, listing, changing, refused, waiting, asking, erring, bringing, resting, beating, failing, Stay, over, going, Live}
use Rattle.master_log_laws.proofs.Bound.Reactions.{reacts, reacts_ended, awaited_is, passed_more}
use Rattle.master_log_laws.proofs.Bound.Opens.{just_open, turn_open}

-- what a turn makes of a conversation
abbrev Turns : Limits → Job → ℕ → Bool → List Mark → Awaited → Type 0
Turns l job m settled marks a = Stay l m (done (on_turn l job a settled (Turned settled ∷ marks)) (Turned settled ∷ marks))

turn_listing : (l : Limits) (job : Job) (n m : ℕ) (settled : Bool) (marks : List Mark) → Live job marks → n ≤ m + 1 → Listing l job n marks → Turns l job m settled marks (awaited job (Turned settled ∷ marks))
turn_listing l job n m settled marks live le p =
    let room = p.room in
    turn_open l job m settled marks (Configure p.body) p.latest_is p.opened live
    (λ o. listing (record { body = p.body; latest_is = p.latest_is; opened = o; by_list = p.by_list; short = p.short; room = omega (arith, room, le) }))
    (λ o. listing (record { body = p.body; latest_is = p.latest_is; opened = o; by_list = p.by_list; short = p.short; room = omega (arith, room, le) }))

turn_changing : (l : Limits) (job : Job) (n m : ℕ) (settled : Bool) (marks : List Mark) → Live job marks → n ≤ m + 1 → Changing l job n marks → Turns l job m settled marks (awaited job (Turned settled ∷ marks))
turn_changing l job n m settled marks live le p =
    let room = p.room in
    turn_open l job m settled marks (Change p.state p.body) p.latest_is p.opened live
    (λ o. changing (record { state = p.state; body = p.body; latest_is = p.latest_is; opened = o; by_one = p.by_one; short = p.short; room = omega (arith, room, le) }))
    (λ o. changing (record { state = p.state; body = p.body; latest_is = p.latest_is; opened = o; by_one = p.by_one; short = p.short; room = omega (arith, room, le) }))

turn_asking : (l : Limits) (job : Job) (n m : ℕ) (settled : Bool) (marks : List Mark) → Live job marks → n ≤ m + 1 → Asking l job n marks → Turns l job m settled marks (awaited job (Turned settled ∷ marks))
turn_asking l job n m settled marks live le p =
    let room = p.room in
    let since = p.since_ack in
    turn_open l job m settled marks AskState p.latest_is p.opened live
    (λ o. asking (record { latest_is = p.latest_is; opened = o; since_ack = omega (arith, since); begun = p.begun; room = omega (arith, room, le) }))
    (λ o. asking (record { latest_is = p.latest_is; opened = o; since_ack = omega (arith, since); begun = p.begun; room = omega (arith, room, le) }))

turn_erring : (l : Limits) (job : Job) (n m : ℕ) (settled : Bool) (marks : List Mark) → Live job marks → n ≤ m + 1 → Erring l job n marks → Turns l job m settled marks (awaited job (Turned settled ∷ marks))
turn_erring l job n m settled marks live le p =
    let room = p.room in
    turn_open l job m settled marks AskError p.latest_is p.opened live
    (λ o. erring (record { latest_is = p.latest_is; opened = o; room = omega (arith, room, le) }))
    (λ o. erring (record { latest_is = p.latest_is; opened = o; room = omega (arith, room, le) }))

turn_beating : (l : Limits) (job : Job) (n m : ℕ) (settled : Bool) (marks : List Mark) → Live job marks → n ≤ m + 1 → Beating l job n marks → Turns l job m settled marks (awaited job (Turned settled ∷ marks))
turn_beating l job n m settled marks live le p =
    let room = p.room in
    let done_now : is_passed job (Turned settled ∷ marks) ≡ true = passed_more job (Turned settled) marks refl p.passed in
    turn_open l job m settled marks AskState p.latest_is p.opened live
    (λ o. beating (record { passed = done_now; latest_is = p.latest_is; opened = o; room = omega (arith, room, le) }))
    (λ o. beating (record { passed = passed_more job Again (Turned settled ∷ marks) refl done_now; latest_is = p.latest_is; opened = o; room = omega (arith, room, le) }))

turn_failing : (l : Limits) (job : Job) (n m : ℕ) (settled : Bool) (marks : List Mark) → Live job marks → n ≤ m + 1 → Failing l job n marks → Turns l job m settled marks (awaited job (Turned settled ∷ marks))
turn_failing l job n m settled marks live le p =
    let room = p.room in
    let done_now : is_passed job (Turned settled ∷ marks) ≡ true = passed_more job (Turned settled) marks refl p.passed in
    turn_open l job m settled marks AskError p.latest_is p.opened live
    (λ o. failing (record { passed = done_now; latest_is = p.latest_is; opened = o; room = omega (arith, room, le) }))
    (λ o. failing (record { passed = passed_more job Again (Turned settled ∷ marks) refl done_now; latest_is = p.latest_is; opened = o; room = omega (arith, room, le) }))

-- ---- while none is open

-- a conversation that has passed may ask for a sign of life, where some other one has not
turn_others : (l : Limits) (job : Job) (m : ℕ) (settled : Bool) (marks : List Mark) → IsLimits l → Live job marks → (settled ≡ false → patience l + patience l ≤ m)
    → is_passed job (Turned settled ∷ marks) ≡ true → awaited_if job (latest marks) true ≡ TheOthers → Turns l job m settled marks TheOthers
turn_others l job m settled marks lim live beat h e = by (is_by_end job.task) settled refl
  where
    asked : (b : Bool) → settled ≡ false → Stay l m (done (if b then Ask AskState else Wait) (Turned settled ∷ marks))
    asked true f =
        let g = beat f in
        going job live.job_is live.no_cause (beating (record {
          passed = passed_more job (Asked AskState) (Turned settled ∷ marks) refl h;
          latest_is = refl;
          opened = just_open l AskState (Turned settled ∷ marks) lim;
          room = omega (arith, g);
        }))
    asked false f = going job live.job_is live.no_cause (resting (record { passed = h; awaits = e }))

    by : (by_end known : Bool) → settled ≡ known → Stay l m (done (if by_end || known then Wait else if nat_le l.watch_turns (turns_since is_answer marks + 1) then Ask AskState else Wait) (Turned settled ∷ marks))
    by true known f = going job live.job_is live.no_cause (resting (record { passed = h; awaits = e }))
    by false true f = going job live.job_is live.no_cause (resting (record { passed = h; awaits = e }))
    by false false f = asked (nat_le l.watch_turns (turns_since is_answer marks + 1)) f

-- by whether the task is done
by_passed : (l : Limits) (job : Job) (m : ℕ) (settled : Bool) (marks : List Mark)
    → ((passed : Bool) → is_passed job (Turned settled ∷ marks) ≡ passed → Turns l job m settled marks (awaited_if job (latest marks) passed))
    → Turns l job m settled marks (awaited job (Turned settled ∷ marks))
by_passed l job m settled marks f =
    let passed = is_passed job (Turned settled ∷ marks) in
    subst (λ (a : Awaited). Turns l job m settled marks a) (sym (awaited_is job (Turned settled ∷ marks) passed refl)) (f passed refl)

turn_resting : (l : Limits) (job : Job) (m : ℕ) (settled : Bool) (marks : List Mark) → IsLimits l → Live job marks → (settled ≡ false → patience l + patience l ≤ m) → Resting job marks → Turns l job m settled marks (awaited job (Turned settled ∷ marks))
turn_resting l job m settled marks lim live beat p =
    let h : is_passed job (Turned settled ∷ marks) ≡ true = passed_more job (Turned settled) marks refl p.passed in
    let e : awaited job (Turned settled ∷ marks) ≡ TheOthers = awaited_is job (Turned settled ∷ marks) true h ∙ p.awaits in
    subst (λ (a : Awaited). Turns l job m settled marks a) (sym e) (turn_others l job m settled marks lim live beat h p.awaits)

turn_refused : (l : Limits) (job : Job) (n m : ℕ) (settled : Bool) (marks : List Mark) → IsLimits l → Live job marks → n ≤ m + 1 → Refused l job n marks → Turns l job m settled marks (awaited job (Turned settled ∷ marks))
turn_refused l job n m settled marks lim live le p =
    by_passed l job m settled marks (λ passed h.
    subst (λ (x : Latest). Turns l job m settled marks (awaited_if job x passed)) (sym p.latest_is)
    (by (nat_le l.retry_turns (turns_since is_answer marks + 1)) refl))
  where
    by : (b : Bool) → nat_le l.retry_turns (turns_since is_answer marks + 1) ≡ b → Stay l m (done (if b then Ask (Change p.state p.body) else Wait) (Turned settled ∷ marks))
    by true e =
        let room = p.room in
        let soon = p.soon in
        going job live.job_is live.no_cause (changing (record {
          state = p.state;
          body = p.body;
          latest_is = refl;
          opened = just_open l (Change p.state p.body) (Turned settled ∷ marks) lim;
          by_one = p.by_one;
          short = p.short;
          room = omega (arith, room, soon, le);
        }))
    by false e =
        let room = p.room in
        let f : turns_since is_answer marks + 1 < l.retry_turns = leb-false l.retry_turns (turns_since is_answer marks + 1) e in
        going job live.job_is live.no_cause (refused (record {
          state = p.state;
          body = p.body;
          code = p.code;
          latest_is = p.latest_is;
          soon = f;
          by_one = p.by_one;
          short = p.short;
          room = omega (arith, room, le);
        }))

turn_waiting : (l : Limits) (job : Job) (n m : ℕ) (settled : Bool) (marks : List Mark) → IsLimits l → Live job marks → n ≤ m + 1 → (settled ≡ false → patience l + patience l ≤ m) → Waiting l job n marks → Turns l job m settled marks (awaited job (Turned settled ∷ marks))
turn_waiting l job n m settled marks lim live le beat p =
    by_passed l job m settled marks (λ passed h.
    subst (λ (a : Awaited). Turns l job m settled marks a) (sym (p.awaits passed)) (at passed h))
  where
    by : (b : Bool) → nat_le l.watch_turns (turns_since is_answer marks + 1) ≡ b → Stay l m (done (if b then Ask AskState else Wait) (Turned settled ∷ marks))
    by true e =
        let room = p.room in
        let soon = p.soon in
        let since = p.since_ack in
        going job live.job_is live.no_cause (asking (record {
          latest_is = refl;
          opened = just_open l AskState (Turned settled ∷ marks) lim;
          since_ack = omega arith;
          begun = omega (arith, since, soon);
          room = omega (arith, room, le);
        }))
    by false e =
        let room = p.room in
        let since = p.since_ack in
        let f : turns_since is_answer marks + 1 < l.watch_turns = leb-false l.watch_turns (turns_since is_answer marks + 1) e in
        going job live.job_is live.no_cause (waiting (record {
          awaits = p.awaits;
          soon = f;
          since_ack = omega (arith, since);
          room = omega (arith, room, le);
        }))

    at : (passed : Bool) → is_passed job (Turned settled ∷ marks) ≡ passed → Turns l job m settled marks (if passed then TheOthers else TheState)
    at true h = turn_others l job m settled marks lim live beat h (p.awaits true)
    at false h = by (nat_le l.watch_turns (turns_since is_answer marks + 1)) refl

turn_bringing : (l : Limits) (job : Job) (n m : ℕ) (settled : Bool) (marks : List Mark) → IsLimits l → Live job marks → n ≤ m + 1 → (settled ≡ false → patience l + patience l ≤ m) → Bringing l job n marks → Turns l job m settled marks (awaited job (Turned settled ∷ marks))
turn_bringing l job n m settled marks lim live le beat p =
    by_passed l job m settled marks (λ passed h.
    subst (λ (a : Awaited). Turns l job m settled marks a) (sym (p.awaits passed)) (at passed h))
  where
    by : (b : Bool) → nat_le l.data_turns (turns_since is_answer marks + 1) ≡ b → Stay l m (done (if b then GiveUp (causes.DataMissing (task_step job.task)) else Wait) (Turned settled ∷ marks))
    by true e = over (causes.DataMissing (task_step job.task)) refl
    by false e =
        let room = p.room in
        let f : turns_since is_answer marks + 1 < l.data_turns = leb-false l.data_turns (turns_since is_answer marks + 1) e in
        going job live.job_is live.no_cause (bringing (record {
          awaits = p.awaits;
          soon = f;
          room = omega (arith, room, le);
        }))

    at : (passed : Bool) → is_passed job (Turned settled ∷ marks) ≡ passed → Turns l job m settled marks (if passed then TheOthers else TheOutputs)
    at true h = turn_others l job m settled marks lim live beat h (p.awaits true)
    at false h = by (nat_le l.data_turns (turns_since is_answer marks + 1)) refl

-- ---- all places

turn_at : (l : Limits) (job : Job) (n m : ℕ) (settled : Bool) (marks : List Mark) → IsLimits l → Live job marks → n ≤ m + 1 → (settled ≡ false → patience l + patience l ≤ m) → Place l job n marks → Turns l job m settled marks (awaited job (Turned settled ∷ marks))
turn_at l job n m settled marks lim live le beat (listing p) = turn_listing l job n m settled marks live le p
turn_at l job n m settled marks lim live le beat (changing p) = turn_changing l job n m settled marks live le p
turn_at l job n m settled marks lim live le beat (refused p) = turn_refused l job n m settled marks lim live le p
turn_at l job n m settled marks lim live le beat (waiting p) = turn_waiting l job n m settled marks lim live le beat p
turn_at l job n m settled marks lim live le beat (asking p) = turn_asking l job n m settled marks live le p
turn_at l job n m settled marks lim live le beat (erring p) = turn_erring l job n m settled marks live le p
turn_at l job n m settled marks lim live le beat (bringing p) = turn_bringing l job n m settled marks lim live le beat p
turn_at l job n m settled marks lim live le beat (resting p) = turn_resting l job m settled marks lim live beat p
turn_at l job n m settled marks lim live le beat (beating p) = turn_beating l job n m settled marks live le p
turn_at l job n m settled marks lim live le beat (failing p) = turn_failing l job n m settled marks live le p

-- A turn: of n turns left, m are left behind it. Where not all are settled, there is room for a sign of life and what may follow from it.
pub turned : (l : Limits) (n m : ℕ) (settled : Bool) (marks : List Mark) → IsLimits l → n ≤ m + 1 → (settled ≡ false → patience l + patience l ≤ m) → Stay l n marks → Stay l m (marks_after l (Turned settled) marks)
turned l n m settled marks lim le beat (over cause e) =
    subst (λ (r : Reaction). Stay l m (done r (Turned settled ∷ marks))) (sym (reacts_ended l (Turned settled) marks cause e)) (over cause e)
turned l n m settled marks lim le beat (going job j c p) =
    subst (λ (r : Reaction). Stay l m (done r (Turned settled ∷ marks))) (sym (reacts l (Turned settled) marks job c j))
    (turn_at l job n m settled marks lim (record { job_is = j; no_cause = c }) le beat p)
