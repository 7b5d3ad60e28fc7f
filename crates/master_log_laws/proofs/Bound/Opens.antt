-- While a request is open: each turn brings its end nearer.
use Rattle.std.proofs.Common.{◌≡◌, ℕ, ◌+◌, ◌*◌, ◌<◌, ◌≤◌, Bool, true, false, List, ◌∷◌, refl, sym, subst, arith}
use Rattle.std.specs.Prelude.{if◌then◌else◌, nat_le}
use Rattle.std.proofs.lemmas.Bool.{leb-true, leb-false}
use Rattle.std.proofs.lemmas.Nat.{mul-add-lt}
use Rattle.std.proofs.Math.Nat.{mul_comm}
use Rattle.scenario.specs.Sound.{IsLimits}
use Rattle.dcp_types.specs.declared.limits.Limits.{Limits}
use Rattle.master_spec.specs.declared.causes.Cause.TheVariants as causes
use Rattle.master_spec.specs.declared.requests.Request.{Request}
use Rattle.master_spec.specs.declared.requests.Latest.TheVariants as latests
use Rattle.master_spec.specs.declared.reactions.Awaited.{Awaited}
use Rattle.master_spec.specs.declared.reactions.Awaited.TheVariants.{TheAnswer}
use Rattle.master_spec.specs.declared.reactions.Reaction.TheVariants.{Wait, Repeat, GiveUp}
use Rattle.master_spec.specs.Jobs.{Job}
use Rattle.master_spec.specs.Marks.{Mark, Asked, Again, Turned, count, since, turns_since, is_asked, is_again, is_sending, latest, sendings, newest_number}
use Rattle.master_spec.specs.Conversation.{done, awaited, on_turn, on_silence}
use Rattle.master_log_laws.proofs.Bound.Budgets.{patience, again_more}
use Rattle.master_log_laws.proofs.Bound.Places.{Open, Place, Stay, over, going, Live}
use Rattle.master_log_laws.proofs.Bound.Reactions.{awaited_open}

-- a request was just asked
pub just_open : (l : Limits) (request : Request) (marks : List Mark) → IsLimits l → Open l (Asked request ∷ marks)
just_open l request marks lim = record {
  whole = omega arith;
  soon = lim.turn_limit.0;
  few = lim.tries.0;
}

-- it is open for less than its patience
pub open_below : (l : Limits) (marks : List Mark) → Open l marks → turns_since is_asked marks < patience l
open_below l marks o =
    let h : count is_again (since is_asked marks) * l.turn_limit + turns_since is_sending marks < l.turn_limit * l.tries
    = mul-add-lt (count is_again (since is_asked marks)) l.turn_limit (turns_since is_sending marks) l.tries o.few o.soon in
    let e : l.turn_limit * l.tries ≡ patience l = mul_comm l.turn_limit l.tries in
    omega (arith, o.whole, h, e)

silence : (l : Limits) (job : Job) (n : ℕ) (settled : Bool) (marks : List Mark) → Open l marks → Live job marks
    → (Open l (Turned settled ∷ marks) → Place l job n (Turned settled ∷ marks))
    → (Open l (Again ∷ Turned settled ∷ marks) → Place l job n (Again ∷ Turned settled ∷ marks))
    → Stay l n (done (on_silence l (Turned settled ∷ marks)) (Turned settled ∷ marks))
silence l job n settled marks o live wait again = by (nat_le l.turn_limit (turns_since is_sending (Turned settled ∷ marks))) refl
  where
    repeated : (b : Bool) → nat_le l.tries (sendings (Turned settled ∷ marks)) ≡ b → l.turn_limit ≤ turns_since is_sending marks + 1
        → Stay l n (done (if b then GiveUp (causes.NoAnswer (newest_number (Turned settled ∷ marks))) else Repeat) (Turned settled ∷ marks))
    repeated true e h = over (causes.NoAnswer (newest_number (Turned settled ∷ marks))) refl
    repeated false e h =
        let f : count is_again (since is_asked marks) + 1 < l.tries = leb-false l.tries (sendings (Turned settled ∷ marks)) e in
        let g = o.soon in
        going job live.job_is live.no_cause (again (record {
          whole = again_more (count is_again (since is_asked marks)) l.turn_limit (turns_since is_sending marks) (turns_since is_asked marks) o.whole o.soon h;
          soon = omega (arith, g);
          few = f;
        }))

    by : (b : Bool) → nat_le l.turn_limit (turns_since is_sending (Turned settled ∷ marks)) ≡ b
        → Stay l n (done (if b then (if nat_le l.tries (sendings (Turned settled ∷ marks)) then GiveUp (causes.NoAnswer (newest_number (Turned settled ∷ marks))) else Repeat) else Wait) (Turned settled ∷ marks))
    by true e = repeated (nat_le l.tries (sendings (Turned settled ∷ marks))) refl (leb-true l.turn_limit (turns_since is_sending marks + 1) e)
    by false e = going job live.job_is live.no_cause (wait (record {
      whole = let w = o.whole in omega (arith, w);
      soon = leb-false l.turn_limit (turns_since is_sending marks + 1) e;
      few = o.few;
    }))

-- A turn while a request is open: it stays open, is sent again, or is given up.
pub turn_open : (l : Limits) (job : Job) (n : ℕ) (settled : Bool) (marks : List Mark) (request : Request) → latest marks ≡ latests.Asked request → Open l marks → Live job marks
    → (Open l (Turned settled ∷ marks) → Place l job n (Turned settled ∷ marks))
    → (Open l (Again ∷ Turned settled ∷ marks) → Place l job n (Again ∷ Turned settled ∷ marks))
    → Stay l n (done (on_turn l job (awaited job (Turned settled ∷ marks)) settled (Turned settled ∷ marks)) (Turned settled ∷ marks))
turn_open l job n settled marks request e o live wait again =
    let f : awaited job (Turned settled ∷ marks) ≡ TheAnswer = awaited_open job (Turned settled ∷ marks) request e in
    subst (λ (a : Awaited). Stay l n (done (on_turn l job a settled (Turned settled ∷ marks)) (Turned settled ∷ marks))) (sym f) (silence l job n settled marks o live wait again)
