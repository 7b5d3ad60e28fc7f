-- What waits tell.
use Rattle.std.specs.Prelude.{◌≡◌, ℕ, ◌+◌, ◌-◌, min, Option, None, Some, Bool, nat_eq, if◌then◌else◌}
use Rattle.dcp_net.specs.declared.waits.Waited.{Waited}
use Rattle.dcp_net.specs.declared.waits.Waited.TheVariants as waited

-- how many waits have answered Ready, after one more
abbrev pub ready_after : ℕ → Waited → ℕ
ready_after count waited.Ready = count + 1
ready_after count waited.Failed = count

-- where the waits are told after a wait, they were told before it, and are one more where it answered Ready
abbrev pub TellsWaits : Option ℕ → Option ℕ → Waited → Type 0
TellsWaits before None outcome = Unit {0}
TellsWaits None (Some now) outcome = ⊥
TellsWaits (Some before) (Some now) outcome = now ≡ ready_after before outcome

-- waits of which one fails: its number, how many calls were made up to it, whether there were more after it, and how many calls failed
pub record WaitCount : Type 0 where
  pub nth : ℕ
  pub calls : ℕ
  pub past : Bool
  pub faults : ℕ

-- the next wait is the one that fails
abbrev pub fails_next : WaitCount → Bool
fails_next s = nat_eq (s.calls + 1) s.nth

-- up to the failing call, that one excepted, each wait has answered Ready; of later ones nothing is told
abbrev pub waits_told : WaitCount → Option ℕ
waits_told s = if s.past then None else Some (min s.calls (s.nth - 1))
