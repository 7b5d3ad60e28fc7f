-- A follower that has come past entries.
use Rattle.std.specs.Prelude.{◌≡◌, List, [], ◌∷◌, ◌++◌, Option, Some, MatchOption}
use Rattle.dcp_ends.specs.declared.entries.LogEntry.{LogEntry}
use Rattle.slave_desc.specs.declared.descriptions.SlaveDesc.{SlaveDesc}
use Rattle.slave_spec.specs.Allowed.{IsAllowedFront}
use Rattle.slave_spec.specs.Standpoints.{Standpoint, Between, Within, HasComeTo}
use Rattle.conform.specs.declared.answers.BadWhy.{BadWhy}
use Rattle.conform.specs.declared.followers.Awaited.TheVariants as awaited
use Rattle.conform.specs.declared.followers.Follower.{Follower}
use Rattle.conform.specs.Checks.{bad_why_of}
use Rattle.conform.specs.Standing.{StandsBetween, StandsWithin}

abbrev pub IsAtSpot : Follower → SlaveDesc → Standpoint → Type 0
IsAtSpot c d (Between x) = StandsBetween c d x × (c.awaited ≡ awaited.Closed)
IsAtSpot c d (Within x event gone) = StandsWithin c d x event gone

-- it stands where these entries have come to
pub record HasFollowed (c : Follower) (d : SlaveDesc) (entries : List LogEntry) : Type 0 where
  pub spot : Standpoint
  pub at_spot : IsAtSpot c d spot
  pub come : HasComeTo d entries spot

-- no allowed list begins with these entries and this one
pub record IsBreak (d : SlaveDesc) (entries : List LogEntry) (entry : LogEntry) (why : BadWhy) : Type 0 where
  pub never : (more : List LogEntry) → IsAllowedFront d (entries ++ entry ∷ more) → ⊥
  pub cause : why ≡ bad_why_of d.address (Some entry)

-- it has gone past the entry; or the entry may not come
abbrev pub Followed : SlaveDesc → List LogEntry → LogEntry → Follower → Option BadWhy → Type 0
Followed d entries entry new result = MatchOption result (HasFollowed new d (entries ++ entry ∷ [])) (IsBreak d entries entry)
