-- What a check of a slave's entries answers.
use Rattle.std.specs.Prelude.{◌≡◌, ◌≤◌, ℕ, List, length, take, slice_get, Option, Some, if◌then◌else◌}
use Rattle.dcp_types.specs.declared.addresses.Address.{Address}
use Rattle.dcp_ends.specs.declared.entries.LogEntry.{LogEntry}
use Rattle.dcp_ends.specs.declared.entries.LogEntry.TheVariants.{Sent}
use Rattle.dcp_ends.specs.Logs.{same_address, events_at}
use Rattle.slave_desc.specs.declared.descriptions.SlaveDesc.{SlaveDesc}
use Rattle.conform.specs.declared.answers.BadWhy.{BadWhy}
use Rattle.conform.specs.declared.answers.BadWhy.TheVariants as whys
use Rattle.conform.specs.declared.answers.Conformance.{Conformance}
use Rattle.conform.specs.declared.answers.Conformance.TheVariants.{Follows, Bad}
use Rattle.slave_spec.specs.Allowed.{Allowed, IsAllowedFront}

-- a Sent of the slave stands there; or another entry, or none
abbrev pub bad_why_of : Address → Option LogEntry → BadWhy
bad_why_of place (Some (Sent from to bytes)) = if same_address from place then whys.Send else whys.Missing
bad_why_of place entry = whys.Missing

-- the longest front of the entries with which an allowed list begins has so many
pub record BreaksAt (d : SlaveDesc) (entries : List LogEntry) (at : ℕ) (why : BadWhy) : Type 0 where
  pub within : at ≤ length entries
  pub begins : IsAllowedFront d (take at entries)
  pub longest : (k : ℕ) → k ≤ length entries → IsAllowedFront d (take k entries) → k ≤ at
  pub cause : why ≡ bad_why_of d.address (slice_get entries at)

-- the entries are allowed, with so many events; or they are not, and break there
abbrev pub Judges : SlaveDesc → List LogEntry → Conformance → Type 0
Judges d entries (Follows events) = Allowed d entries × (events ≡ length (events_at d.address entries))
Judges d entries (Bad at why) = (Allowed d entries → ⊥) × BreaksAt d entries at why
