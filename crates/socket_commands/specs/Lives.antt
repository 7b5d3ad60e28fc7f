-- Ends that ran in rounds, with a wait before each, until they were done and had been at rest for long enough.
use Rattle.std.specs.Prelude.{◌≡◌, ◌⊎◌, ℕ, ◌+◌, ◌*◌, ◌<◌, ◌≤◌, ◌==◌, zero, suc, Bool, true, false, if◌then◌else◌, List, [], ◌++◌, Option, None, Some}
use Rattle.dcp_io.specs.Faults.{Rose}
use Rattle.dcp_types.specs.declared.limits.Limits.{Limits}
use Rattle.dcp_ends.specs.declared.entries.LogEntry.{LogEntry}
use Rattle.dcp_ends.specs.Events.{Rules}
use Rattle.dcp_record.specs.Places.{gots_in}
use Rattle.rounds.specs.Rounds.{IsRound}
use Rattle.host.specs.Views.{HostView, is_done, master_in, slaves_in}
use Rattle.host.specs.declared.hosted.Progress.{Progress}
use Rattle.host.specs.declared.hosted.Progress.TheVariants.{Going, Done}
use Rattle.rounds.specs.declared.one_end.HostFault.{HostFault}
use Rattle.rounds.specs.declared.one_end.HostFault.TheVariants as host
use Rattle.socket_commands.specs.declared.hosting.LiveFault.{LiveFault}
use Rattle.socket_commands.specs.declared.hosting.LiveFault.TheVariants.{Net, Wait, OutOfMemory}
use Rattle.socket_commands.specs.declared.parts.Part.{Part}
use Rattle.socket_commands.specs.declared.parts.Part.TheVariants as parts

-- ---- rounds, and how long the ends have been at rest

-- how many rounds the ends stay at rest after the one in which they are done: a slave without its master as long as that can send a request again
abbrev pub stays : Part → Limits → ℕ
stays parts.All limits = 0
stays parts.Master limits = 0
stays (parts.Slave s) limits = limits.tries * limits.turn_limit

abbrev pub is_done_by : Progress → Bool
is_done_by Going = false
is_done_by Done = true

-- how many rounds the ends have been at rest, up to the one that led from the one log to the other: none where they are not done, this one alone where something came in it, else one more than before it
abbrev pub rested : Option Rules → List Rules → (before log : List LogEntry) → ℕ → ℕ
rested master slaves before log resting = if is_done master slaves log then (if gots_in log == gots_in before then resting + 1 else 1) else 0

-- so many whole rounds, up to the last of which the ends have rested so long, and before it never longer than `most`
abbrev pub RestingRounds : Option Rules → List Rules → (most count resting : ℕ) → List LogEntry → Type 0
RestingRounds master slaves most zero resting log = (log ≡ []) × (resting ≡ 0)
RestingRounds master slaves most (suc n) resting log =
    (before : List LogEntry) × (part : List LogEntry) × (earlier : ℕ) × (log ≡ before ++ part) × RestingRounds master slaves most n earlier before × (earlier ≤ most)
    × IsRound master slaves before part × (resting ≡ rested master slaves before log earlier)

-- where the waits that answered Ready are told after a call, they were told before it, and there were so many in it
abbrev pub CountsWaits : (before now : Option ℕ) → ℕ → Type 0
CountsWaits before None n = Unit {0}
CountsWaits None (Some now) n = ⊥
CountsWaits (Some before) (Some now) n = now ≡ before + n

-- The log is whole rounds, as many as waits answered Ready. The last of them is the first at which the ends, done as they are, have rested for more than `most` rounds.
pub record HasRun (before now : Option ℕ) (most : ℕ) (host : HostView) : Type 0 where
  pub count : ℕ
  pub resting : ℕ
  pub rounds : RestingRounds (master_in host) (slaves_in host) most count resting host.log
  pub stopped : most < resting
  pub waited : CountsWaits before now count
  pub fault : host.fault ≡ None

-- ---- what stopped them

-- a fault of the network or of a wait comes only where its count rose; where memory was wanting, both counts stand still
abbrev pub CauseOf : (net_before net_now wait_before wait_now : ℕ) → LiveFault → Type 0
CauseOf net_before net_now wait_before wait_now Net = Rose net_before net_now
CauseOf net_before net_now wait_before wait_now Wait = Rose wait_before wait_now
CauseOf net_before net_now wait_before wait_now OutOfMemory = (net_now ≡ net_before) × (wait_now ≡ wait_before)

-- what the fault of a host is here
abbrev pub live_fault : HostFault → LiveFault
live_fault (host.Net count) = Net
live_fault host.OutOfMemory = OutOfMemory
