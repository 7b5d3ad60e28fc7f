-- What must come next in a log of hosted ends, by what each end's rules give over the whole list of its events.
use Rattle.std.specs.Prelude.{◌≡◌, ℕ, List, [], length, drop, take, slice_get, Option, Some, Bool, true, false}
use Rattle.std.specs.List.{flat_map, list_any}
use Rattle.dcp_types.specs.declared.addresses.Address.{Address}
use Rattle.dcp_ends.specs.declared.entries.LogEntry.{LogEntry}
use Rattle.dcp_ends.specs.declared.entries.LogEntry.TheVariants.{Sent, Got, Idle, Turn}
use Rattle.dcp_ends.specs.Events.{Rules}
use Rattle.dcp_ends.specs.Logs.{answered, events_at, own_at, same_address}
use Rattle.rounds.specs.Rounds.{has_report, hosted}

-- what an end sends at its events, and the log does not have yet
abbrev pub missing : List LogEntry → Rules → List LogEntry
missing log rules = drop (length (own_at rules.place log)) (answered rules [] (events_at rules.place log))

-- the Sents that are expected after a log, the next one first
abbrev pub expected_sends : List Rules → List LogEntry → List LogEntry
expected_sends ends log = flat_map (missing log) ends

-- one of these ends is found there
abbrev pub is_hosted_at : List Rules → Address → Bool
is_hosted_at ends at = list_any (λ (rules : Rules). same_address rules.place at) ends

-- a Got, an Idle or a Turn comes where no Sent is expected, and at a hosted end
abbrev pub SuitsEnd : List Rules → List LogEntry → Address → Type 0
SuitsEnd ends log at = (expected_sends ends log ≡ []) × (is_hosted_at ends at ≡ true)

-- a Sent is the next one that is expected
abbrev pub Suits : List Rules → List LogEntry → LogEntry → Type 0
Suits ends log (Sent from to bytes) = slice_get (expected_sends ends log) 0 ≡ Some (Sent from to bytes)
Suits ends log (Got at from bytes) = SuitsEnd ends log at
Suits ends log (Idle at) = SuitsEnd ends log at
Suits ends log (Turn at) = SuitsEnd ends log at

-- an entry that may come after this log: nothing comes once the master has its report
pub record IsRight (master : Option Rules) (slaves : List Rules) (log : List LogEntry) (entry : LogEntry) : Type 0 where
  pub going : has_report master log ≡ false
  pub suits : Suits (hosted master slaves) log entry

-- each entry may come after those before it
abbrev pub AreRight : Option Rules → List Rules → List LogEntry → Type 0
AreRight master slaves log = (k : ℕ) (entry : LogEntry) → slice_get log k ≡ Some entry → IsRight master slaves (take k log) entry
