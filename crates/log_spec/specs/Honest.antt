-- A network that delivers only what was sent, and nothing that is more than 32,767 numbers old. The log has its newest entry first.
use Rattle.std.specs.Prelude.{◌≡◌, ℕ, ◌+◌, ◌≤◌, Some, List, [], ◌∷◌, ◌++◌}
use Rattle.dcp_types.specs.declared.addresses.Address.{Address}
use Rattle.log_spec.specs.Messages.{Note}
use Rattle.log_spec.specs.Channel.{number_changes}
use Rattle.dcp_ends.specs.declared.entries.LogEntry.{LogEntry}
use Rattle.dcp_ends.specs.declared.entries.LogEntry.TheVariants.{Sent, Got, Idle, Turn}
use Rattle.log_spec.specs.Log.{Parties, role_heard, Channel, in_channel, sends_in}

-- what comes repeats a Sent of the same addresses and bytes; where that has a channel, its age is at most 32,767
pub record IsRepeatedNewest (w : Parties) (log : List LogEntry) (at from : Address) (bytes : List ℕ) : Type 0 where
  pub later : List LogEntry
  pub earlier : List LogEntry
  pub is : log ≡ later ++ Sent from at bytes ∷ earlier
  pub young : (c : Channel) (n : Note) → in_channel w c from at (role_heard w bytes) ≡ Some n → number_changes (sends_in w c log) ≤ number_changes (sends_in w c (Sent from at bytes ∷ earlier)) + 32767

abbrev pub MayStandNewest : Parties → LogEntry → List LogEntry → Type 0
MayStandNewest w (Sent from to bytes) log = Unit {0}
MayStandNewest w (Got at from bytes) log = IsRepeatedNewest w log at from bytes
MayStandNewest w (Idle at) log = Unit {0}
MayStandNewest w (Turn at) log = Unit {0}

abbrev pub HonestNewest : Parties → List LogEntry → Type 0
HonestNewest w [] = Unit {0}
HonestNewest w (e ∷ log) = MayStandNewest w e log × HonestNewest w log
