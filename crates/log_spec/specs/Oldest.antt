-- The same as Honest, of the log in the order in which things happened: an entry may stand after those before it.
use Rattle.std.specs.Prelude.{◌≡◌, ℕ, ◌+◌, ◌≤◌, Some, List, [], ◌∷◌, ◌++◌}
use Rattle.dcp_types.specs.declared.addresses.Address.{Address}
use Rattle.log_spec.specs.Messages.{Note}
use Rattle.log_spec.specs.Channel.{number_changes}
use Rattle.dcp_ends.specs.declared.entries.LogEntry.{LogEntry}
use Rattle.dcp_ends.specs.declared.entries.LogEntry.TheVariants.{Sent, Got, Idle, Turn}
use Rattle.log_spec.specs.Log.{Parties, role_heard, Channel, in_channel, sends_in}

-- each entry of the log may stand after those before it
abbrev pub EachAfter : (LogEntry → List LogEntry → Type 0) → List LogEntry → Type 0
EachAfter May log = (before after : List LogEntry) (e : LogEntry) → log ≡ before ++ e ∷ after → May e before

-- what comes repeats a Sent of the same addresses and bytes; where that has a channel, its age is at most 32,767
pub record IsRepeated (w : Parties) (log : List LogEntry) (at from : Address) (bytes : List ℕ) : Type 0 where
  pub earlier : List LogEntry
  pub later : List LogEntry
  pub is : log ≡ earlier ++ Sent from at bytes ∷ later
  pub young : (c : Channel) (n : Note) → in_channel w c from at (role_heard w bytes) ≡ Some n → number_changes (sends_in w c log) ≤ number_changes (sends_in w c (earlier ++ Sent from at bytes ∷ [])) + 32767

abbrev pub MayStand : Parties → LogEntry → List LogEntry → Type 0
MayStand w (Sent from to bytes) log = Unit {0}
MayStand w (Got at from bytes) log = IsRepeated w log at from bytes
MayStand w (Idle at) log = Unit {0}
MayStand w (Turn at) log = Unit {0}

abbrev pub Honest : Parties → List LogEntry → Type 0
Honest w log = EachAfter (MayStand w) log
