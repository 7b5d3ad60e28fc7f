-- What one call of a host adds to its log, and to the list that the net tells.
use Rattle.std.specs.Prelude.{◌≡◌, ℕ, ◌≤◌, List, [], ◌∷◌, ◌++◌, Option, None, Some, take, Bool, true, false, Result, Err, OnOk}
use Rattle.dcp_types.specs.declared.addresses.Address.{Address}
use Rattle.dcp_ends.specs.declared.entries.LogEntry.{LogEntry}
use Rattle.dcp_ends.specs.declared.entries.LogEntry.TheVariants.{Sent, Got, Idle, Turn}
use Rattle.dcp_ends.specs.Events.{Send}
use Rattle.dcp_ends.specs.Logs.{sent_by}
use Rattle.dcp_io.specs.Faults.{Rose}
use Rattle.dcp_net.specs.Nets.{told_more}
use Rattle.rounds.specs.Rounds.{IsGot}
use Rattle.rounds.specs.declared.one_end.Gram.{Gram}
use Rattle.rounds.specs.declared.one_end.HostFault.{HostFault}
use Rattle.rounds.specs.declared.one_end.HostFault.TheVariants.{Net, OutOfMemory}

-- the entries that a net tells too
abbrev pub without_turn : LogEntry → List LogEntry
without_turn (Sent from to bytes) = Sent from to bytes ∷ []
without_turn (Got at from bytes) = Got at from bytes ∷ []
without_turn (Idle at) = Idle at ∷ []
without_turn (Turn at) = []

-- the log as a network tells it
abbrev pub without_turns : List LogEntry → List LogEntry
without_turns [] = []
without_turns (entry ∷ log) = without_turn entry ++ without_turns log

-- the log has this part more, and the net tells of that what it tells
pub record Added {N : Type 0} (calls : N → Option (List LogEntry)) (before now : N) (old new part : List LogEntry) : Type 0 where
  pub log : new ≡ old ++ part
  pub told : calls now ≡ told_more (calls before) (without_turns part)

-- some first ones of these sends went out
pub record SendsSome {N : Type 0} (calls : N → Option (List LogEntry)) (place : Address) (sends : List Send) (before now : N) (old new : List LogEntry) : Type 0 where
  pub gone : List Send
  pub left : List Send
  pub split : gone ++ left ≡ sends
  pub added : Added calls before now old new (sent_by place gone)

-- a fault of the net is told only where its count rose, with the count that it rose to; elsewhere the count stands still
pub record Caused {T : Type 0} (before now : ℕ) (result : Result T HostFault) : Type 0 where
  pub later : before ≤ now
  pub rose : (count : ℕ) → result ≡ Err (Net count) → Rose before now
  pub named : (count : ℕ) → result ≡ Err (Net count) → count ≡ now
  pub done : OnOk result (now ≡ before)
  pub wanting : result ≡ Err OutOfMemory → now ≡ before

-- what one take gave
abbrev pub gram_entry : Address → Option Gram → List ℕ → LogEntry
gram_entry at None room = Idle at
gram_entry at (Some gram) room = Got at gram.from (take gram.len room)

-- a datagram is no longer than the room
abbrev pub GramFits : Option Gram → Type 0
GramFits None = Unit {0}
GramFits (Some gram) = gram.len ≤ 1025

-- one take added its entry, of a datagram that stands at the front of the room
pub record TookGram {N : Type 0} (calls : N → Option (List LogEntry)) (at : Address) (gram : Option Gram) (room : List ℕ) (before now : N) (old new : List LogEntry) : Type 0 where
  pub fits : GramFits gram
  pub added : Added calls before now old new (gram_entry at gram room ∷ [])

-- what one take of a look adds: a Got with its Sents, or an Idle
abbrev pub LookForm : Address → Bool → List LogEntry → Type 0
LookForm a true part = IsGot a part
LookForm a false part = part ≡ Idle a ∷ []

-- a part of this form was added
pub record AddsPart {N : Type 0} (calls : N → Option (List LogEntry)) (Form : List LogEntry → Type 0) (before now : N) (old new : List LogEntry) : Type 0 where
  pub part : List LogEntry
  pub form : Form part
  pub added : Added calls before now old new part
