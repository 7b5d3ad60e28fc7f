-- The log of a run, the newest entry first, and what was sent in each channel.
use Rattle.std.specs.Prelude.{◌≡◌, ◌≢◌, ℕ, ◌<◌, ◌≤◌, ◌==◌, ◌&&◌, Bool, if◌then◌else◌, ◌⊎◌, Option, Some, None, List, [], ◌∷◌}
use Rattle.std.specs.List.{filter_map}
use Rattle.dcp_types.specs.declared.addresses.Address.{Address}
use Rattle.dcp_ends.specs.declared.entries.LogEntry.{LogEntry}
use Rattle.dcp_ends.specs.declared.entries.LogEntry.TheVariants.{Sent, Got, Idle, Turn}
use Rattle.pdu_layout.specs.Message.{Message}
use Rattle.log_spec.specs.Messages.{Note, Role, Request, Answer, Value, role_read}
use Rattle.log_spec.specs.Channel.{by_ordinal}

-- the addresses are the same
unfoldable pub same : Address → Address → Bool
same a b = (a.ip == b.ip) && (a.port == b.port)

-- who takes part in a run: the master, slaves 1 to count; and how datagrams are read
pub record Parties : Type 0 where
  pub count : ℕ
  pub master : Address
  pub slave : ℕ → Address
  pub read : List ℕ → Option Message

abbrev pub IsSlaveOf : Parties → ℕ → Type 0
IsSlaveOf w s = (0 < s) × (s ≤ w.count)

-- no two of them have the same address
pub record PartiesApart (w : Parties) : Type 0 where
  pub master : (s : ℕ) → IsSlaveOf w s → w.slave s ≢ w.master
  pub slaves : (s t : ℕ) → IsSlaveOf w s → IsSlaveOf w t → w.slave s ≡ w.slave t → s ≡ t

abbrev pub role_heard : Parties → List ℕ → Role
role_heard w bytes = role_read (w.read bytes)

-- the requests to a slave, its answers, or one data id
pub data Channel : Type 0 where
  Requests : ℕ → Channel
  Answers : ℕ → Channel
  Values : (id : ℕ) → Channel

-- what a datagram is in this channel
abbrev pub in_channel : Parties → Channel → Address → Address → Role → Option Note
in_channel w (Requests s) from to (Request receiver n) = if same from w.master && same to (w.slave s) then Some n else None
in_channel w (Answers s) from to (Answer sender n) = if same from (w.slave s) then Some n else None
in_channel w (Values id) from to (Value i n) = if i == id then Some n else None
in_channel w _ from to _ = None

abbrev pub sent_in : Parties → Channel → LogEntry → Option Note
sent_in w c (Sent from to bytes) = in_channel w c from to (role_heard w bytes)
sent_in w c (Got at from bytes) = None
sent_in w c (Idle at) = None
sent_in w c (Turn at) = None

-- what was sent in a channel, the newest first
abbrev pub sends_in : Parties → Channel → List LogEntry → List Note
sends_in w c log = filter_map (sent_in w c) log

-- the requests to s, one for each ordinal, the newest first
abbrev pub requests_sent : Parties → ℕ → List LogEntry → List Note
requests_sent w s log = by_ordinal (sends_in w (Requests s) log)

-- the answers of s, one for each ordinal
abbrev pub answers_sent : Parties → ℕ → List LogEntry → List Note
answers_sent w s log = by_ordinal (sends_in w (Answers s) log)

-- the data messages of one id, one for each ordinal
abbrev pub values_sent : Parties → ℕ → List LogEntry → List Note
values_sent w id log = by_ordinal (sends_in w (Values id) log)

-- a request, and the answer to it
pub record DecidedRequest : Type 0 where
  pub request : Note
  pub answer : Note

-- each entry is at an end that takes part
abbrev pub IsEnd : Parties → Address → Type 0
IsEnd w a = (a ≡ w.master) ⊎ ((s : ℕ) × IsSlaveOf w s × (a ≡ w.slave s))

abbrev pub IsAtEnd : Parties → LogEntry → Type 0
IsAtEnd w (Sent from to bytes) = IsEnd w from
IsAtEnd w (Got at from bytes) = IsEnd w at
IsAtEnd w (Idle at) = IsEnd w at
IsAtEnd w (Turn at) = IsEnd w at

abbrev pub AreAtEnds : Parties → List LogEntry → Type 0
AreAtEnds w [] = Unit {0}
AreAtEnds w (e ∷ log) = IsAtEnd w e × AreAtEnds w log
