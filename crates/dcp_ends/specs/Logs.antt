-- Logs of several ends.
use Rattle.std.specs.Prelude.{◌==◌, ◌&&◌, ◌≤◌, List, [], ◌∷◌, ◌++◌, length, Bool, if◌then◌else◌}
use Rattle.dcp_types.specs.declared.addresses.Address.{Address}
use Rattle.dcp_ends.specs.declared.entries.LogEntry.{LogEntry}
use Rattle.dcp_ends.specs.declared.entries.LogEntry.TheVariants.{Sent, Got, Idle, Turn}
use Rattle.dcp_ends.specs.Events.{Event, Gram, Tick, Send, Rules}

-- an end sends 1 to 1,024 bytes, and is given at most 1,025
abbrev pub IsInRange : LogEntry → Type 0
IsInRange (Sent from to bytes) = (1 ≤ length bytes) × (length bytes ≤ 1024)
IsInRange (Got at from bytes) = length bytes ≤ 1025
IsInRange (Idle at) = Unit {0}
IsInRange (Turn at) = Unit {0}

abbrev pub same_address : Address → Address → Bool
same_address a b = (a.ip == b.ip) && (a.port == b.port)

-- the event of this end that an entry tells of, if any
abbrev pub event_at : Address → LogEntry → List Event
event_at a (Sent from to bytes) = []
event_at a (Got at from bytes) = if same_address a at then Gram from bytes ∷ [] else []
event_at a (Idle at) = []
event_at a (Turn at) = if same_address a at then Tick ∷ [] else []

-- the Gots and Turns of an end, in order
abbrev pub events_at : Address → List LogEntry → List Event
events_at a [] = []
events_at a (entry ∷ log) = event_at a entry ++ events_at a log

abbrev pub own_entry : Address → LogEntry → List LogEntry
own_entry a (Sent from to bytes) = if same_address a from then Sent from to bytes ∷ [] else []
own_entry a (Got at from bytes) = if same_address a at then Got at from bytes ∷ [] else []
own_entry a (Idle at) = []
own_entry a (Turn at) = if same_address a at then Turn at ∷ [] else []

-- the Gots, Turns and Sents of an end, in order
abbrev pub own_at : Address → List LogEntry → List LogEntry
own_at a [] = []
own_at a (entry ∷ log) = own_entry a entry ++ own_at a log

abbrev pub sent_by : Address → List Send → List LogEntry
sent_by a [] = []
sent_by a (send ∷ sends) = Sent a send.to send.bytes ∷ sent_by a sends

abbrev pub entry_of : Address → Event → LogEntry
entry_of a (Gram from bytes) = Got a from bytes
entry_of a Tick = Turn a

-- each of these events, after those before it, with the sends that the rules give
abbrev pub answered : Rules → List Event → List Event → List LogEntry
answered rules before [] = []
answered rules before (event ∷ events) =
    entry_of rules.place event ∷ (sent_by rules.place (rules.sends before event) ++ answered rules (before ++ event ∷ []) events)
