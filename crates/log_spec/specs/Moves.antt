-- What an entry is to the conversation with one slave. Nothing else tests addresses.
use Rattle.std.specs.Prelude.{ℕ, ◌==◌, ◌&&◌, nat_lt, Bool, false, if◌then◌else◌, List, [], ◌∷◌, length}
use Rattle.dcp_types.specs.declared.addresses.Address.{Address}
use Rattle.log_spec.specs.Messages.{Note, Role, Request, Answer, Value, Else}
use Rattle.dcp_ends.specs.declared.entries.LogEntry.{LogEntry}
use Rattle.dcp_ends.specs.declared.entries.LogEntry.TheVariants.{Sent, Got, Idle, Turn}
use Rattle.log_spec.specs.Log.{Parties, same, role_heard, requests_sent, DecidedRequest}

pub data Move : Type 0 where
  -- the master sends s a request
  Asks : Note → Move
  -- s gets a request
  Comes : (from : Address) → (receiver : ℕ) → Note → Move
  -- s sends
  Tells : (to : Address) → (bytes : List ℕ) → Move
  -- the master gets an answer of s
  Hears : Note → Move
  -- s gets data
  Brings : (from : Address) → (id : ℕ) → Note → Move
  -- s has its turn; finds nothing, or gets what has no effect on it
  Turns : Move
  Rests : Move
  Other : Move

abbrev pub sent_move : Parties → ℕ → (from to : Address) → List ℕ → Role → Move
sent_move w s from to bytes (Request receiver n) = if same from w.master && same to (w.slave s) then Asks n else (if same from (w.slave s) then Tells to bytes else Other)
sent_move w s from to bytes (Answer sender n) = if same from (w.slave s) then Tells to bytes else Other
sent_move w s from to bytes (Value id n) = if same from (w.slave s) then Tells to bytes else Other
sent_move w s from to bytes Else = if same from (w.slave s) then Tells to bytes else Other

abbrev pub got_move : Parties → ℕ → (at from : Address) → Role → Move
got_move w s at from (Request receiver n) = if same at (w.slave s) then Comes from receiver n else Other
got_move w s at from (Answer sender n) = if same at (w.slave s) then Rests else (if (same at w.master && same from (w.slave s)) && (sender == s) then Hears n else Other)
got_move w s at from (Value id n) = if same at (w.slave s) then Brings from id n else Other
got_move w s at from Else = if same at (w.slave s) then Rests else Other

abbrev pub move : Parties → ℕ → LogEntry → Move
move w s (Sent from to bytes) = sent_move w s from to bytes (role_heard w bytes)
move w s (Got at from bytes) = got_move w s at from (role_heard w bytes)
move w s (Idle at) = if same at (w.slave s) then Rests else Other
move w s (Turn at) = if same at (w.slave s) then Turns else Other

-- ---- which answer decides a request

abbrev pub has_newest_number : Note → List Note → Bool
has_newest_number a [] = false
has_newest_number a (r ∷ rs) = a.number == r.number

-- the newest request is open, and this is an answer to it
abbrev pub decides : Note → List Note → List DecidedRequest → Bool
decides a rs ds = nat_lt (length ds) (length rs) && has_newest_number a rs

abbrev pub with_newest : List Note → Note → List DecidedRequest → List DecidedRequest
with_newest [] a ds = ds
with_newest (r ∷ rs) a ds = record { request = r; answer = a } ∷ ds

abbrev pub decided_after : Move → List Note → List DecidedRequest → List DecidedRequest
decided_after (Asks n) rs ds = ds
decided_after (Comes from receiver n) rs ds = ds
decided_after (Tells to bytes) rs ds = ds
decided_after (Hears a) rs ds = if decides a rs ds then with_newest rs a ds else ds
decided_after (Brings from id n) rs ds = ds
decided_after Turns rs ds = ds
decided_after Rests rs ds = ds
decided_after Other rs ds = ds

-- the requests to s that are decided, each with its deciding answer, the newest first
abbrev pub decided_exchanges : Parties → ℕ → List LogEntry → List DecidedRequest
decided_exchanges w s [] = []
decided_exchanges w s (e ∷ log) = decided_after (move w s e) (requests_sent w s log) (decided_exchanges w s log)
