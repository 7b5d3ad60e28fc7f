-- What one entry of a hosted end means: its event, and the sends that must follow.
use Rattle.std.specs.Prelude.{◌≡◌, ◌≢◌, ◌≤◌, ℕ, List, [], ◌∷◌, ◌++◌, length, take, slice_get, Option, None, Some, Result, Ok, Err, IfSome, All, MatchBool, ◌&&◌, nat_lt, ◌<◌, Bool, true, false, slice_index_or}
use Rattle.dcp_types.specs.declared.addresses.Address.{Address}
use Rattle.dcp_ends.specs.declared.entries.LogEntry.{LogEntry}
use Rattle.dcp_ends.specs.declared.entries.LogEntry.TheVariants.{Sent, Got, Idle, Turn}
use Rattle.dcp_ends.specs.declared.ends.End.{Ghosts}
use Rattle.dcp_ends.specs.Events.{Event, Gram, Tick, Send, Rules}
use Rattle.dcp_ends.specs.Logs.{same_address, sent_by}
use Rattle.rounds.specs.Told.{IsTold, AllTold}
use Rattle.replays.specs.Expected.{AreRight}
use Rattle.replays.specs.declared.stops.Stop.{Stop}
use Rattle.replays.specs.declared.stops.Stop.TheVariants as stops

-- the end of an entry that is no Sent
abbrev pub place_in : LogEntry → Option Address
place_in (Sent from to bytes) = None
place_in (Got at from bytes) = Some at
place_in (Idle at) = Some at
place_in (Turn at) = Some at

-- the event that an entry is to its end, if any
abbrev pub event_in : LogEntry → List Event
event_in (Sent from to bytes) = []
event_in (Got at from bytes) = Gram from bytes ∷ []
event_in (Idle at) = []
event_in (Turn at) = Tick ∷ []

-- what an end has to send after an entry
abbrev pub visit_sends : Rules → List Event → LogEntry → List Send
visit_sends rules events (Sent from to bytes) = []
visit_sends rules events (Got at from bytes) = rules.sends events (Gram from bytes)
visit_sends rules events (Idle at) = []
visit_sends rules events (Turn at) = rules.sends events Tick

-- from `start` to `at` stand the first of these sends
pub record HasFirst (place : Address) (sends left : List Send) (entries : List LogEntry) (start at : ℕ) : Type 0 where
  pub gone : List Send
  pub split : gone ++ left ≡ sends
  pub later : start ≤ at
  pub within : at ≤ length entries
  pub there : take at entries ≡ take start entries ++ sent_by place gone

-- the first of these sends, and then another entry than the next one
pub record HasOther (place : Address) (sends : List Send) (entries : List LogEntry) (start at : ℕ) : Type 0 where
  pub send : Send
  pub left : List Send
  pub first : HasFirst place sends (send ∷ left) entries start at
  pub entry : LogEntry
  pub here : slice_get entries at ≡ Some entry
  pub other : entry ≢ Sent place send.to send.bytes

-- the first of these sends, and then no entry in place of the next one
pub record HasNoMore (place : Address) (sends : List Send) (entries : List LogEntry) (start : ℕ) : Type 0 where
  pub send : Send
  pub left : List Send
  pub first : HasFirst place sends (send ∷ left) entries start (length entries)

-- the place that was reached, or where it stopped
abbrev pub place_reached : {T : Type 0} → (at : ℕ) → Result T Stop → Result ℕ Stop
place_reached at (Ok done) = Ok at
place_reached at (Err stop) = Err stop

-- from `start` on stand all of these sends, up to the place that is answered; or this is what comes in their place
abbrev pub Passes : Address → List Send → List LogEntry → (start : ℕ) → Result ℕ Stop → Type 0
Passes place sends entries start (Ok at) = HasFirst place sends [] entries start at
Passes place sends entries start (Err (stops.Differs at)) = HasOther place sends entries start at
Passes place sends entries start (Err stops.Unended) = HasNoMore place sends entries start

-- the same of the master, but where it has its report after the entry, no other entry may follow
abbrev pub PassesUnless : Rules → List Event → LogEntry → List LogEntry → (start : ℕ) → Result ℕ Stop → Type 0
PassesUnless rules events entry entries start result =
    MatchBool (rules.over (events ++ event_in entry) && nat_lt start (length entries)) (result ≡ Err (stops.Differs start)) (Passes rules.place (visit_sends rules events entry) entries start result)

-- each end stands for its events in the log, whose sends are there, and nothing is outgoing
pub record AreAt {M S : Type 0} (first : Ghosts M) (end : Ghosts S) (master : Option M) (slaves : List S) (log : List LogEntry) : Type 0 where
  pub told_master : IfSome master (λ m. IsTold first.stands (first.rules m) m log)
  pub told_slaves : AllTold end.stands end.rules slaves log
  pub quiet_master : IfSome master (λ m. first.outs m ≡ [])
  pub quiet_slaves : All (λ s. end.outs s ≡ []) slaves

-- an entry and what its end then sends are behind, up to this place
pub record WentOn (master : Option Rules) (slaves : List Rules) (entries : List LogEntry) (at next : ℕ) : Type 0 where
  pub later : at < next
  pub within : next ≤ length entries
  pub right : AreRight master slaves (take next entries)

-- an end is there, and is found at this address
abbrev pub is_found_at : Option Rules → Address → Bool
is_found_at None place = false
is_found_at (Some rules) place = same_address rules.place place

-- this address stands there
pub record IsFoundPlace (places : List Address) (place : Address) (i : ℕ) : Type 0 where
  pub within : i < length places
  pub same : (d : Address) → same_address (slice_index_or places i d) place ≡ true

-- an end to which nothing has come
pub record IsNewEnd {E : Type 0} (made : Ghosts E) (end : E) : Type 0 where
  pub nothing : made.stands end []
  pub quiet : made.outs end ≡ []
