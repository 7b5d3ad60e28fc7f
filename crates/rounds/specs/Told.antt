-- What an end stands for, and what it sent, by the log.
use Rattle.std.specs.Prelude.{◌≡◌, ◌≢◌, ◌⊎◌, ℕ, ◌<◌, List, [], ◌∷◌, ◌++◌, length, false, slice_index_or}
use Rattle.std.specs.List.{All}
use Rattle.dcp_types.specs.declared.addresses.Address.{Address}
use Rattle.dcp_ends.specs.declared.entries.LogEntry.{LogEntry}
use Rattle.dcp_ends.specs.Events.{Event, Rules}
use Rattle.dcp_ends.specs.Logs.{events_at, own_at, answered, entry_of, same_address}
use Rattle.rounds.specs.Rounds.{AllSent}

-- the log ends in an event of this end and some of its sends
pub record EndsIn (a : Address) (log : List LogEntry) : Type 0 where
  pub before : List LogEntry
  pub event : Event
  pub sents : List LogEntry
  pub form : log ≡ before ++ entry_of a event ∷ sents
  pub own : AllSent a sents

-- after each of its events, before its next, the log has exactly the sends that its rules give
abbrev pub Follows : Rules → List LogEntry → Type 0
Follows rules log = own_at rules.place log ≡ answered rules [] (events_at rules.place log)

-- the same, but the log may stop among the sends of its last event
pub record FollowsUpTo (rules : Rules) (log : List LogEntry) : Type 0 where
  pub left : List LogEntry
  pub own : own_at rules.place log ++ left ≡ answered rules [] (events_at rules.place log)
  pub last : (left ≡ []) ⊎ EndsIn rules.place log

-- the end stands for its events in the log, and the log has the sends of each
pub record IsTold {E : Type 0} (stands : E → List Event → Type 0) (rules : Rules) (end : E) (log : List LogEntry) : Type 0 where
  pub stands_for : stands end (events_at rules.place log)
  pub follows : Follows rules log

-- the end stands for its events in the log, which may stop among the sends of the last
pub record IsToldUpTo {E : Type 0} (stands : E → List Event → Type 0) (rules : Rules) (end : E) (log : List LogEntry) : Type 0 where
  pub stands_for : stands end (events_at rules.place log)
  pub follows : FollowsUpTo rules log

-- no two of these have one place
abbrev pub Apart : List Rules → Type 0
Apart all = (j k : ℕ) (d : Rules) → j < length all → k < length all → j ≢ k → same_address (slice_index_or all j d).place (slice_index_or all k d).place ≡ false

-- each of these ends is told by the log
abbrev pub AllTold : {E : Type 0} → (E → List Event → Type 0) → (E → Rules) → List E → List LogEntry → Type 0
AllTold stands rules ends log = All (λ end. IsTold stands (rules end) end log) ends

-- each of these ends is told by the log, which may stop among the sends of its last event
abbrev pub AllToldUpTo : {E : Type 0} → (E → List Event → Type 0) → (E → Rules) → List E → List LogEntry → Type 0
AllToldUpTo stands rules ends log = All (λ end. IsToldUpTo stands (rules end) end log) ends
