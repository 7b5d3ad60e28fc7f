-- What the master does in its conversation with each slave, whatever else it does.
use Rattle.std.specs.Prelude.{◌≡◌, ℕ, ◌%◌, ◌≤◌, true, false, ◌⊎◌, Some, List, [], ◌∷◌, length}
use Rattle.log_spec.specs.Messages.{Note, Request}
use Rattle.log_spec.specs.Channel.{Repeats}
use Rattle.dcp_ends.specs.declared.entries.LogEntry.{LogEntry}
use Rattle.dcp_ends.specs.declared.entries.LogEntry.TheVariants.{Sent, Got, Idle, Turn}
use Rattle.log_spec.specs.Log.{role_heard, Parties, IsSlaveOf, requests_sent}
use Rattle.log_spec.specs.Moves.{Move, Asks, Comes, Tells, Hears, Brings, Turns, Rests, Other, move, decided_exchanges}
use Rattle.lockstep_laws.specs.Steps.{RowEvent, row_event_at, event_asked, run_after, view}
use Rattle.lockstep_laws.specs.Cast.{ConversingSlaves}

-- a row event is asked of s when none is under way there and no slave has done fewer; it is the one that comes next, all slaves are set up for its run, and there is such a run
pub record IsLeast (w : Parties) (x : ConversingSlaves) (s : ℕ) (k : RowEvent) (log : List LogEntry) : Type 0 where
  pub free : (view (decided_exchanges w s log)).waiting ≡ false
  pub next : k ≡ row_event_at x.steps (view (decided_exchanges w s log)).done
  pub least : (t : ℕ) → IsSlaveOf w t → (view (decided_exchanges w s log)).done ≤ (view (decided_exchanges w t log)).done
  pub opened : (t : ℕ) → IsSlaveOf w t → x.opened t (run_after x.steps (view (decided_exchanges w s log)).done) (decided_exchanges w t log) ≡ true
  pub within : run_after x.steps (view (decided_exchanges w s log)).done ≤ x.runs

-- the next request, once the one before is decided: the first is a register that the slave accepts, each may be asked after what was decided, and a row event waits for all slaves
pub record IsNewRequest (w : Parties) (x : ConversingSlaves) (s : ℕ) (n : Note) (log : List LogEntry) : Type 0 where
  pub closed : length (decided_exchanges w s log) ≡ length (requests_sent w s log)
  pub number : n.number ≡ length (requests_sent w s log) % 65536
  pub first : requests_sent w s log ≡ [] → x.accepts s n ≡ true
  pub may : x.may s (decided_exchanges w s log) n ≡ true
  pub barrier : (k : RowEvent) → event_asked n ≡ Some k → IsLeast w x s k log

-- the newest request is sent again, or the next one
abbrev pub MasterMay : Parties → ConversingSlaves → ℕ → Move → List LogEntry → Type 0
MasterMay w x s (Asks n) log = Repeats (requests_sent w s log) n ⊎ IsNewRequest w x s n log
MasterMay w x s (Comes from receiver n) log = Unit {0}
MasterMay w x s (Tells to bytes) log = Unit {0}
MasterMay w x s (Hears n) log = Unit {0}
MasterMay w x s (Brings from id n) log = Unit {0}
MasterMay w x s Turns log = Unit {0}
MasterMay w x s Rests log = Unit {0}
MasterMay w x s Other log = Unit {0}

abbrev pub MasterConverses : Parties → ConversingSlaves → List LogEntry → Type 0
MasterConverses w x [] = Unit {0}
MasterConverses w x (e ∷ log) = ((s : ℕ) → IsSlaveOf w s → MasterMay w x s (move w s e) log) × MasterConverses w x log

-- the master sends nothing but requests
abbrev pub IsAsking : Parties → LogEntry → Type 0
IsAsking w (Sent from to bytes) = from ≡ w.master → (receiver : ℕ) × (n : Note) × (role_heard w bytes ≡ Request receiver n)
IsAsking w (Got at from bytes) = Unit {0}
IsAsking w (Idle at) = Unit {0}
IsAsking w (Turn at) = Unit {0}

abbrev pub OnlyAsks : Parties → List LogEntry → Type 0
OnlyAsks w [] = Unit {0}
OnlyAsks w (e ∷ log) = IsAsking w e × OnlyAsks w log
