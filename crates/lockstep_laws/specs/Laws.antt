-- What holds at every moment of an honest log.
use Rattle.std.specs.Prelude.{◌≡◌, ℕ, ◌+◌, ◌*◌, ◌≤◌, ◌⊎◌, Some, List, ◌++◌, map}
use Rattle.log_spec.specs.Messages.{Note}
use Rattle.log_spec.specs.Channel.{at_ordinal}
use Rattle.dcp_ends.specs.declared.entries.LogEntry.{LogEntry}
use Rattle.log_spec.specs.Log.{Parties, IsSlaveOf, requests_sent, DecidedRequest}
use Rattle.log_spec.specs.Moves.{decided_exchanges}
use Rattle.lockstep_laws.specs.Steps.{Bench, place_after, shown_after}
use Rattle.lockstep_laws.specs.Cast.{ConversingSlaves}
use Rattle.lockstep_laws.specs.Runs.{AreSlaves, Behaves}
use Rattle.lockstep_laws.specs.Asked.{AskedAsPlanned}
use Rattle.lockstep_laws.specs.Deciding.{IsDeciding}

-- at every moment of every log in which all behave
abbrev pub Always : (Parties → ConversingSlaves → List LogEntry → Type 0) → Type 0
Always Holds = (w : Parties) (x : ConversingSlaves) → AreSlaves w x → (later log : List LogEntry) → Behaves w x (later ++ log) → Holds w x log

-- with the newest first: the requests to a slave are some later ones, and then all that it took
abbrev pub TakenInOrder : Parties → ConversingSlaves → List LogEntry → Type 0
TakenInOrder w x log = (s : ℕ) → IsSlaveOf w s → (later : List Note) × (requests_sent w s log ≡ later ++ map (λ e. e.request) (x.desk s log).served)

-- the deciding answer of a request is the one that the slave gave when it took the request with this ordinal
abbrev pub DecidedByGiven : Parties → ConversingSlaves → List LogEntry → Type 0
DecidedByGiven w x log = (s : ℕ) → IsSlaveOf w s → (o : ℕ) (a : Note) → IsDeciding w s o a log → (e : DecidedRequest) × (at_ordinal (x.desk s log).served o ≡ Some e) × (e.answer ≡ a)

-- what is decided is what was served, but for some later exchanges
abbrev pub DecidedAsServed : Parties → ConversingSlaves → List LogEntry → Type 0
DecidedAsServed w x log = (s : ℕ) → IsSlaveOf w s → (later : List DecidedRequest) × ((x.desk s log).served ≡ later ++ decided_exchanges w s log)

-- no slave is more than one place ahead of another, and none has shown more than one row more than another has behind it
pub record AreTogether (w : Parties) (x : ConversingSlaves) (log : List LogEntry) (s t : ℕ) : Type 0 where
  pub places : place_after (x.bench s log).events ≤ place_after (x.bench t log).events + 1
  pub shown : shown_after (x.bench s log).events ≤ place_after (x.bench t log).events + 1
  pub behind : place_after (x.bench s log).events ≤ shown_after (x.bench t log).events

-- a place is that many resets and steps
abbrev pub IsPlace : ConversingSlaves → List LogEntry → ℕ → Type 0
IsPlace x log s = let b = x.bench s log in (place_after b.events ≡ b.resets * (x.steps + 1) + b.steps) × (b.steps ≤ x.steps)

abbrev pub StepTogether : Parties → ConversingSlaves → List LogEntry → Type 0
StepTogether w x log = (s t : ℕ) → IsSlaveOf w s → IsSlaveOf w t → AreTogether w x log s t

-- the resets are equal and the steps differ by at most one, or the one with a reset more has no step and the other all
abbrev pub AreInStep : (steps : ℕ) → Bench → Bench → Type 0
AreInStep steps b c =
    ((b.resets ≡ c.resets) × (b.steps ≤ c.steps + 1) × (c.steps ≤ b.steps + 1))
    ⊎ (((b.resets ≡ c.resets + 1) × (b.steps ≡ 0) × (c.steps ≡ steps))
    ⊎ ((c.resets ≡ b.resets + 1) × (c.steps ≡ 0) × (b.steps ≡ steps)))

abbrev pub InStep : Parties → ConversingSlaves → List LogEntry → Type 0
InStep w x log = (s t : ℕ) → IsSlaveOf w s → IsSlaveOf w t → AreInStep x.steps (x.bench s log) (x.bench t log)

-- each request that a slave took might be asked of it after the exchanges before
abbrev pub AskedInOrder : Parties → ConversingSlaves → List LogEntry → Type 0
AskedInOrder w x log = (s : ℕ) → IsSlaveOf w s → AskedAsPlanned (x.may s) (x.desk s log).served
