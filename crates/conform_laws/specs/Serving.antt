-- What a slave whose model is not known has taken in a run. The log has its oldest entry first, what was so far its newest.
use Rattle.std.specs.Prelude.{◌≡◌, ℕ, ◌⊎◌, Some, List, [], ◌∷◌, ◌++◌, map, reverse, length}
use Rattle.dcp_ends.specs.declared.entries.LogEntry.{LogEntry}
use Rattle.dcp_ends.specs.declared.entries.LogEntry.TheVariants.{Sent, Got, Idle, Turn}
use Rattle.dcp_ends.specs.Logs.{events_at}
use Rattle.log_spec.specs.Messages.{Note}
use Rattle.log_spec.specs.Channel.{at_ordinal}
use Rattle.log_spec.specs.Log.{Parties, IsSlaveOf, AreAtEnds, DecidedRequest, role_heard, requests_sent}
use Rattle.log_spec.specs.Moves.{decided_exchanges}
use Rattle.log_spec.specs.Oldest.{Honest}
use Rattle.lockstep_laws.specs.Slaves.{IsNoRequest}
use Rattle.lockstep_laws.specs.Deciding.{IsDeciding}
use Rattle.lockstep_laws.specs.Models.Scenarios.{slave_numbered}
use Rattle.slave_desc.specs.declared.descriptions.SlaveDesc.{SlaveDesc}
use Rattle.scenario.specs.declared.scenarios.Scenario.{Scenario}
use Rattle.scenario.specs.Sound.{IsScenario}
use Rattle.master_spec.specs.Rules.{MasterRun}
use Rattle.run_laws.specs.Laws.{parties, IsRunInRounds}
use Rattle.slave_spec.specs.Allowed.{end_of_entry, IsAllowedFront}
use Rattle.conform_laws.specs.Served.{allowed_served}

-- no request is sent
abbrev pub AsksNothing : Parties → LogEntry → Type 0
AsksNothing w (Sent from to bytes) = IsNoRequest (role_heard w bytes)
AsksNothing w (Got at from bytes) = Unit {0}
AsksNothing w (Idle at) = Unit {0}
AsksNothing w (Turn at) = Unit {0}

-- no end but the master and slave s sends a request
abbrev pub OthersAskNothing : Parties → ℕ → List LogEntry → Type 0
OthersAskNothing w s [] = Unit {0}
OthersAskNothing w s (e ∷ log) = ((end_of_entry e ≡ w.master) ⊎ ((end_of_entry e ≡ w.slave s) ⊎ AsksNothing w e)) × OthersAskNothing w s log

-- the network is honest, the master does what its rules say, an allowed log begins with the entries of slave s, and the others do anything but ask
pub record IsRunWith (sc : Scenario) (other : SlaveDesc) (s : ℕ) (log : List LogEntry) : Type 0 where
  pub slave : IsSlaveOf (parties sc other) s
  pub honest : Honest (parties sc other) log
  pub master : MasterRun sc log
  pub allowed : IsAllowedFront (slave_numbered sc other s) log
  pub others : OthersAskNothing (parties sc other) s log

-- what slave s has taken so far, the newest first
abbrev pub taken_so_far : (sc : Scenario) (other : SlaveDesc) (s : ℕ) (log : List LogEntry) → IsRunWith sc other s log → (sofar : List LogEntry) → List DecidedRequest
taken_so_far sc other s log run sofar = allowed_served (parties sc other) (slave_numbered sc other s) (log ++ (run.allowed).0) (run.allowed).1 (length (events_at (slave_numbered sc other s).address sofar))

abbrev pub AtEachMoment : ((sc : Scenario) (other : SlaveDesc) (s : ℕ) → List DecidedRequest → List LogEntry → Type 0) → Type 0
AtEachMoment Holds = (sc : Scenario) (other : SlaveDesc) → IsScenario sc → (s : ℕ) (log : List LogEntry) (run : IsRunWith sc other s log) (later sofar : List LogEntry) → reverse log ≡ later ++ sofar
    → Holds sc other s (taken_so_far sc other s log run sofar) sofar

-- with the newest first: the requests to the slave are some later ones, and then all that it took
abbrev pub TakenOnce : (sc : Scenario) (other : SlaveDesc) (s : ℕ) → List DecidedRequest → List LogEntry → Type 0
TakenOnce sc other s served sofar = (later : List Note) × (requests_sent (parties sc other) s sofar ≡ later ++ map (λ e. e.request) served)

-- what is decided is what was taken, but for some later exchanges
abbrev pub DecidedAsTaken : (sc : Scenario) (other : SlaveDesc) (s : ℕ) → List DecidedRequest → List LogEntry → Type 0
DecidedAsTaken sc other s served sofar = (later : List DecidedRequest) × (served ≡ later ++ decided_exchanges (parties sc other) s sofar)

-- the deciding answer of a request is the one that the slave gave when it took the request with this ordinal
abbrev pub DecidedAsGiven : (sc : Scenario) (other : SlaveDesc) (s : ℕ) → List DecidedRequest → List LogEntry → Type 0
DecidedAsGiven sc other s served sofar = (o : ℕ) (a : Note) → IsDeciding (parties sc other) s o a sofar → (e : DecidedRequest) × (at_ordinal served o ≡ Some e) × (e.answer ≡ a)

-- allowed slaves are among those that ask nothing
abbrev pub AllowedAskNothing : Type 0
AllowedAskNothing = (sc : Scenario) (other : SlaveDesc) → IsScenario sc → (log : List LogEntry) → AreAtEnds (parties sc other) log → ((t : ℕ) → IsSlaveOf (parties sc other) t → IsAllowedFront (slave_numbered sc other t) log)
    → (s : ℕ) → OthersAskNothing (parties sc other) s log

-- each slave of a host of all ends over an honest network is in such a run
abbrev pub HostRunsAreSuch : Type 0
HostRunsAreSuch = (sc : Scenario) (other : SlaveDesc) → IsScenario sc → (log : List LogEntry) → IsRunInRounds sc other log → (s : ℕ) → IsSlaveOf (parties sc other) s → IsRunWith sc other s log
