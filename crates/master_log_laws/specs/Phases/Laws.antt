-- How the requests of a log follow one another, on every network, honest or not. The log has its newest entry first.
use Rattle.std.specs.Prelude.{◌≡◌, ℕ, ◌%◌, true, Some, is_some, List, [], ◌∷◌, length, slice_get}
use Rattle.dcp_ends.specs.declared.entries.LogEntry.{LogEntry}
use Rattle.master_spec.specs.declared.setups.Slave.{Slave}
use Rattle.master_spec.specs.declared.setups.Setup.{Setup}
use Rattle.master_spec.specs.Requests.{Asking, asks}
use Rattle.master_log_laws.specs.Index.Runs.{IsRun}
use Rattle.master_log_laws.specs.Index.Laws.{AreHeard}

-- each of these requests is decided
abbrev pub AreDecided : List Asking → Type 0
AreDecided [] = Unit {0}
AreDecided (a ∷ asks) = (is_some a.decision ≡ true) × AreDecided asks

-- each request has the next number, and all before it are decided; the newest first
abbrev pub AreOneByOne : List Asking → Type 0
AreOneByOne [] = Unit {0}
AreOneByOne (a ∷ asks) = (a.number ≡ length asks % 65536) × (AreDecided asks × AreOneByOne asks)

-- the master asks each slave one request after the other, each once the one before is decided
abbrev pub RequestsGoOneByOne : Type 0
RequestsGoOneByOne = (setup : Setup) → AreHeard setup → (log : List LogEntry) → IsRun setup log → (i : ℕ) (slave : Slave) → slice_get setup.slaves i ≡ Some slave → AreOneByOne (asks setup.address slave log)
