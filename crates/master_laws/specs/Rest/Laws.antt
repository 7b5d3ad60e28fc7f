-- Row events find the slave at rest, on every network, honest or not. The log has its newest entry first.
use Rattle.std.specs.Prelude.{◌≡◌, ℕ, Some, List, ◌∷◌, false}
use Rattle.dcp_ends.specs.declared.entries.LogEntry.{LogEntry}
use Rattle.log_spec.specs.Messages.{Note}
use Rattle.log_spec.specs.Log.{Parties, IsSlaveOf}
use Rattle.log_spec.specs.Moves.{Asks, move, decided_exchanges}
use Rattle.lockstep_laws.specs.Steps.{RowEvent, event_asked, view}
use Rattle.master_spec.specs.declared.setups.Slave.{Slave}
use Rattle.master_spec.specs.declared.setups.Setup.{Setup}
use Rattle.master_log_laws.specs.Index.Laws.{AreHeard}
use Rattle.master_log_laws.specs.Index.Runs.{IsRun}
use Rattle.master_laws.specs.Meets.Laws.{IsParty, ArePartiesOf}

abbrev pub RowsFindRest : Type 0
RowsFindRest = (setup : Setup) → AreHeard setup → (w : Parties) → ArePartiesOf setup w → (e : LogEntry) (log : List LogEntry) → IsRun setup (e ∷ log) → (s : ℕ) → IsSlaveOf w s → (slave : Slave) → IsParty setup w s slave
    → (n : Note) (k : RowEvent) → move w s e ≡ Asks n → event_asked n ≡ Some k → (view (decided_exchanges w s log)).waiting ≡ false
