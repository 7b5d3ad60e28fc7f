-- From the whole log to each moment of it.
use Rattle.std.specs.Prelude.{List, ◌++◌}
use Rattle.dcp_ends.specs.declared.entries.LogEntry.{LogEntry}
use Rattle.log_spec.specs.Log.{Parties}
use Rattle.lockstep_laws.specs.Cast.{ConversingSlaves}
use Rattle.lockstep_laws.specs.Runs.{AreSlaves, Behaves}
use Rattle.lockstep_laws.specs.Laws.{AskedInOrder}
use Rattle.lockstep_laws.proofs.Conversation.{drop_later}
use Rattle.lockstep_laws.proofs.Asking.{asked_in_order}

pub asked : (w : Parties) (x : ConversingSlaves) → AreSlaves w x → (later log : List LogEntry) → Behaves w x (later ++ log) → AskedInOrder w x log
asked w x ok later log b s is = asked_in_order w x ok s is log (drop_later w x ok later log b)
