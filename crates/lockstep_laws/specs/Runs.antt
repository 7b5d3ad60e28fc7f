-- A run in which the network, the master and all slaves behave.
use Rattle.std.specs.Prelude.{ℕ, List}
use Rattle.dcp_ends.specs.declared.entries.LogEntry.{LogEntry}
use Rattle.log_spec.specs.Log.{Parties, IsSlaveOf, PartiesApart, AreAtEnds}
use Rattle.log_spec.specs.Honest.{HonestNewest}
use Rattle.lockstep_laws.specs.Slaves.{SlaveRun, Converses}
use Rattle.lockstep_laws.specs.Cast.{ConversingSlaves}
use Rattle.lockstep_laws.specs.Works.{Performs}
use Rattle.lockstep_laws.specs.Master.{MasterConverses, OnlyAsks}

pub record AreSlaves (w : Parties) (x : ConversingSlaves) : Type 0 where
  pub apart : PartiesApart w
  pub each : (s : ℕ) → IsSlaveOf w s → Converses w s (x.accepts s) (x.desk s)
  pub works : (s : ℕ) → IsSlaveOf w s → Performs w s (x.desk s) (x.bench s)

pub record Behaves (w : Parties) (x : ConversingSlaves) (log : List LogEntry) : Type 0 where
  pub honest : HonestNewest w log
  pub hosted : AreAtEnds w log
  pub master : MasterConverses w x log
  pub asks : OnlyAsks w log
  pub slaves : (s : ℕ) → IsSlaveOf w s → SlaveRun w s (x.desk s) log
