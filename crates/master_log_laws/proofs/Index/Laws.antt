-- The index for each slave of a setup.
use Rattle.std.proofs.Common.{◌≡◌, ℕ, Some}
use Rattle.std.specs.Prelude.{slice_get}
use Rattle.master_spec.specs.declared.setups.Slave.{Slave}
use Rattle.master_spec.specs.declared.setups.Setup.{Setup}
use Rattle.master_log_laws.specs.Index.Index.{ReadBack}
use Rattle.master_log_laws.specs.Index.Follows.{Listens}
use Rattle.master_log_laws.specs.Index.Laws.{AreHeard, IndexUpToReport, IndexOnceReported}
use Rattle.master_log_laws.proofs.Index.Reported.{reported}
use Rattle.master_log_laws.proofs.Index.Runs.{followed}

pub listens : (setup : Setup) → AreHeard setup → (i : ℕ) (slave : Slave) → slice_get setup.slaves i ≡ Some slave → Listens setup (ReadBack slave.id) i slave
listens setup a i slave e = record { is = e; apart = λ j s z y. a.apart j i s slave z e y; back = λ r z. z; state = a.state i slave e; error = a.error i slave e; jobs = a.jobs i slave e }

pub index_up_to_report : IndexUpToReport
index_up_to_report setup a log run r i slave e = followed setup (ReadBack slave.id) i slave (listens setup a i slave e) a.runs log run r

pub index_once_reported : IndexOnceReported
index_once_reported setup a log run report r i slave e = reported setup (ReadBack slave.id) i slave (listens setup a i slave e) a.runs log run report r
