-- Over a quiet network the log of a patient master is timely.
use Rattle.completeness_laws.specs.Rounded.{RoundsBringAll, QuietIsTimely}
use Rattle.completeness_laws.proofs.Quiet.Brings.{bring_all}
use Rattle.completeness_laws.proofs.Quiet.Young.{none_asked_again}
use Rattle.completeness_laws.proofs.Quiet.Timely.{quiet_is_timely}

-- each of its rounds brings all that was sent before it
pub all_brought : RoundsBringAll
all_brought = bring_all none_asked_again

-- so the log is timely wherever the master has its report
pub patient_timely : QuietIsTimely
patient_timely = quiet_is_timely all_brought
