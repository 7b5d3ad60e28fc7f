use Rattle.completeness_laws.proofs.Quiet.Patient.{patient_timely}
use Rattle.completeness_laws.proofs.quiet_logs_are_timely.Goals as goal

pub returns : goal.returns
returns c = patient_timely
