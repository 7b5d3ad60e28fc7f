use Rattle.completeness_laws.proofs.Timely.Witnesses.{not_reported, answered_late, brought_late}
use Rattle.completeness_laws.proofs.late_logs_are_not_timely.Goals as goal

pub returns-clause-report : goal.returns-clause-report
returns-clause-report c = not_reported

pub returns-clause-answer : goal.returns-clause-answer
returns-clause-answer c = answered_late

pub returns-clause-values : goal.returns-clause-values
returns-clause-values c = brought_late
