use Rattle.master_log_laws.proofs.Bound.Courses.{below_bound, within_bound}
use Rattle.master_log_laws.proofs.bounds.setup_reports.Goals as goal

pub returns : goal.returns
returns c = record { before = below_bound; always = within_bound }
