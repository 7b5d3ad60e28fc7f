use Rattle.master_spec.specs.Setup.{setup_from}
use Rattle.master_log_laws.proofs.Bound.Courses.{below_bound, within_bound}
use Rattle.master_log_laws.proofs.bounds.scenario_reports.Goals as goal

pub returns : goal.returns
returns c = record {
  before = λ sc h events none. below_bound (setup_from sc) events h.limits h.runs.0 none;
  always = λ sc h events. within_bound (setup_from sc) events h.limits h.runs.0;
}
