use Rattle.master_spec.specs.Setup.{setup_from}
use Rattle.master_log_laws.proofs.Bound.Entries.{log_below, log_within}
use Rattle.master_log_laws.proofs.turns.log_reports.Goals as goal

pub returns : goal.returns
returns c = record {
  before = λ sc h log over. log_below (setup_from sc) log h.limits h.runs.0 over;
  always = λ sc h log. log_within (setup_from sc) log h.limits h.runs.0;
}
