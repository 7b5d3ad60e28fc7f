use Rattle.scenario_text.proofs.Answered.{either, never_both, one_value, one_fault}
use Rattle.scenario_text.proofs.reading.reads_or_refused.Goals as goal

pub returns : goal.returns
returns c = record { either = either; never_both = never_both; one_value = one_value; one_fault = one_fault }
