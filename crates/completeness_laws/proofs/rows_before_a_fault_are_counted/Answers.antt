use Rattle.completeness_laws.proofs.Timely.Counted.{rows_before}
use Rattle.completeness_laws.proofs.rows_before_a_fault_are_counted.Goals as goal

pub returns : goal.returns
returns c = rows_before
