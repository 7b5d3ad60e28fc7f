use Rattle.completeness_laws.proofs.Timely.Silence.{lacks_none}
use Rattle.completeness_laws.proofs.timely_logs_lack_no_answer.Goals as goal

pub returns : goal.returns
returns c = lacks_none
