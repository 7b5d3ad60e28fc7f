use Rattle.run_laws.proofs.Headline.Rows.{sent_always, used_always}
use Rattle.run_laws.proofs.headline_laws.data_carry_rows.Goals as goal

pub returns-clause-sent : goal.returns-clause-sent
returns-clause-sent c = sent_always

pub returns-clause-used : goal.returns-clause-used
returns-clause-used c = used_always
