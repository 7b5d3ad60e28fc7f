use Rattle.master_laws.proofs.Rest.Events.{rows_rest}
use Rattle.master_laws.proofs.rest_laws.rows_find_rest.Goals as goal

pub returns : goal.returns
returns c = rows_rest
