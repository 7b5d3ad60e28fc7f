use Rattle.run_laws.proofs.Collecting.Collected.{master_collects}
use Rattle.run_laws.proofs.collecting_laws.masters_collect_rows.Goals as goal

pub returns : goal.returns
returns c = master_collects
