use Rattle.dcp_record.proofs.Next.{at_end}
use Rattle.dcp_record.proofs.logs.EntryCursor.is_at_end.Goals as goal

pub returns : goal.returns
returns c = rw (← c.self.view_is) (at_end _ _ _ _ c.self.invariant c.is_empty.ensures)
