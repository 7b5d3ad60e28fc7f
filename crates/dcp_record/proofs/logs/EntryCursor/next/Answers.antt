use Rattle.dcp_record.proofs.Next.{all_behind, found, goes_on, not_refused}
use Rattle.dcp_record.proofs.logs.EntryCursor.next.Goals as goal

pub returns-in_err-tag-clause-end : goal.returns-in_err-tag-clause-end
returns-in_err-tag-clause-end c = rw (c.from_residual.ensures, ← c.self.view_is) (all_behind _ _ _ c.self.invariant c.in_err-tag.ensures.cases)

pub unreachable-requires : goal.unreachable-requires
unreachable-requires c = not_refused _ _ _ _ _ _ c.self.invariant c.in_ok-tag.ensures.cases.0 c.in_default.ensures.err

pub invariant_of-self : goal.invariant_of-self
invariant_of-self c = goes_on _ _ _ _ _ _ _ c.self.invariant c.in_ok-tag.ensures.cases.0 c.in-Ok.ensures.ok

pub returns-clause-here : goal.returns-clause-here
returns-clause-here c = rw (← c.self.view_is) (found _ _ _ _ _ _ _ c.self.invariant c.in_ok-tag.ensures.cases.0 c.in-Ok.ensures.ok)
