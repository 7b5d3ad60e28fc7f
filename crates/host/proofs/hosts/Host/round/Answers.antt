use Rattle.host.proofs.Follow.{told_either}
use Rattle.host.proofs.hosts.Host.round.Goals as goal

pub returns-clause-told : goal.returns-clause-told
returns-clause-told g c = λ tells. told_either _ _ _ _ _ c.self.inside.log.entries _ c.run-result.result c.run-result.ensures.ok c.run-result.ensures.err (rw (← c.self.view_is) at tells)
