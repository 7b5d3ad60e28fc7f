use Rattle.host_laws.proofs.Reported.{fails_for_reason, is_complete}
use Rattle.host_laws.proofs.hosts.reports_for_reason.Goals as goal

pub returns-clause-reasons : goal.returns-clause-reasons
returns-clause-reasons c = fails_for_reason c.args.host.now c.requires.all c.requires.in_rounds c.log-log.ensures.follows_master c.log-log.ensures.follows

pub returns-clause-complete : goal.returns-clause-complete
returns-clause-complete c = is_complete c.args.host.now c.requires.all c.requires.in_rounds c.log-log.ensures.follows_master c.log-log.ensures.follows
