use Rattle.host_laws.proofs.Hosted.{keeps_in_step}
use Rattle.host_laws.proofs.hosts.keeps_in_step.Goals as goal

pub returns : goal.returns
returns c = keeps_in_step c.args.host.now c.requires.all c.requires.in_rounds c.log-log.ensures.cut_master c.log-log.ensures.cut
