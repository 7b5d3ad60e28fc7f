use Rattle.host_laws.proofs.Rounds.{opened, still_all}
use Rattle.host_laws.proofs.hosts.begin.Goals as goal

pub returns-clause-all : goal.returns-clause-all
returns-clause-all g c = still_all c.args.host.now c.begin.new.self c.begin.ensures.setup.0 c.begin.ensures.setup.1 c.requires.all

pub returns-clause-in_rounds : goal.returns-clause-in_rounds
returns-clause-in_rounds g c =
    opened c.args.host.now c.begin.new.self c.begin.ensures.setup.0 c.begin.ensures.setup.1 c.args.net.now c.begin.new.net c.begin.result c.begin.ensures.kept c.requires.in_rounds c.begin.ensures.log
