use Rattle.host_laws.proofs.All.{hosts_all}
use Rattle.host_laws.proofs.Rounds.{starts_in_rounds}
use Rattle.host_laws.proofs.hosts.host_of_all.Goals as goal

pub returns-clause-all : goal.returns-clause-all
returns-clause-all c = hosts_all c.args.scenario c.requires.scenario c.new.result c.new.ensures

pub returns-clause-in_rounds : goal.returns-clause-in_rounds
returns-clause-in_rounds c = starts_in_rounds c.args.scenario c.new.result c.new.ensures
