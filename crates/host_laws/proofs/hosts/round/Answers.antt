use Rattle.host_laws.proofs.Rounds.{goes_on, still_all}
use Rattle.host_laws.proofs.hosts.round.Goals as goal

pub keeps_in_step-requires-clause-all : goal.keeps_in_step-requires-clause-all
keeps_in_step-requires-clause-all g c = still_all c.args.host.now c.round-result.new.self c.round-result.ensures.setup.0 c.round-result.ensures.setup.1 c.requires.all

pub keeps_in_step-requires-clause-in_rounds : goal.keeps_in_step-requires-clause-in_rounds
keeps_in_step-requires-clause-in_rounds g c =
    goes_on c.args.host.now c.round-result.new.self c.round-result.ensures.setup.0 c.round-result.ensures.setup.1 c.args.net.now c.round-result.new.net c.round-result.result c.round-result.ensures.kept
    g.N.Net.calls c.requires.in_rounds c.round-result.ensures.fault c.round-result.ensures.rounds c.round-result.ensures.err

pub reports_for_reason-requires-clause-all : goal.reports_for_reason-requires-clause-all
reports_for_reason-requires-clause-all g c = still_all c.args.host.now c.round-result.new.self c.round-result.ensures.setup.0 c.round-result.ensures.setup.1 c.requires.all

pub reports_for_reason-requires-clause-in_rounds : goal.reports_for_reason-requires-clause-in_rounds
reports_for_reason-requires-clause-in_rounds g c =
    goes_on c.args.host.now c.round-result.new.self c.round-result.ensures.setup.0 c.round-result.ensures.setup.1 c.args.net.now c.round-result.new.net c.round-result.result c.round-result.ensures.kept
    g.N.Net.calls c.requires.in_rounds c.round-result.ensures.fault c.round-result.ensures.rounds c.round-result.ensures.err

pub returns-clause-all : goal.returns-clause-all
returns-clause-all g c = still_all c.args.host.now c.round-result.new.self c.round-result.ensures.setup.0 c.round-result.ensures.setup.1 c.requires.all

pub returns-clause-in_rounds : goal.returns-clause-in_rounds
returns-clause-in_rounds g c =
    goes_on c.args.host.now c.round-result.new.self c.round-result.ensures.setup.0 c.round-result.ensures.setup.1 c.args.net.now c.round-result.new.net c.round-result.result c.round-result.ensures.kept
    g.N.Net.calls c.requires.in_rounds c.round-result.ensures.fault c.round-result.ensures.rounds c.round-result.ensures.err
