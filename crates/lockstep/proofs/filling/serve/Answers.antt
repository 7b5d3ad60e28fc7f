use Rattle.std.proofs.Common.{length, subst, Result}
use Rattle.std.proofs.lemmas.Result.{IfOk-weaker}
use Rattle.dcp_types.specs.declared.fault_codes.FaultCode.{FaultCode}
use Rattle.lockstep.specs.Parts.{Reaches, Shows, Serves, PartStandsAt}
use Rattle.lockstep.proofs.Serving.{ports_ok, types_ok, feeds_ok, reach_err, reach_ok, serves}
use Rattle.lockstep.proofs.filling.serve.Goals as goal
use Rattle.lockstep.proofs.filling.serve.Goals.{In-Ok}

pub reach-requires-clause-ports : goal.reach-requires-clause-ports
reach-requires-clause-ports c =
    ports_ok c.args.scenario.now c.args.rows.now.rows c.args.at.run _ c.args._slave c.args.desc.now c.args.part.now c.requires.stands c.requires.desc

pub reach-requires-clause-feeds : goal.reach-requires-clause-feeds
reach-requires-clause-feeds c =
    feeds_ok c.args.scenario.now c.args._slave (length c.args.desc.now.inputs) c.args.rows.now.width c.args.part.now.feeds.items c.requires.scenario c.requires.width c.requires.stands.feeds

pub returns-in-Err-clause-served : goal.returns-in-Err-clause-served
returns-in-Err-clause-served c =
    reach_err c.args.scenario.now c.args.rows.now.rows c.args.at.run c.args.at.step c.args._slave c.args.desc.now c.args.part.now c.reach.new.self c.in-Err.code c.requires.place c.requires.stands
    (subst (λ (x : Result (Unit {0}) FaultCode). Reaches c.args.rows.now.rows c.args.part.now c.reach.new.self c.args.at.step c.args.scenario.now.micro x) c.in-Err.is c.in_ok-reach.ensures)

stands : (c : In-Ok) → PartStandsAt c.args.scenario.now c.args.rows.now.rows c.args.at.run c.args.at.step c.args._slave c.args.desc.now c.reach.new.self
stands c =
    reach_ok c.args.scenario.now c.args.rows.now.rows c.args.at.run c.args.at.step c.args._slave c.args.desc.now c.args.part.now c.reach.new.self c.in-Ok.field-0 c.requires.place c.requires.stands
    (subst (λ (x : Result (Unit {0}) FaultCode). Reaches c.args.rows.now.rows c.args.part.now c.reach.new.self c.args.at.step c.args.scenario.now.micro x) c.in-Ok.is c.in_ok-reach.ensures)

pub show-requires-clause-types : goal.show-requires-clause-types
show-requires-clause-types c =
    let h = stands (goal.at.show-requires-clause-types c).In-Ok in
    types_ok c.args.scenario.now c.args.rows.now.rows c.args.at.run c.args.at.step c.args._slave c.args.desc.now c.reach.new.self h c.requires.desc c.requires.model

pub returns-clause-served : goal.returns-clause-served
returns-clause-served c =
    let h = stands (goal.at.returns-clause-served c).In-Ok in
    IfOk-weaker c.show.result
    (Shows c.reach.new.self.model c.args.rows.now.begun c.show.new.rows.begun)
    (Serves c.args.scenario.now c.args.rows.now.rows c.args.at.run c.args.at.step c.args._slave c.args.desc.now c.args.rows.now.begun c.show.new.rows.begun c.reach.new.self)
    (λ x given. serves c.args.scenario.now c.args.rows.now.rows c.args.at.run c.args.at.step c.args._slave c.args.desc.now c.args.rows.now.begun c.show.new.rows.begun c.reach.new.self h x given)
    c.show.ensures.shown
