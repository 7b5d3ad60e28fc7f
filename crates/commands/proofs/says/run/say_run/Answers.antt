use Rattle.std.proofs.Common.{◌≡◌, IfSome, refl, sym, subst}
use Rattle.scenario.specs.declared.scenarios.Scenario.{Scenario}
use Rattle.scenario_text.specs.Reads.{ReadsAsScenario}
use Rattle.host.specs.Hosting.{all_ends, opening_of}
use Rattle.commands.proofs.Outcomes.{refused_run}
use Rattle.commands.proofs.says.run.say_run.Goals as goal

pub returns-in-Err-clause-says : goal.returns-in-Err-clause-says
returns-in-Err-clause-says g c =
    refused_run (record { calls = g.N.Net.calls c.args.net.now; opening = g.N.Net.opening c.args.net.now }) c.args.input.now c.in-Err.refused c.in_ok-refuse_text-in-Err.field-0
    c.if-input-gt-LIMIT.false c.in-Err.ensures.fault c.in_ok-refuse_text-in-Err.ensures

pub returns-in-Ok-run_scenario-clause-says : goal.returns-in-Ok-run_scenario-clause-says
returns-in-Ok-run_scenario-clause-says g c =
    let e = c.in-Ok-run_scenario.ensures in
    let Read : Scenario → Type 0 = λ sc. ReadsAsScenario c.args.input.now sc in
    let Opened : Scenario → Type 0 = λ sc. IfSome (g.N.Net.opening c.run_scenario.new.net) (λ opening. opening ≡ opening_of sc all_ends) in (
      refl,
      record {
        short = c.if-input-gt-LIMIT.false;
        reads = subst Read (sym e.setup.0) c.in-Ok.ensures.ok;
        run = record { hosted = e.setup.1; whole = e.whole; opened = subst Opened (sym e.setup.0) e.opening; told = e.told };
      },
    )
