use Rattle.commands.proofs.Outcomes.{stop_says}
use Rattle.commands.proofs.says.replay.say_replay.Goals as goal

pub returns-in_ok-say_stop-in-Err : goal.returns-in_ok-say_stop-in-Err
returns-in_ok-say_stop-in-Err c =
    let opened = rw c.in-Trace.is at c.in_ok-scenario.ensures in
    record {
      gives = stop_says c.args.input.now c.in-Trace.scenario c.in-Trace.hosted c.in-Trace.entries c.in-Err.fault c.in_ok-say_stop-in-Err.field-0 opened.1
          c.in-Err.ensures.answers c.in_ok-say_stop-in-Err.ensures;
    }
