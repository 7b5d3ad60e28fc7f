use Rattle.std.proofs.Common.{List, subst}
use Rattle.slave_desc.specs.declared.descriptions.SlaveDesc.{SlaveDesc}
use Rattle.commands.specs.SlaveNames.{IsNamed}
use Rattle.commands.proofs.Judged.{judged_ok}
use Rattle.commands.proofs.says.conformance.say_conform.Goals as goal

pub returns : goal.returns
returns c =
    let opened = rw c.in-Trace.is at c.in_ok-scenario.ensures in
    let Named : List SlaveDesc → Type 0 = λ slaves. IsNamed slaves c.in-Some.slave c.args.name.now in
    judged_ok c.args.name.now c.args.input.now c.in-Trace.scenario c.in-Trace.hosted c.in-Trace.entries c.in-Some.slave c.in_ok-answer.answer c.say_answer.result opened.1
    (subst Named c.as_slice.ensures.items c.in-Some.ensures) c.in_ok-answer.ensures c.say_answer.ensures
