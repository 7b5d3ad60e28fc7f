use Rattle.host.proofs.Apart.{hosted_apart}
use Rattle.replays.proofs.Answering.{apart_same, stops_answer, stops_same, whole_same}
use Rattle.replays.proofs.replays.replay.Goals as goal

pub go_through-requires-clause-apart : goal.go_through-requires-clause-apart
go_through-requires-clause-apart c =
    let slaves = rw (← c.deref_mut.ensures.value) at c.in_ok-slaves.ensures.rules in
    apart_same _ _ _ _ c.in_ok-master.ensures.rules slaves (hosted_apart c.args.scenario.now c.args.hosted c.requires.scenario)

pub returns-in-Err-clause-answers : goal.returns-in-Err-clause-answers
returns-in-Err-clause-answers c =
    let slaves = rw (← c.deref_mut.ensures.value) at c.in_ok-slaves.ensures.rules in
    rw (c.fault_of.ensures, c.len.ensures) (stops_answer c.args.scenario.now c.args.hosted c.args.entries.now c.in-Err.stop (stops_same _ _ _ _ c.in_ok-master.ensures.rules slaves c.args.entries.now c.in-Err.stop c.in-Err.ensures.result))

pub returns-clause-answers : goal.returns-clause-answers
returns-clause-answers c =
    let slaves = rw (← c.deref_mut.ensures.value) at c.in_ok-slaves.ensures.rules in
    whole_same _ _ _ _ c.in_ok-master.ensures.rules slaves c.args.entries.now c.in_default.ensures.result
