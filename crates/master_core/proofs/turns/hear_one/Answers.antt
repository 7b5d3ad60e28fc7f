use Rattle.std.proofs.Common.{List, length, ap, subst, ◌∙◌}
use Rattle.std.proofs.Math.Seq.{map-set_same}
use Rattle.master_core.specs.declared.records.Talk.{Talk}
use Rattle.master_core.specs.Speaking.{AreSilent, SpeaksAt}
use Rattle.master_core.specs.Talking.{slave_talked_to}
use Rattle.master_core.proofs.Speakers.{offered_none, offered_one}
use Rattle.master_core.proofs.turns.hear_one.Goals as goal

pub returns-in-Some-clause-stands : goal.returns-in-Some-clause-stands
returns-in-Some-clause-stands c = λ limits now said e fit.
    let speaks = subst (λ (ts : List Talk). SpeaksAt c.args.from ts c.in-Some.i) c.deref.ensures.value c.in-Some.ensures in
    (offered_one limits now c.args.from c.args.bytes.now c.in-Some.i c.args.talks.now.items said c.index_mut.result.now c.hear.new.self c.args.out.now c.hear.new.out c.requires.apart speaks c.index_mut.ensures.value e
    (λ talk s. c.hear.ensures.stands limits now talk s fit) (λ talk s. c.hear.ensures.sends limits now talk s fit)).stand

pub returns-in-Some-clause-sends : goal.returns-in-Some-clause-sends
returns-in-Some-clause-sends c = λ limits now said e fit.
    let speaks = subst (λ (ts : List Talk). SpeaksAt c.args.from ts c.in-Some.i) c.deref.ensures.value c.in-Some.ensures in
    (offered_one limits now c.args.from c.args.bytes.now c.in-Some.i c.args.talks.now.items said c.index_mut.result.now c.hear.new.self c.args.out.now c.hear.new.out c.requires.apart speaks c.index_mut.ensures.value e
    (λ talk s. c.hear.ensures.stands limits now talk s fit) (λ talk s. c.hear.ensures.sends limits now talk s fit)).sends

pub returns-in-Some-clause-slaves : goal.returns-in-Some-clause-slaves
returns-in-Some-clause-slaves c =
    map-set_same slave_talked_to c.args.talks.now.items c.in-Some.i c.hear.new.self c.index_mut.result.now (c.hear.ensures.slave ∙ ap slave_talked_to c.index_mut.ensures.value)

pub returns-in-None-clause-stands : goal.returns-in-None-clause-stands
returns-in-None-clause-stands c = λ limits now said e fit.
    let silent = subst (λ (ts : List Talk). AreSilent c.args.from 0 (length ts) ts) c.deref.ensures.value c.in-None.ensures in
    (offered_none limits now c.args.from c.args.bytes.now c.args.talks.now.items said c.args.out.now silent e).stand

pub returns-in-None-clause-sends : goal.returns-in-None-clause-sends
returns-in-None-clause-sends c = λ limits now said e fit.
    let silent = subst (λ (ts : List Talk). AreSilent c.args.from 0 (length ts) ts) c.deref.ensures.value c.in-None.ensures in
    (offered_none limits now c.args.from c.args.bytes.now c.args.talks.now.items said c.args.out.now silent e).sends
