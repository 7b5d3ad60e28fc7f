use Rattle.std.proofs.Common.{◌∙◌, sym, subst, arith}
use Rattle.master_spec.specs.Course.{fresh_talk}
use Rattle.master_core.specs.declared.records.Talk.{Talk}
use Rattle.master_core.specs.Talking.{TalkStandsAt}
use Rattle.master_core.proofs.Failing.{fails_at, passes_at, none_left}
use Rattle.master_core.proofs.surveys.first_failed.Goals as goal

pub returns-in-Some : goal.returns-in-Some
returns-in-Some c = λ limits now said e.
    fails_at (TalkStandsAt limits now) c.args.phase c.loop-talk.talk-index _ said c.talk-item.result (fresh_talk c.talk-item.result.slave) _ e (omega arith) (λ talk s. c.in-Some.ensures limits now talk (subst (λ (x : Talk). TalkStandsAt limits now x talk) (sym c.talk-item.is) s)) ∙ sym (c.loop-talk.invariant limits now said e)

pub loop-talk-preserved : goal.loop-talk-preserved
loop-talk-preserved c = λ limits now said e.
    c.loop-talk.invariant limits now said e ∙ passes_at (TalkStandsAt limits now) c.args.phase c.loop-talk.talk-index _ said c.talk-item.result (fresh_talk c.talk-item.result.slave) e (omega arith) (λ talk s. c.in_default.ensures limits now talk (subst (λ (x : Talk). TalkStandsAt limits now x talk) (sym c.talk-item.is) s))

pub returns : goal.returns
returns c = λ limits now said e. sym (c.loop-talk.invariant limits now said e ∙ none_left (TalkStandsAt limits now) c.args.phase c.loop-talk.talk-index _ said e (omega arith))
