use Rattle.std.proofs.Common.{sym, ◌∙◌, subst, arith}
use Rattle.master_spec.specs.Course.{has_passed, fresh_talk}
use Rattle.master_core.specs.declared.records.Talk.{Talk}
use Rattle.master_core.specs.Talking.{TalkStandsAt}
use Rattle.master_core.proofs.Eachs.{all_more, all_stops, all_done}
use Rattle.master_core.proofs.surveys.have_passed.Goals as goal

pub loop-talk-preserved : goal.loop-talk-preserved
loop-talk-preserved c = λ limits now said e.
    all_more (TalkStandsAt limits now) has_passed _ _ said c.talk-item.result (fresh_talk c.talk-item.result.slave) e (omega arith) (c.loop-talk.invariant limits now said e) (λ talk s. sym (c.has_passed.ensures limits now talk (subst (λ (x : Talk). TalkStandsAt limits now x talk) (sym c.talk-item.is) s)) ∙ c.if-not-has_passed.false)

pub returns-then-not-has_passed : goal.returns-then-not-has_passed
returns-then-not-has_passed c = λ limits now said e.
    sym (all_stops (TalkStandsAt limits now) has_passed c.loop-talk.talk-index _ said c.talk-item.result (fresh_talk c.talk-item.result.slave) e (omega arith) (λ talk s. sym (c.has_passed.ensures limits now talk (subst (λ (x : Talk). TalkStandsAt limits now x talk) (sym c.talk-item.is) s)) ∙ c.if-not-has_passed.true))

pub returns : goal.returns
returns c = λ limits now said e. sym (all_done (TalkStandsAt limits now) has_passed c.loop-talk.talk-index _ said e (omega arith) (c.loop-talk.invariant limits now said e))
