use Rattle.std.proofs.Common.{sym, ◌∙◌, subst, arith}
use Rattle.master_spec.specs.Course.{is_settled, fresh_talk}
use Rattle.master_core.specs.declared.records.Talk.{Talk}
use Rattle.master_core.specs.Talking.{TalkStandsAt}
use Rattle.master_core.proofs.Eachs.{all_more, all_stops, all_done}
use Rattle.master_core.proofs.surveys.are_settled.Goals as goal

pub loop-talk-preserved : goal.loop-talk-preserved
loop-talk-preserved c = λ limits now said e.
    all_more (TalkStandsAt limits now) is_settled _ _ said c.talk-item.result (fresh_talk c.talk-item.result.slave) e (omega arith) (c.loop-talk.invariant limits now said e) (λ talk s. sym (c.is_settled.ensures limits now talk (subst (λ (x : Talk). TalkStandsAt limits now x talk) (sym c.talk-item.is) s)) ∙ c.if-not-is_settled.false)

pub returns-then-not-is_settled : goal.returns-then-not-is_settled
returns-then-not-is_settled c = λ limits now said e.
    sym (all_stops (TalkStandsAt limits now) is_settled c.loop-talk.talk-index _ said c.talk-item.result (fresh_talk c.talk-item.result.slave) e (omega arith) (λ talk s. sym (c.is_settled.ensures limits now talk (subst (λ (x : Talk). TalkStandsAt limits now x talk) (sym c.talk-item.is) s)) ∙ c.if-not-is_settled.true))

pub returns : goal.returns
returns c = λ limits now said e. sym (all_done (TalkStandsAt limits now) is_settled c.loop-talk.talk-index _ said e (omega arith) (c.loop-talk.invariant limits now said e))
