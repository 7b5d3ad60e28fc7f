use Rattle.std.proofs.lemmas.Result.{err_from_is_err_and}
use Rattle.dcp_ends.specs.Events.{Gram}
use Rattle.rounds.proofs.Logs.{IsTold-idle, IsTold-event, IsCut-event, LookedOnce-got, LookStopped-got}
use Rattle.rounds.proofs.one_end.look_once.Goals as goal

pub returns-in_default-clause-told : goal.returns-in_default-clause-told
returns-in_default-clause-told g c =
    let took = rw (c.in_default.is, c.address.ensures) at c.in_ok-gram.ensures.ok in
    IsTold-idle _ _ _ _ _ _ took.added.log c.requires.told

pub returns-in_err-answer-clause-cut : goal.returns-in_err-answer-clause-cut
returns-in_err-answer-clause-cut g c =
    let p = err_from_is_err_and c.from_residual-in_err-answer.result c.from_residual-in_err-answer.ensures.1 in
    let took = rw (c.in-Some.is, c.address.ensures) at c.in_ok-gram.ensures.ok in
    let some = rw c.on_gram.ensures.rules at c.in_err-answer.ensures.err in
    rw p.1 (IsCut-event _ _ _ _ _ _ _ _ _ (Gram _ _) _ _ _ _ c.requires.told took.added c.on_gram.ensures.stands c.on_gram.ensures.sends c.in_err-answer.ensures.stands some)

pub returns-in_err-answer-clause-err : goal.returns-in_err-answer-clause-err
returns-in_err-answer-clause-err g c =
    let p = err_from_is_err_and c.from_residual-in_err-answer.result c.from_residual-in_err-answer.ensures.1 in
    let took = rw (c.in-Some.is, c.address.ensures) at c.in_ok-gram.ensures.ok in
    let some = rw c.on_gram.ensures.rules at c.in_err-answer.ensures.err in
    rw p.1 (LookStopped-got _ _ _ _ _ _ _ _ _ _ _ took.added some)

pub returns-clause-told : goal.returns-clause-told
returns-clause-told g c =
    let took = rw (c.in-Some.is, c.address.ensures) at c.in_ok-gram.ensures.ok in
    let all = rw c.on_gram.ensures.rules at c.in_ok-answer.ensures.ok in
    IsTold-event _ _ _ _ _ _ _ _ _ (Gram _ _) _ _ _ _ c.requires.told took.added c.on_gram.ensures.stands c.on_gram.ensures.sends c.in_ok-answer.ensures.stands all

pub returns-clause-ok : goal.returns-clause-ok
returns-clause-ok g c =
    let took = rw (c.in-Some.is, c.address.ensures) at c.in_ok-gram.ensures.ok in
    let all = rw c.on_gram.ensures.rules at c.in_ok-answer.ensures.ok in
    LookedOnce-got _ _ _ _ _ _ _ _ _ _ _ took.added all
