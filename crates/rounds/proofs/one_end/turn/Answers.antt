use Rattle.std.proofs.lemmas.Result.{err_from_is_err_and}
use Rattle.dcp_ends.specs.Events.{Tick}
use Rattle.rounds.proofs.Logs.{IsTold-event, IsCut-event}
use Rattle.rounds.proofs.Looks.{Added-turn, Turned-all, TurnStopped-some}
use Rattle.rounds.proofs.one_end.turn.Goals as goal

pub returns-clause-told : goal.returns-clause-told
returns-clause-told g c =
    let started = Added-turn g.N.Net.calls _ c.args.net.now _ _ (rw (c.make_room.ensures.entries, c.address.ensures) at c.push_turn.ensures) in
    let all = rw c.on_turn.ensures.rules at c.in_ok-answer.ensures.ok in
    IsTold-event _ _ _ _ _ _ _ _ _ Tick _ _ _ _ c.requires.told started c.on_turn.ensures.stands c.on_turn.ensures.sends c.answer.ensures.stands all

pub returns-in_err-answer-clause-cut : goal.returns-in_err-answer-clause-cut
returns-in_err-answer-clause-cut g c =
    let p = err_from_is_err_and c.from_residual-in_err-answer.result c.from_residual-in_err-answer.ensures.1 in
    let started = Added-turn g.N.Net.calls _ c.args.net.now _ _ (rw (c.make_room.ensures.entries, c.address.ensures) at c.push_turn.ensures) in
    let some = rw c.on_turn.ensures.rules at c.in_err-answer.ensures.err in
    rw p.1 (IsCut-event _ _ _ _ _ _ _ _ _ Tick _ _ _ _ c.requires.told started c.on_turn.ensures.stands c.on_turn.ensures.sends c.answer.ensures.stands some)

pub returns-clause-ok : goal.returns-clause-ok
returns-clause-ok g c =
    let started = Added-turn g.N.Net.calls _ c.args.net.now _ _ (rw (c.make_room.ensures.entries, c.address.ensures) at c.push_turn.ensures) in
    let all = rw c.on_turn.ensures.rules at c.in_ok-answer.ensures.ok in
    Turned-all _ _ _ _ _ _ _ _ _ started all

pub returns-in_err-answer-clause-err : goal.returns-in_err-answer-clause-err
returns-in_err-answer-clause-err g c =
    let p = err_from_is_err_and c.from_residual-in_err-answer.result c.from_residual-in_err-answer.ensures.1 in
    let started = Added-turn g.N.Net.calls _ c.args.net.now _ _ (rw (c.make_room.ensures.entries, c.address.ensures) at c.push_turn.ensures) in
    let some = rw c.on_turn.ensures.rules at c.in_err-answer.ensures.err in
    rw p.1 (TurnStopped-some _ _ _ _ _ _ _ _ _ started some)
