use Rattle.std.proofs.lemmas.Result.{err_from_is_err_and}
use Rattle.rounds.proofs.Hosted.{round_all, round_stopped, round_stopped_first}
use Rattle.rounds.proofs.all_ends.run_round.Goals as goal

pub returns-in_err-look_all-clause-err : goal.returns-in_err-look_all-clause-err
returns-in_err-look_all-clause-err g c =
    let p = err_from_is_err_and c.from_residual.result c.from_residual.ensures.1 in
    rw p.1 (round_stopped_first _ _ _ _ _ _ _ c.in_err-look_all.ensures.err)

pub turn_all-requires-clause-apart : goal.turn_all-requires-clause-apart
turn_all-requires-clause-apart g c = rw (c.look_all.ensures.rules_master, c.look_all.ensures.rules_slaves) c.requires.apart

pub returns-in_err-over-clause-err : goal.returns-in_err-over-clause-err
returns-in_err-over-clause-err g c =
    let p = err_from_is_err_and c.from_residual-in_err-over.result c.from_residual-in_err-over.ensures.1 in
    let turns = rw (c.look_all.ensures.rules_master, c.look_all.ensures.rules_slaves) at c.in_err-over.ensures.err in
    rw p.1 (round_stopped _ _ _ _ _ _ _ _ _ c.in_ok-look_all.ensures.ok turns)

pub returns-clause-ok : goal.returns-clause-ok
returns-clause-ok g c =
    let turns = rw (c.look_all.ensures.rules_master, c.look_all.ensures.rules_slaves) at c.in_ok-over.ensures.ok in
    round_all _ _ _ _ _ _ _ _ _ c.in_ok-look_all.ensures.ok turns

pub returns-clause-range : goal.returns-clause-range
returns-clause-range g c = λ before. c.turn_all.ensures.range (c.look_all.ensures.range before)
