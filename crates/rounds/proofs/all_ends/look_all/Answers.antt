use Rattle.std.proofs.lemmas.Result.{err_from_is_err_and}
use Rattle.rounds.specs.Rounds.{IsLook, IsLookPart}
use Rattle.rounds.proofs.Others.{look_silent, look_part_silent}
use Rattle.rounds.proofs.Hosted.{Apart-rest, AllCut-told, slaves_told, first_cut, first_told, first_told_part, looks_all, looks_stopped, looks_stopped_first}
use Rattle.rounds.proofs.all_ends.look_all.Goals as goal

pub returns-in_err-look_first-clause-cut_slaves : goal.returns-in_err-look_first-clause-cut_slaves
returns-in_err-look_first-clause-cut_slaves g c =
    let p = err_from_is_err_and c.from_residual.result c.from_residual.ensures.1 in
    let part = c.in_err-look_first.ensures.err in
    rw (p.1, part.added.log) (AllCut-told g.S.Seat.stands g.S.Seat.rules _ _ (slaves_told _ _ _ _ IsLookPart look_part_silent _ _ c.requires.apart part.form c.requires.told_slaves))

pub returns-in_err-look_first-clause-err : goal.returns-in_err-look_first-clause-err
returns-in_err-look_first-clause-err g c =
    let p = err_from_is_err_and c.from_residual.result c.from_residual.ensures.1 in
    rw p.1 (looks_stopped_first _ _ _ _ _ _ _ c.in_err-look_first.ensures.err)

pub look_each-requires-clause-apart : goal.look_each-requires-clause-apart
look_each-requires-clause-apart g c = Apart-rest _ _ c.requires.apart

pub look_each-requires-clause-told : goal.look_each-requires-clause-told
look_each-requires-clause-told g c =
    let part = c.in_ok-look_first.ensures.ok in
    rw part.added.log (slaves_told _ _ _ _ IsLook look_silent _ _ c.requires.apart part.form c.requires.told_slaves)

pub returns-in_err-look_each-clause-cut_master : goal.returns-in_err-look_each-clause-cut_master
returns-in_err-look_each-clause-cut_master g c =
    let p = err_from_is_err_and c.from_residual-in_err-look_each.result c.from_residual-in_err-look_each.ensures.1 in
    let part = c.in_err-look_each.ensures.err in
    rw (p.1, part.added.log)
    (first_cut _ _ _ _ (first_told_part _ _ _ IsLook look_silent IsLookPart look_part_silent _ _ _ (rw c.look_first.ensures.rules c.requires.apart) part.form c.in_ok-look_first.ensures.told))

pub returns-in_err-look_each-clause-err : goal.returns-in_err-look_each-clause-err
returns-in_err-look_each-clause-err g c =
    let p = err_from_is_err_and c.from_residual-in_err-look_each.result c.from_residual-in_err-look_each.ensures.1 in
    rw p.1 (looks_stopped _ _ _ _ _ _ _ _ _ c.in_ok-look_first.ensures.ok c.in_err-look_each.ensures.err)

pub returns-clause-told_master : goal.returns-clause-told_master
returns-clause-told_master g c =
    let part = c.in_ok-look_each.ensures.ok in
    rw part.added.log (first_told _ _ _ IsLook look_silent _ _ _ (rw c.look_first.ensures.rules c.requires.apart) part.form c.in_ok-look_first.ensures.told)

pub returns-clause-ok : goal.returns-clause-ok
returns-clause-ok g c = looks_all _ _ _ _ _ _ _ _ _ c.in_ok-look_first.ensures.ok c.in_ok-look_each.ensures.ok
