use Rattle.std.proofs.Common.{◌∙◌, sym}
use Rattle.std.proofs.lemmas.Result.{err_from_is_err_and}
use Rattle.rounds.specs.Rounds.{IsTurn, IsTurnPart}
use Rattle.rounds.proofs.Others.{turn_silent, turn_part_silent}
use Rattle.rounds.proofs.Hosted.{Apart-rest, AllCut-told, slaves_told, first_cut, first_told, first_told_part, has_report-others, turns_reported, turns_all, turns_stopped, turns_stopped_first}
use Rattle.rounds.proofs.all_ends.turn_all.Goals as goal

pub returns-in_err-turn_first-clause-cut_slaves : goal.returns-in_err-turn_first-clause-cut_slaves
returns-in_err-turn_first-clause-cut_slaves g c =
    let p = err_from_is_err_and c.from_residual.result c.from_residual.ensures.1 in
    let part = c.in_err-turn_first.ensures.err in
    rw (p.1, part.added.log) (AllCut-told g.S.Seat.stands g.S.Seat.rules _ _ (slaves_told _ _ _ _ IsTurnPart turn_part_silent _ _ c.requires.apart part.form c.requires.told_slaves))

pub returns-in_err-turn_first-clause-err : goal.returns-in_err-turn_first-clause-err
returns-in_err-turn_first-clause-err g c =
    let p = err_from_is_err_and c.from_residual.result c.from_residual.ensures.1 in
    rw p.1 (turns_stopped_first _ _ _ _ _ _ _ c.in_err-turn_first.ensures.err)

pub returns-then-reports-clause-told_slaves : goal.returns-then-reports-clause-told_slaves
returns-then-reports-clause-told_slaves g c =
    let part = c.in_ok-turn_first.ensures.ok in
    rw part.added.log (slaves_told _ _ _ _ IsTurn turn_silent _ _ c.requires.apart part.form c.requires.told_slaves)

pub returns-then-reports-clause-ok : goal.returns-then-reports-clause-ok
returns-then-reports-clause-ok g c =
    let told = rw c.turn_first.ensures.rules at (c.reports.ensures c.turn_first.new.log.entries c.in_ok-turn_first.ensures.told) in
    turns_reported _ _ _ _ _ _ _ (sym told ∙ c.if-reports.true) c.in_ok-turn_first.ensures.ok

pub turn_each-requires-clause-apart : goal.turn_each-requires-clause-apart
turn_each-requires-clause-apart g c = Apart-rest _ _ c.requires.apart

pub turn_each-requires-clause-told : goal.turn_each-requires-clause-told
turn_each-requires-clause-told g c =
    let part = c.in_ok-turn_first.ensures.ok in
    rw part.added.log (slaves_told _ _ _ _ IsTurn turn_silent _ _ c.requires.apart part.form c.requires.told_slaves)

pub returns-in_err-turn_each-clause-cut_master : goal.returns-in_err-turn_each-clause-cut_master
returns-in_err-turn_each-clause-cut_master g c =
    let p = err_from_is_err_and c.from_residual-in_err-turn_each.result c.from_residual-in_err-turn_each.ensures.1 in
    let part = c.in_err-turn_each.ensures.err in
    rw (p.1, part.added.log)
    (first_cut _ _ _ _ (first_told_part _ _ _ IsTurn turn_silent IsTurnPart turn_part_silent _ _ _ (rw c.turn_first.ensures.rules c.requires.apart) part.form c.in_ok-turn_first.ensures.told))

pub returns-in_err-turn_each-clause-err : goal.returns-in_err-turn_each-clause-err
returns-in_err-turn_each-clause-err g c =
    let p = err_from_is_err_and c.from_residual-in_err-turn_each.result c.from_residual-in_err-turn_each.ensures.1 in
    let told = rw c.turn_first.ensures.rules at (c.reports.ensures c.turn_first.new.log.entries c.in_ok-turn_first.ensures.told) in
    rw p.1 (turns_stopped _ _ _ _ _ _ _ _ _ (sym told ∙ c.if-reports.false) c.in_ok-turn_first.ensures.ok c.in_err-turn_each.ensures.err)

pub returns-clause-told_master : goal.returns-clause-told_master
returns-clause-told_master g c =
    let part = c.in_ok-turn_each.ensures.ok in
    rw part.added.log (first_told g.M.Seat.stands g.M.Seat.rules _ IsTurn turn_silent c.turn_first.new.first _ _ (rw c.turn_first.ensures.rules c.requires.apart) part.form c.in_ok-turn_first.ensures.told)

pub returns-clause-ok : goal.returns-clause-ok
returns-clause-ok g c =
    let told = rw c.turn_first.ensures.rules at (c.reports.ensures c.turn_first.new.log.entries c.in_ok-turn_first.ensures.told) in
    turns_all _ _ _ _ _ _ _ _ _ (sym told ∙ c.if-reports.false) c.in_ok-turn_first.ensures.ok c.in_ok-turn_each.ensures.ok

pub returns-clause-report : goal.returns-clause-report
returns-clause-report g c =
    let told = rw c.turn_first.ensures.rules at (c.reports.ensures c.turn_first.new.log.entries c.in_ok-turn_first.ensures.told) in
    let part = c.in_ok-turn_each.ensures.ok in
    rw part.added.log (sym c.if-reports.false ∙ told ∙ sym (has_report-others _ _ IsTurn turn_silent _ _ c.requires.apart part.form))
