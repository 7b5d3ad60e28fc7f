use Rattle.std.proofs.Common.{◌∙◌, sym}
use Rattle.std.proofs.lemmas.Result.{err_from_is_err_and}
use Rattle.dcp_record.specs.EntryRefs.{entry_told}
use Rattle.rounds.proofs.Others.{kept}
use Rattle.replays.proofs.Moves.{sent_differs, far_differs, first_stops, first_goes, first_moved, slave_moves, slave_stops, slave_goes, report_kept}
use Rattle.replays.proofs.going.go_on.Goals as goal

pub returns-in_default-place_in-clause-err : goal.returns-in_default-place_in-clause-err
returns-in_default-place_in-clause-err g c =
    let found = c.in-Some.ensures.here in
    rw c.at-at.ensures.at (sent_differs g.M.End g.S.End _ _ _ _ found _ c.requires.ends c.requires.right (sym c.place_in.ensures ∙ c.in_default-place_in.is))

pub returns-in_default-find-clause-err : goal.returns-in_default-find-clause-err
returns-in_default-find-clause-err g c =
    let found = c.in-Some.ensures.here in
    rw c.at-at.ensures.at (far_differs g.M.End g.S.End _ _ _ _ found _ c.requires.ends c.requires.right c.in-Some-place_in.place (sym c.place_in.ensures ∙ c.in-Some-place_in.is)
    (sym c.is_at.ensures ∙ c.if-is_at.false) (rw c.requires.places at c.in_default-find.ensures.none))

pub returns-in_err-visit_master-clause-err : goal.returns-in_err-visit_master-clause-err
returns-in_err-visit_master-clause-err g c =
    let p = err_from_is_err_and c.from_residual.result c.from_residual.ensures.1 in
    let found = c.in-Some.ensures.here in
    let master = c.in-Some-master.is in
    rw (p.1, p.2, master) (first_stops g.M.End g.S.End c.args.slaves.now _ _ _ found c.in-Some-master.end c.in-Some-place_in.place (sym c.place_in.ensures ∙ c.in-Some-place_in.is)
    (rw (c.if-is_at.true, master) at (sym c.is_at.ensures)) (rw master at c.requires.ends) (rw master at c.requires.apart) (rw master at c.requires.right) (rw master at c.requires.going) _ _ c.in-Some.ensures.behind c.in_err-visit_master.ensures.passes)

pub returns-then-is_at-clause-ok : goal.returns-then-is_at-clause-ok
returns-then-is_at-clause-ok g c =
    let found = c.in-Some.ensures.here in
    let master = c.in-Some-master.is in
    rw master (first_goes g.M.End g.S.End c.args.slaves.now _ _ _ found c.in-Some-master.end c.in-Some-place_in.place (sym c.place_in.ensures ∙ c.in-Some-place_in.is)
    (rw (c.if-is_at.true, master) at (sym c.is_at.ensures)) (rw master at c.requires.ends) (rw master at c.requires.apart) (rw master at c.requires.right) (rw master at c.requires.going) _ (rw c.in-Some.ensures.behind at c.in_ok-visit_master.ensures.passes))

pub returns-then-is_at-clause-ends : goal.returns-then-is_at-clause-ends
returns-then-is_at-clause-ends g c =
    let found = c.in-Some.ensures.here in
    let master = c.in-Some-master.is in
    first_moved g.M.End g.S.End c.args.slaves.now _ _ _ found c.in-Some-master.end c.in-Some-place_in.place (sym c.place_in.ensures ∙ c.in-Some-place_in.is)
    (rw (c.if-is_at.true, master) at (sym c.is_at.ensures)) (rw master at c.requires.ends) (rw master at c.requires.apart) (rw master at c.requires.right) (rw master at c.requires.going) _ _ (rw c.in-Some.ensures.behind at c.in_ok-visit_master.ensures.passes)
    c.visit_master.ensures.rules c.visit_master.ensures.stands c.in_ok-visit_master.ensures.quiet

pub returns-in_err-visit-clause-rules_slaves : goal.returns-in_err-visit-clause-rules_slaves
returns-in_err-visit-clause-rules_slaves g c = kept g.S.End.rules _ _ c.index-slaves-i.result _ c.visit.ensures.rules

pub returns-clause-rules_slaves : goal.returns-clause-rules_slaves
returns-clause-rules_slaves g c = kept g.S.End.rules _ _ c.index-slaves-i.result _ c.visit.ensures.rules

pub returns-in_err-visit-clause-err : goal.returns-in_err-visit-clause-err
returns-in_err-visit-clause-err g c =
    let p = err_from_is_err_and c.from_residual-in_err-visit.result c.from_residual-in_err-visit.ensures.1 in
    let found = c.in-Some.ensures.here in
    let is = sym c.place_in.ensures ∙ c.in-Some-place_in.is in
    let far = sym c.is_at.ensures ∙ c.if-is_at.false in
    rw (p.1, p.2) (slave_stops g.M.End g.S.End _ _ _ _ found _ c.requires.ends c.requires.apart c.in-Some-place_in.place is _ c.index-slaves-i.result (rw c.requires.places at c.in-Some-find.ensures.found)
    c.requires.right c.requires.going (report_kept _ _ (entry_told c.in-Some.entry) c.in-Some-place_in.place is far) _ _ c.in-Some.ensures.behind c.in_err-visit.ensures.passes)

pub returns-clause-ok : goal.returns-clause-ok
returns-clause-ok g c =
    let found = c.in-Some.ensures.here in
    let is = sym c.place_in.ensures ∙ c.in-Some-place_in.is in
    let far = sym c.is_at.ensures ∙ c.if-is_at.false in
    slave_goes g.M.End g.S.End _ _ _ _ found _ c.requires.ends c.requires.apart c.in-Some-place_in.place is _ c.index-slaves-i.result (rw c.requires.places at c.in-Some-find.ensures.found)
    c.requires.right c.requires.going (report_kept _ _ (entry_told c.in-Some.entry) c.in-Some-place_in.place is far) _ (rw c.in-Some.ensures.behind at c.in_ok-visit.ensures.passes)

pub returns-clause-ends : goal.returns-clause-ends
returns-clause-ends g c =
    let found = c.in-Some.ensures.here in
    slave_moves g.M.End g.S.End _ _ _ _ found _ c.requires.ends c.requires.apart c.in-Some-place_in.place (sym c.place_in.ensures ∙ c.in-Some-place_in.is) _ c.index-slaves-i.result
    (rw c.requires.places at c.in-Some-find.ensures.found) _ _ (rw c.in-Some.ensures.behind at c.in_ok-visit.ensures.passes) c.visit.ensures.rules c.visit.ensures.stands c.in_ok-visit.ensures.quiet
