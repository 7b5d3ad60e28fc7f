use Rattle.std.proofs.Common.{◌≤◌, ◌∙◌, length, sym, ap, arith}
use Rattle.std.proofs.lemmas.List.{take_all}
use Rattle.std.proofs.lemmas.Result.{err_from_is_err_and}
use Rattle.replays.proofs.Moves.{ended, report_differs}
use Rattle.replays.proofs.going.go_through.Goals as goal

pub returns-then-reports-clause-result : goal.returns-then-reports-clause-result
returns-then-reports-clause-result g c =
    let i = c.entries.invariant in
    let told = rw i.rules_master at (c.reports.ensures _ i.ends.told_master) in
    rw c.at.ensures.at (report_differs _ _ _ _ (omega (arith, ap length i.entries)) i.right (sym told ∙ c.if-reports.true))

pub go_on-requires-clause-right : goal.go_on-requires-clause-right
go_on-requires-clause-right g c = let i = c.entries.invariant in rw (i.entries, i.rules_master, i.rules_slaves) i.right

pub returns-in_err-go_on-clause-result : goal.returns-in_err-go_on-clause-result
returns-in_err-go_on-clause-result g c =
    let i = c.entries.invariant in
    let p = err_from_is_err_and c.from_residual.result c.from_residual.ensures.1 in
    rw (p.1, p.2) (rw (i.entries, i.rules_master, i.rules_slaves) at c.in_err-go_on.ensures.err)

pub entries-preserved : goal.entries-preserved
entries-preserved g c =
    let i = c.entries.invariant in
    let went = rw (i.entries, i.rules_master, i.rules_slaves) at c.in_ok-go_on.ensures.ok in
    record {
      entries = c.go_on.ensures.entries ∙ i.entries;
      within = went.within;
      rules_master = c.go_on.ensures.rules_master ∙ i.rules_master;
      rules_slaves = c.go_on.ensures.rules_slaves ∙ i.rules_slaves;
      made = c.go_on.ensures.made ∙ i.made;
      right = went.right;
      ends = rw i.entries at c.in_ok-go_on.ensures.ends;
    }

pub returns-then-reports-2-clause-result : goal.returns-then-reports-2-clause-result
returns-then-reports-2-clause-result g c =
    let i = c.entries.invariant in
    let past : length c.args.entries.now ≤ c.entries.cursor.at = omega (arith, ap length i.entries) in
    let whole = take_all c.entries.cursor.at c.args.entries.now past in
    let told = rw i.rules_master at (c.reports-2.ensures _ (rw whole at i.ends.told_master)) in
    (rw whole at i.right, ended g.M.End g.S.End _ _ _ _ _ i.rules_master i.rules_slaves (rw whole at i.ends) (sym told ∙ c.if-reports-2.true))

pub returns-else-reports-2-clause-result : goal.returns-else-reports-2-clause-result
returns-else-reports-2-clause-result g c =
    let i = c.entries.invariant in
    let past : length c.args.entries.now ≤ c.entries.cursor.at = omega (arith, ap length i.entries) in
    let whole = take_all c.entries.cursor.at c.args.entries.now past in
    let told = rw i.rules_master at (c.reports-2.ensures _ (rw whole at i.ends.told_master)) in
    (rw whole at i.right, λ ended. cc (ended.reported, told, c.if-reports-2.false))
