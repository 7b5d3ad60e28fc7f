use Rattle.std.proofs.lemmas.Result.{err_from_is_err_and}
use Rattle.dcp_record.proofs.Fronts.{got_refused}
use Rattle.dcp_record.proofs.entries_in.cut_got.Goals as goal

pub returns-in_err-exchange-clause-err : goal.returns-in_err-exchange-clause-err
returns-in_err-exchange-clause-err c =
    let p = err_from_is_err_and c.from_residual.result c.from_residual.ensures.1 in
    rw (p.1, p.2) (got_refused c.args.bytes.now _ c.in_err-exchange.ensures.err)
