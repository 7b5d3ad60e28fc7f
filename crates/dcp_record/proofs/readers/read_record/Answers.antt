use Rattle.std.proofs.lemmas.Result.{err_from_is_err_and}
use Rattle.dcp_record.specs.declared.faults.TraceWhy.TheVariants.{Header}
use Rattle.dcp_record.proofs.Behind.{fault_behind, whole_behind}
use Rattle.dcp_record.proofs.OneTrace.{never_both, one_trace}
use Rattle.dcp_record.proofs.readers.read_record.Goals as goal

pub returns-in_err-entries-clause-err : goal.returns-in_err-entries-clause-err
returns-in_err-entries-clause-err c =
    let p = err_from_is_err_and c.from_residual.result c.from_residual.ensures.1 in
    let h = c.in-Ok.ensures.ok in
    rw (p.1, p.2) (fault_behind c.args.bytes.now _ _ _ h _ _ c.in_err-entries.ensures.err)

pub returns-in_err-entries-clause-only : goal.returns-in_err-entries-clause-only
returns-in_err-entries-clause-only c = λ hosted scenario entries t.
    let h = c.in-Ok.ensures.ok in
    absurd (never_both c.args.bytes.now hosted scenario entries t _ _ (fault_behind c.args.bytes.now _ _ _ h _ _ c.in_err-entries.ensures.err))

pub returns-in-Err-clause-only : goal.returns-in-Err-clause-only
returns-in-Err-clause-only c = λ hosted scenario entries t. absurd (never_both c.args.bytes.now hosted scenario entries t _ Header c.in-Err.ensures.err)

pub returns-clause-only : goal.returns-clause-only
returns-clause-only c = λ hosted scenario entries t. one_trace c.args.bytes.now _ hosted _ scenario _ entries (whole_behind c.args.bytes.now _ _ _ c.in-Ok.ensures.ok _ c.in_ok-entries.ensures.ok) t
