use Rattle.dcp_record.proofs.Either.{trace_or}
use Rattle.dcp_record.proofs.OneTrace.{never_both, one_trace, one_refusal}
use Rattle.dcp_record.proofs.laws.traces_read_or_are_refused.Goals as goal

pub returns-clause-either : goal.returns-clause-either
returns-clause-either c = trace_or

pub returns-clause-never_both : goal.returns-clause-never_both
returns-clause-never_both c = λ b hosted scenario entries at why t k. never_both b hosted scenario entries t at why k

pub returns-clause-one_trace : goal.returns-clause-one_trace
returns-clause-one_trace c = one_trace

pub returns-clause-one_refusal : goal.returns-clause-one_refusal
returns-clause-one_refusal c = one_refusal
