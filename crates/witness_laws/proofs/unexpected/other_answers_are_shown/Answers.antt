use Rattle.witness_laws.proofs.Shown.FirstPhases.{tells_state, only_state, tells_log, only_log, tells_ack, only_ack, tells_error, only_error}
use Rattle.witness_laws.proofs.unexpected.other_answers_are_shown.Goals as goal

pub returns-clause-state : goal.returns-clause-state
returns-clause-state c = tells_state

pub returns-clause-only_state : goal.returns-clause-only_state
returns-clause-only_state c = only_state

pub returns-clause-log : goal.returns-clause-log
returns-clause-log c = tells_log

pub returns-clause-only_log : goal.returns-clause-only_log
returns-clause-only_log c = only_log

pub returns-clause-ack : goal.returns-clause-ack
returns-clause-ack c = tells_ack

pub returns-clause-only_ack : goal.returns-clause-only_ack
returns-clause-only_ack c = only_ack

pub returns-clause-error : goal.returns-clause-error
returns-clause-error c = tells_error

pub returns-clause-only_error : goal.returns-clause-only_error
returns-clause-only_error c = only_error
