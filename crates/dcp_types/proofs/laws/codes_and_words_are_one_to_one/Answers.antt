use Rattle.dcp_types.proofs.OneToOne.{types_differ, states_differ, errors_differ, faults_differ, errors_are_no_faults, protocols_differ}
use Rattle.dcp_types.proofs.laws.codes_and_words_are_one_to_one.Goals as goal

pub returns-clause-types : goal.returns-clause-types
returns-clause-types c = types_differ

pub returns-clause-states : goal.returns-clause-states
returns-clause-states c = states_differ

pub returns-clause-errors : goal.returns-clause-errors
returns-clause-errors c = errors_differ

pub returns-clause-faults : goal.returns-clause-faults
returns-clause-faults c = faults_differ

pub returns-clause-apart : goal.returns-clause-apart
returns-clause-apart c = errors_are_no_faults

pub returns-clause-protocols : goal.returns-clause-protocols
returns-clause-protocols c = protocols_differ
