use Rattle.witness_laws.proofs.Shown.Runs.{not_reset_not, refused_not, too_early_not, at_first_not}
use Rattle.witness_laws.proofs.finished.runs_need_their_reset.Goals as goal

pub returns-clause-missing : goal.returns-clause-missing
returns-clause-missing c = not_reset_not

pub returns-clause-refused : goal.returns-clause-refused
returns-clause-refused c = refused_not

pub returns-clause-early : goal.returns-clause-early
returns-clause-early c = too_early_not

pub returns-clause-started : goal.returns-clause-started
returns-clause-started c = at_first_not
