use Rattle.witness_laws.proofs.Shown.Unexchanged.{noticed_not, early_not, not_running_not, refused_not, two_not}
use Rattle.witness_laws.proofs.finished.exchanges_need_their_answers.Goals as goal

pub returns-clause-noticed : goal.returns-clause-noticed
returns-clause-noticed c = noticed_not

pub returns-clause-early : goal.returns-clause-early
returns-clause-early c = early_not

pub returns-clause-running : goal.returns-clause-running
returns-clause-running c = not_running_not

pub returns-clause-refused : goal.returns-clause-refused
returns-clause-refused c = refused_not

pub returns-clause-two : goal.returns-clause-two
returns-clause-two c = two_not
