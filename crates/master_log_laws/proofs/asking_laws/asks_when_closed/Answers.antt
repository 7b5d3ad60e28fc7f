use Rattle.master_log_laws.proofs.Asking.Closed.{asks_closed, stays_fit}
use Rattle.master_log_laws.proofs.Asking.Courses.{courses_are_fit}
use Rattle.master_log_laws.proofs.asking_laws.asks_when_closed.Goals as goal

pub returns-clause-closed : goal.returns-clause-closed
returns-clause-closed c = asks_closed

pub returns-clause-fit : goal.returns-clause-fit
returns-clause-fit c = stays_fit

pub returns-clause-courses : goal.returns-clause-courses
returns-clause-courses c = courses_are_fit
