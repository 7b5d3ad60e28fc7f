use Rattle.master_laws.proofs.Hears.Reading.{answers_heard}
use Rattle.master_laws.proofs.hearing_laws.answers_are_heard.Goals as goal

pub returns : goal.returns
returns c = answers_heard
