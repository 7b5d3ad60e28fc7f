use Rattle.pdu_text.proofs.Answered.{answered_ok, answered_err}
use Rattle.pdu_text.proofs.texts_read.read_message.Goals as goal

pub returns-clause-ok : goal.returns-clause-ok
returns-clause-ok c = answered_ok c.args.text.now c.read_text.result c.read_text.ensures

pub returns-clause-err : goal.returns-clause-err
returns-clause-err c = answered_err c.args.text.now c.read_text.result c.read_text.ensures
