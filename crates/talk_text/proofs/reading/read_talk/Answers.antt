use Rattle.talk_text.proofs.Answered.{answered_ok, answered_range, answered_only, answered_fault}
use Rattle.talk_text.proofs.reading.read_talk.Goals as goal

pub returns : goal.returns
returns c = record {
  ok = answered_ok c.args.text.now c.read.result c.read.ensures;
  range = answered_range c.args.text.now c.read.result c.read.ensures;
  only = answered_only c.args.text.now c.read.result c.read.ensures;
  fault = answered_fault c.args.text.now c.read.result c.read.ensures;
}
