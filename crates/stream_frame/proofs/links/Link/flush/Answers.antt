use Rattle.std.proofs.Common.{◌∙◌}
use Rattle.stream_frame.specs.Links.{Sent}
use Rattle.stream_frame.proofs.Flushing.{more_sent, kept_sent, carries_sent}
use Rattle.stream_frame.proofs.links.Link.flush.Goals as goal

pub writing-preserved : goal.writing-preserved
writing-preserved g c = record {
  sent = more_sent _ _ _ c.args.self.now.waits c.writing.self.waits c.write_front.new.self.waits c.in-Wrote.field-0 c.writing.invariant.sent c.in-Wrote.ensures.2 c.in-Wrote.ensures.3;
  no_fault = c.in-Wrote.ensures.4 ∙ c.writing.invariant.no_fault;
}

pub returns-in-Failed-clause-carries : goal.returns-in-Failed-clause-carries
returns-in-Failed-clause-carries g c = λ start from messages carries.
    let sent : Sent (g.K.Sink.written c.args.self.now.sink) (g.K.Sink.written c.write_front.new.self.sink) c.args.self.now.waits c.write_front.new.self.waits =
    kept_sent _ _ _ c.args.self.now.waits c.writing.self.waits c.write_front.new.self.waits c.writing.invariant.sent c.in-Failed.ensures.0 c.in-Failed.ensures.1 in
    carries_sent start _ _ c.args.self.now.waits c.write_front.new.self.waits from messages sent carries

pub returns-clause-carries : goal.returns-clause-carries
returns-clause-carries g c = λ start from messages carries. carries_sent start _ _ c.args.self.now.waits c.writing.self.waits from messages c.writing.invariant.sent carries
