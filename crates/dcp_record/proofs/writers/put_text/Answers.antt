use Rattle.std.proofs.Common.{◌≤◌, ◌-◌, arith, take, drop}
use Rattle.dcp_record.proofs.Joined.{Puts-then, piece_more}
use Rattle.dcp_record.proofs.writers.put_text.Goals as goal

pub loop-at-preserved : goal.loop-at-preserved
loop-at-preserved g c =
    let W = g.K.Sink.written in
    let F = g.K.Sink.faults in
    let text = c.args.text.now in
    let at = c.loop-at.at in
    let end = c.min-end.result in
    let later : at ≤ end = omega arith in
    record {
      within = omega arith;
      puts = rw (← piece_more text at end later)
          (Puts-then (W c.args.sink.now) (W c.loop-at.sink) (W c.put.new.out) (F c.args.sink.now) (F c.loop-at.sink) (F c.put.new.out) c.args.spool.now c.loop-at.spool c.put.new.self
          (take at text) (take (end - at) (drop at text)) c.loop-at.invariant.puts c.put.ensures);
    }
