use Rattle.std.proofs.Common.{List, ℕ, [], ◌++◌, length, subst}
use Rattle.dcp_io.specs.declared.outputs.Delivery.{Delivery}
use Rattle.dcp_io.specs.Outputs.{Delivers}
use Rattle.dcp_io.proofs.Spooling.{begun}
use Rattle.dcp_record.specs.Traces.{all_entry_bytes, header_bytes, trace_bytes}
use Rattle.dcp_record.proofs.Joined.{Puts-then}
use Rattle.dcp_record.proofs.writers.write_record.Goals as goal

pub returns-in-Whole : goal.returns-in-Whole
returns-in-Whole g c =
    let W = g.K.Sink.written in
    let F = g.K.Sink.faults in
    let head : List ℕ = header_bytes c.args.hosted (length c.args.scenario.now) in
    let puts = Puts-then (W c.args.sink.now) (W c.put_text.new.sink) (W c.put_text-2.new.sink) (F c.args.sink.now) (F c.put_text.new.sink) (F c.put_text-2.new.sink) c.new-spool.result c.put_text.new.spool c.put_text-2.new.spool
    (head ++ c.args.scenario.now) (all_entry_bytes c.args.log.now.entries)
    (Puts-then (W c.args.sink.now) (W c.put_header.new.sink) (W c.put_text.new.sink) (F c.args.sink.now) (F c.put_header.new.sink) (F c.put_text.new.sink) c.new-spool.result c.put_header.new.spool c.put_text.new.spool
    head c.args.scenario.now c.put_header.ensures c.put_text.ensures)
    (rw c.as_bytes.ensures.bytes at c.put_text-2.ensures) in
    let whole = c.finish.ensures (W c.args.sink.now) (F c.args.sink.now) (trace_bytes c.args.hosted c.args.scenario.now c.args.log.now.entries)
    (puts (W c.args.sink.now) (F c.args.sink.now) [] (begun (W c.args.sink.now) (F c.args.sink.now) c.new-spool.result c.new-spool.ensures)) in
    let D : Delivery → Type 0 = λ d. Delivers (W c.args.sink.now) (W c.finish.new.out) (F c.args.sink.now) (F c.finish.new.out) (trace_bytes c.args.hosted c.args.scenario.now c.args.log.now.entries) d in
    subst D c.in-Whole.is whole

pub returns-in-Cut : goal.returns-in-Cut
returns-in-Cut g c =
    let W = g.K.Sink.written in
    let F = g.K.Sink.faults in
    let head : List ℕ = header_bytes c.args.hosted (length c.args.scenario.now) in
    let puts = Puts-then (W c.args.sink.now) (W c.put_text.new.sink) (W c.put_text-2.new.sink) (F c.args.sink.now) (F c.put_text.new.sink) (F c.put_text-2.new.sink) c.new-spool.result c.put_text.new.spool c.put_text-2.new.spool
    (head ++ c.args.scenario.now) (all_entry_bytes c.args.log.now.entries)
    (Puts-then (W c.args.sink.now) (W c.put_header.new.sink) (W c.put_text.new.sink) (F c.args.sink.now) (F c.put_header.new.sink) (F c.put_text.new.sink) c.new-spool.result c.put_header.new.spool c.put_text.new.spool
    head c.args.scenario.now c.put_header.ensures c.put_text.ensures)
    (rw c.as_bytes.ensures.bytes at c.put_text-2.ensures) in
    let whole = c.finish.ensures (W c.args.sink.now) (F c.args.sink.now) (trace_bytes c.args.hosted c.args.scenario.now c.args.log.now.entries)
    (puts (W c.args.sink.now) (F c.args.sink.now) [] (begun (W c.args.sink.now) (F c.args.sink.now) c.new-spool.result c.new-spool.ensures)) in
    let D : Delivery → Type 0 = λ d. Delivers (W c.args.sink.now) (W c.finish.new.out) (F c.args.sink.now) (F c.finish.new.out) (trace_bytes c.args.hosted c.args.scenario.now c.args.log.now.entries) d in
    subst D c.in-Cut.is whole
