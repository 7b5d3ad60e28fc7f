use Rattle.std.proofs.Common.{List, ℕ, [], ◌∷◌, ◌++◌}
use Rattle.std.specs.Int.{to_le_bytes, w32}
use Rattle.dcp_record.proofs.Joined.{Puts-then}
use Rattle.dcp_record.proofs.writers.put_header.Goals as goal

pub returns : goal.returns
returns g c =
    let W = g.K.Sink.written in
    let F = g.K.Sink.faults in
    let form : List ℕ = 68 ∷ 67 ∷ 80 ∷ 82 ∷ 1 ∷ [] in
    Puts-then (W c.args.sink.now) (W c.put-2.new.out) (W c.put-3.new.out) (F c.args.sink.now) (F c.put-2.new.out) (F c.put-3.new.out) c.args.spool.now c.put-2.new.self c.put-3.new.self
    (form ++ to_le_bytes w32 c.args.hosted) (to_le_bytes w32 c.args.len)
    (Puts-then (W c.args.sink.now) (W c.put.new.out) (W c.put-2.new.out) (F c.args.sink.now) (F c.put.new.out) (F c.put-2.new.out) c.args.spool.now c.put.new.self c.put-2.new.self
    form (to_le_bytes w32 c.args.hosted) c.put.ensures (rw c.to_le_bytes.ensures at c.put-2.ensures))
    (rw c.to_le_bytes-2.ensures at c.put-3.ensures)
