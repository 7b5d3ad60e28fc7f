use Rattle.std.proofs.Common.{sym, subst}
use Rattle.dcp_io.specs.Calls.{WriteAdds}
use Rattle.dcp_io.specs.declared.writes.Written.{Written}
use Rattle.dcp_io.proofs.Calling.{writes_added}
use Rattle.dcp_io.proofs.std_sinks.StdSinkSink.write.Goals as goal

pub returns-then-matches-clause-bytes : goal.returns-then-matches-clause-bytes
returns-then-matches-clause-bytes g c =
    let P : Written → Type 0 = λ r. WriteAdds (g.T.Write.contents c.args.self.now.inner) (g.T.Write.contents c.last_write.new.writer) r c.args.piece.now in
    subst P (sym c.written_of-written.ensures) (writes_added g.T.Write.contents c.args.piece.now c.args.self.now.inner c.last_write.new.writer c.last_write.result c.last_write.ensures)

pub returns-else-matches-clause-bytes : goal.returns-else-matches-clause-bytes
returns-else-matches-clause-bytes g c =
    let P : Written → Type 0 = λ r. WriteAdds (g.T.Write.contents c.args.self.now.inner) (g.T.Write.contents c.last_write.new.writer) r c.args.piece.now in
    subst P (sym c.written_of-written.ensures) (writes_added g.T.Write.contents c.args.piece.now c.args.self.now.inner c.last_write.new.writer c.last_write.result c.last_write.ensures)
