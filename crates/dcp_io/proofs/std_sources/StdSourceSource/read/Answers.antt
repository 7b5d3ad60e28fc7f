use Rattle.std.proofs.Common.{arith, sym, subst}
use Rattle.dcp_io.specs.Calls.{ReadTakes}
use Rattle.dcp_io.specs.declared.reads.Read.{Read}
use Rattle.dcp_io.proofs.Calling.{reads_took}
use Rattle.dcp_io.proofs.std_sources.StdSourceSource.read.Goals as goal

pub returns-then-matches-clause-bytes : goal.returns-then-matches-clause-bytes
returns-then-matches-clause-bytes g c =
    let P : Read → Type 0 = λ r. ReadTakes (g.T.Read.remaining c.args.self.now.inner) (g.T.Read.remaining c.last_read.new.reader) r c.last_read.new.room in
    subst P (sym c.read_of-read.ensures) (reads_took g.T.Read.remaining (c.args.self.now.inner, c.args.room.now) (c.last_read.new.reader, c.last_read.new.room) c.last_read.result c.last_read.ensures (search arith))

pub returns-else-matches-clause-bytes : goal.returns-else-matches-clause-bytes
returns-else-matches-clause-bytes g c =
    let P : Read → Type 0 = λ r. ReadTakes (g.T.Read.remaining c.args.self.now.inner) (g.T.Read.remaining c.last_read.new.reader) r c.last_read.new.room in
    subst P (sym c.read_of-read.ensures) (reads_took g.T.Read.remaining (c.args.self.now.inner, c.args.room.now) (c.last_read.new.reader, c.last_read.new.room) c.last_read.result c.last_read.ensures (search arith))
