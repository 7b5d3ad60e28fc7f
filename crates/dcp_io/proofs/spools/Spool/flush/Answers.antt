use Rattle.std.proofs.Common.{Bool, [], sym, subst, take}
use Rattle.dcp_io.specs.declared.outputs.Delivery.{Delivery}
use Rattle.dcp_io.specs.Outputs.{Delivers}
use Rattle.dcp_io.specs.Spools.{Spooled, SpooledIf}
use Rattle.dcp_io.specs.Unwritten.{Unwritten}
use Rattle.dcp_io.proofs.Spooling.{flushed_whole, flushed_cut}
use Rattle.dcp_io.proofs.spools.Spool.flush.Goals as goal
use Rattle.dcp_io.proofs.spools.Spool.flush.Goals.{in-Whole, in-Cut}

pub returns-clause-spooled : goal.returns-clause-spooled
returns-clause-spooled g c = λ old before text spooled.
    let waits = take c.self.inside.len c.self.inside.room in
    let last = g.K.Sink.written c.args.out.now in
    let new = g.K.Sink.written c.write_all.new.out in
    let at = g.K.Sink.faults c.args.out.now in
    let now = g.K.Sink.faults c.write_all.new.out in
    let P : Unwritten → Type 0 = λ s. Spooled old last before at text s in
    let Q : Bool → Type 0 = λ b. SpooledIf old last before at b text waits in
    let R : Bool → Type 0 = λ b. SpooledIf old new before now b text [] in
    let unfailed = subst Q c.if-self.false (subst P (sym c.self.view_is) spooled) in
    let D : Delivery → Type 0 = λ d. Delivers last new at now waits d in
    elim c.match-write_all.branch [
      | in-Whole w ↦ subst R (sym w.self-is) (flushed_whole old last new before at now text waits unfailed (subst D w.in-Whole.is c.write_all.ensures))
      | in-Cut w ↦ subst R (sym w.self-is) (flushed_cut old last new before at now text waits unfailed (subst D w.in-Cut.is c.write_all.ensures))
    ]
