use Rattle.std.proofs.Common.{ℕ, List, ◌++◌, codes, sym, subst}
use Rattle.dcp_io.specs.Unwritten.{Unwritten}
use Rattle.master_spec.specs.declared.reports.Report.{Report}
use Rattle.run_text.specs.Closings.{cause_text, named, report_line}
use Rattle.run_text.specs.Puts.{Puts}
use Rattle.run_text.proofs.Growth.{Puts-then}
use Rattle.run_text.proofs.closings.put_report_line.Goals as goal
use Rattle.run_text.proofs.closings.put_report_line.Goals.{in-Finished, in-Failed}

pub returns : goal.returns
returns g c =
    let W = g.K.Sink.written in
    let F = g.K.Sink.faults in
    let at = c.match-report in
    let end = c.put.new in
    let Ended : Report → Type 0 = λ report. Puts (W c.args.out.now) (W end.out) (F c.args.out.now) (F end.out) c.args.spool.now end.self (report_line report) in
    let Line : g.row.K.Denot → Unwritten → List ℕ → Type 0 = λ out spool line. Puts (W c.args.out.now) (W out) (F c.args.out.now) (F out) c.args.spool.now spool line in
    elim at.branch [
      | in-Finished w ↦
          let OnOut : g.row.K.Denot → Type 0 = λ out. Line out at.spool (named (codes "finished ") w.in-Finished.steps) in
          let OnSpool : Unwritten → Type 0 = λ spool. Line w.put_named.new.out spool (named (codes "finished ") w.in-Finished.steps) in
          subst Ended (sym w.in-Finished.is)
          (Puts-then _ _ _ _ _ _ _ _ _ (named (codes "finished ") w.in-Finished.steps) (codes "\n")
          (subst OnOut (sym w.out-is) (subst OnSpool (sym w.spool-is) w.put_named.ensures)) c.put.ensures)
      | in-Failed w ↦
          let first = w.put_named-in-Failed.new in
          let second = w.put_named-in-Failed-2.new in
          let last = w.put_cause.new in
          let head = named (codes "failed slave ") w.in-Failed.slave in
          let phase = named (codes " phase ") w.in-Failed.phase in
          let line = head ++ phase ++ cause_text w.in-Failed.cause in
          let First : ℕ → Type 0 = λ n. Line first.out first.spool (named (codes "failed slave ") n) in
          let OnOut : g.row.K.Denot → Type 0 = λ out. Line out at.spool line in
          let OnSpool : Unwritten → Type 0 = λ spool. Line last.out spool line in
          subst Ended (sym w.in-Failed.is)
          (Puts-then _ _ _ _ _ _ _ _ _ line (codes "\n")
          (subst OnOut (sym w.out-is) (subst OnSpool (sym w.spool-is)
          (Puts-then _ _ _ _ _ _ _ _ _ (head ++ phase) (cause_text w.in-Failed.cause)
          (Puts-then _ _ _ _ _ _ _ _ _ head phase (subst First w.from.ensures w.put_named-in-Failed.ensures) w.put_named-in-Failed-2.ensures)
          w.put_cause.ensures)))
          c.put.ensures)
    ]
