use Rattle.std.proofs.Common.{ℕ, ◌++◌, codes, sym, subst}
use Rattle.master_spec.specs.declared.causes.Cause.{Cause}
use Rattle.run_text.specs.Closings.{cause_text, named}
use Rattle.run_text.specs.Puts.{Puts}
use Rattle.run_text.proofs.Growth.{Puts-then}
use Rattle.run_text.proofs.closings.put_cause.Goals as goal

pub returns-in-Stuck : goal.returns-in-Stuck
returns-in-Stuck g c =
    let W = g.K.Sink.written in
    let F = g.K.Sink.faults in
    let first = c.put_named-in-Stuck.new in
    let last = c.put_named-in-Stuck-2.new in
    let Named : Cause → Type 0 = λ cause. Puts (W c.args.out.now) (W last.out) (F c.args.out.now) (F last.out) c.args.spool.now last.spool (cause_text cause) in
    let First : ℕ → Type 0 = λ n. Puts (W c.args.out.now) (W first.out) (F c.args.out.now) (F first.out) c.args.spool.now first.spool (named (codes " Stuck seq ") n) in
    let Last : ℕ → Type 0 = λ n. Puts (W first.out) (W last.out) (F first.out) (F last.out) first.spool last.spool (named (codes " state ") n) in
    subst Named (sym c.in-Stuck.is)
    (Puts-then _ _ _ _ _ _ _ _ _ (named (codes " Stuck seq ") c.in-Stuck.seq) (named (codes " state ") c.in-Stuck.state)
    (subst First c.from-in-Stuck.ensures c.put_named-in-Stuck.ensures)
    (subst Last c.from-in-Stuck-2.ensures c.put_named-in-Stuck-2.ensures))

pub returns-in-Unexpected : goal.returns-in-Unexpected
returns-in-Unexpected g c =
    let W = g.K.Sink.written in
    let F = g.K.Sink.faults in
    let first = c.put_named-in-Unexpected.new in
    let second = c.put_named-in-Unexpected-2.new in
    let last = c.put_named-in-Unexpected-3.new in
    let Named : Cause → Type 0 = λ cause. Puts (W c.args.out.now) (W last.out) (F c.args.out.now) (F last.out) c.args.spool.now last.spool (cause_text cause) in
    let First : ℕ → Type 0 = λ n. Puts (W c.args.out.now) (W first.out) (F c.args.out.now) (F first.out) c.args.spool.now first.spool (named (codes " Unexpected seq ") n) in
    let Second : ℕ → Type 0 = λ n. Puts (W first.out) (W second.out) (F first.out) (F second.out) first.spool second.spool (named (codes " type ") n) in
    let Last : ℕ → Type 0 = λ n. Puts (W second.out) (W last.out) (F second.out) (F last.out) second.spool last.spool (named (codes " state ") n) in
    subst Named (sym c.in-Unexpected.is)
    (Puts-then _ _ _ _ _ _ _ _ _ (named (codes " Unexpected seq ") c.in-Unexpected.seq ++ named (codes " type ") c.in-Unexpected.type_id) (named (codes " state ") c.in-Unexpected.state)
    (Puts-then _ _ _ _ _ _ _ _ _ (named (codes " Unexpected seq ") c.in-Unexpected.seq) (named (codes " type ") c.in-Unexpected.type_id)
    (subst First c.from-in-Unexpected.ensures c.put_named-in-Unexpected.ensures)
    (subst Second c.from-in-Unexpected-2.ensures c.put_named-in-Unexpected-2.ensures))
    (subst Last c.from-in-Unexpected-3.ensures c.put_named-in-Unexpected-3.ensures))
