use Rattle.std.proofs.Common.{◌≡◌, ℕ, ◌+◌, ◌<◌, ◌++◌, [], List, Option, Some, length, take, sym, ap, subst, ◌∙◌, arith}
use Rattle.std.specs.Borrow.{Bor}
use Rattle.std.specs.Prelude.{ℤ, option_map, reverse, slice_get}
use Rattle.std.proofs.lemmas.List.{take_all}
use Rattle.std.proofs.lemmas.Option.{none-some, slice_get-get_or}
use Rattle.dcp_io.specs.Spools.{Spooled}
use Rattle.dcp_io.specs.Unwritten.{Unwritten}
use Rattle.master_spec.specs.Course.{course}
use Rattle.master_core.specs.Standing.{core_setup}
use Rattle.run_text.specs.Rows.{rows_text}
use Rattle.run_text.proofs.Growth.{row_more}
use Rattle.run_text.proofs.rows.put_rows.Goals as goal
use Rattle.run_text.proofs.rows.put_rows.Goals.{in-Some, in_default}

pub loop-k-preserved : goal.loop-k-preserved
loop-k-preserved g c = λ events stands first none text spooled.
    let k = c.loop-k.k in
    let rows = (course (core_setup c.args.master.now) (reverse events)).rows in
    let seen : Option (Bor (List ℤ)) → Option (List ℤ) = λ o. option_map (λ values. values.now) o in
    let So : g.row.K.Denot → Unwritten → Type 0 = λ out spool. Spooled first (g.K.Sink.written out) none (g.K.Sink.faults out) (text ++ rows_text 0 (take (k + 1) rows)) spool in
    elim c.match-row_values.branch [
      | in-Some w ↦
          let row = w.in-Some.values.now in
          let there : slice_get rows k ≡ Some row = sym (c.row_values.ensures events stands) ∙ ap seen w.in-Some.is in
          let out = w.put_row.new.out in
          let spool = w.put_row.new.spool in
          let P : List ℕ → Type 0 = λ l. Spooled first (g.K.Sink.written out) none (g.K.Sink.faults out) l spool in
          subst (λ o. So o c.match-row_values.spool) (sym w.out-is)
          (subst (λ s. So out s) (sym w.spool-is)
          (subst P (row_more text k rows row there) (w.put_row.ensures first none _ (c.loop-k.invariant events stands first none text spooled))))
      | in_default w ↦
          let within : k < length rows = omega (arith, c.loop-k-test.true, c.rows-k-end.ensures events stands) in
          absurd {A = So c.match-row_values.out c.match-row_values.spool} (none-some _ (sym (ap seen w.in_default.is) ∙ c.row_values.ensures events stands ∙ slice_get-get_or rows k [] within))
    ]

pub returns : goal.returns
returns g c = λ events stands first none text spooled.
    let rows = (course (core_setup c.args.master.now) (reverse events)).rows in
    let P : List (List ℤ) → Type 0 = λ l. Spooled first (g.K.Sink.written c.loop-k.out) none (g.K.Sink.faults c.loop-k.out) (text ++ rows_text 0 l) c.loop-k.spool in
    subst P (take_all c.loop-k.k rows (omega (arith, c.loop-k-test.false, c.rows-k-end.ensures events stands))) (c.loop-k.invariant events stands first none text spooled)
