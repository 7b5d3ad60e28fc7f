use Rattle.std.proofs.Common.{◌∙◌, ap, List, map, Option}
use Rattle.std.specs.Prelude.{ℤ, reverse, slice_get}
use Rattle.std.specs.Option.{option_and_then}
use Rattle.master_spec.specs.Course.{course}
use Rattle.master_core.specs.declared.records.Talk.{Talk}
use Rattle.master_core.specs.Talking.{slave_talked_to}
use Rattle.master_core.specs.Columns.{column_in}
use Rattle.master_core.specs.Standing.{core_setup}
use Rattle.master_core.proofs.Placing.{value_there, value_missing}
use Rattle.master_core.proofs.records.MasterCore.row.Goals as goal

pub returns-in-Some : goal.returns-in-Some
returns-in-Some c = λ events s.
    let m = c.args.self.now in
    let rows = (course (core_setup m) (reverse events)).rows in
    c.value_in.ensures
    ∙ ap (λ (o : Option (List ℤ)). option_and_then (λ row. slice_get row c.in-Some.column) o) (c.row_values.ensures events s)
    ∙ value_there (slice_get rows c.args.k) (map slave_talked_to m.talks.items) c.args.slave c.args.port c.in-Some.column (c.in-Some.ensures ∙ ap (λ (ts : List Talk). column_in (map slave_talked_to ts) c.args.slave c.args.port) c.deref.ensures.value)

pub returns-in-None : goal.returns-in-None
returns-in-None c = λ events s.
    let m = c.args.self.now in
    value_missing (map slave_talked_to m.talks.items) _ c.args.k c.args.slave c.args.port (c.in-None.ensures ∙ ap (λ (ts : List Talk). column_in (map slave_talked_to ts) c.args.slave c.args.port) c.deref.ensures.value)
