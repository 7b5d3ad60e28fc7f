use Rattle.std.proofs.Common.{arith, ap, List, take, drop, ℤ, ◌*◌, ◌∙◌, sym, Some, length, ◌≤◌, length-drop}
use Rattle.std.proofs.lemmas.List.{length-take-le}
use Rattle.lockstep.specs.Cut.{Grid}
use Rattle.lockstep.proofs.Cuts.{seen_within, slice_get-seen}
use Rattle.lockstep.proofs.tables.Table.row.Goals as goal

pub overflow_mul-place : goal.overflow_mul-place
overflow_mul-place c =
    let t = c.self.inside in
    let rows = ap (λ (x : Grid). x.rows) c.self.view_is in
    let within = seen_within t.width t.count c.args.place t.values.items c.args.self.now.rows rows c.self.invariant.0 c.requires in
    omega (arith, within, c.as_slice-values.ensures.len)

pub part-requires : goal.part-requires
part-requires c =
    let t = c.self.inside in
    let rows = ap (λ (x : Grid). x.rows) c.self.view_is in
    let within = seen_within t.width t.count c.args.place t.values.items c.args.self.now.rows rows c.self.invariant.0 c.requires in
    omega (arith, within, c.as_slice-values.ensures.len)

pub returns-clause-width : goal.returns-clause-width
returns-clause-width c =
    let t = c.self.inside in
    let rows = ap (λ (x : Grid). x.rows) c.self.view_is in
    let width = ap (λ (x : Grid). x.width) c.self.view_is in
    let within = seen_within t.width t.count c.args.place t.values.items c.args.self.now.rows rows c.self.invariant.0 c.requires in
    let from = c.args.place * t.width in
    let dropped = length-drop from c.as_slice-values.result.now in
    let fits : t.width ≤ length (drop from c.as_slice-values.result.now) = omega (arith, within, dropped, c.as_slice-values.ensures.len) in
    ap (λ (x : List ℤ). length x) c.part.ensures ∙ length-take-le t.width (drop from c.as_slice-values.result.now) fits ∙ width

pub returns-clause-row : goal.returns-clause-row
returns-clause-row c =
    let t = c.self.inside in
    let rows = ap (λ (x : Grid). x.rows) c.self.view_is in
    let stored = ap (λ (x : List ℤ). take t.width (drop (c.args.place * t.width) x)) c.as_slice-values.ensures.value in
    slice_get-seen t.width t.count c.args.place t.values.items c.args.self.now.rows rows c.requires
    ∙ ap (λ (x : List ℤ). Some x) (sym stored ∙ sym c.part.ensures)
