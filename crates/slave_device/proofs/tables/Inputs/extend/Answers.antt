use Rattle.slave_device.specs.declared.tables.InputRow.{InputRow}
use Rattle.std.proofs.Common.{set, ◌+◌, ◌∙◌, ap, arith, refl, true, false}
use Rattle.std.proofs.lemmas.List.{length-set}
use Rattle.slave_device.proofs.Wires.Building.{width_few}
use Rattle.slave_device.proofs.Wires.Wired.{one_more, sized_set}
use Rattle.slave_device.proofs.Wires.Entering.{position_judged, count_is, extended, differs, equals}
use Rattle.slave_device.proofs.tables.Inputs.extend.Goals as goal

pub returns-then-position-row : goal.returns-then-position-row
returns-then-position-row c = λ d w vr source h p same. (
  position_judged d w c.args.self.now _ _ vr _ source c.args.place false h p same c.requires.free (count_is d w c.args.self.now c.args.id c.args.i c.index-row.result.now h c.requires.there c.index-row.ensures)
      (differs _ _ c.if-position-row.true),
  h,
)

pub invariant_of-self-clause-even : goal.invariant_of-self-clause-even
invariant_of-self-clause-even c = length-set _ _ _ ∙ c.args.self.now.even

pub invariant_of-self-clause-wired : goal.invariant_of-self-clause-wired
invariant_of-self-clause-wired c = let e = one_more c.args.self.now.segments c.args.place.index (record { id = c.args.id; offset = c.index-row.result.now.size; kind = c.args.place.kind }) (omega arith) c.requires.free in omega (arith, e, c.args.self.now.wired)

pub invariant_of-self-clause-sized : goal.invariant_of-self-clause-sized
invariant_of-self-clause-sized c =
    let row : InputRow = c.index-row.result.now in
    let z = c.args.self.now.sized c.args.i row (omega (arith, c.requires.there.within, c.args.self.now.even)) in
    let s = ap (λ (r : InputRow). r.size) c.index-row.ensures in
    let n = ap (λ (r : InputRow). r.count) c.index-row.ensures in
    sized_set _ _ _ c.args.self.now.sized (omega (arith, z, s, n, width_few c.args.place.kind, c.width.ensures))

pub returns : goal.returns
returns c = λ d w vr source h p same. (
  position_judged d w c.args.self.now _ _ vr _ source c.args.place true h p same c.requires.free (count_is d w c.args.self.now c.args.id c.args.i c.index-row.result.now h c.requires.there c.index-row.ensures)
      (equals _ _ c.if-position-row.false),
  extended d w c.args.self.now _ _ c.args.i _ _ source c.index-row.result.now c.args.place h c.requires.there p c.requires.free c.index-row.ensures c.if-position-row.false refl refl
      (ap (λ n. set c.args.self.now.rows.items c.args.i (record c.index-row.result.now { count = c.index-row.result.now.count + 1; size = c.index-row.result.now.size + n })) c.width.ensures) refl refl,
)
