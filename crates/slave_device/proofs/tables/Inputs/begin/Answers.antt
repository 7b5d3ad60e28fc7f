use Rattle.std.specs.List.{insert}
use Rattle.std.proofs.lemmas.List.Edits.{length-insert}
use Rattle.slave_device.specs.declared.tables.InputRow.{InputRow}
use Rattle.std.proofs.Common.{ℕ, List, length, subst, None, ◌∙◌, ap, sym, ◌≡◌, arith, refl, true, false}
use Rattle.std.proofs.lemmas.Grind.{common_steps}
use Rattle.slave_device.proofs.Wires.Building.{width_few}
use Rattle.slave_device.proofs.Wires.Wired.{some_free, one_more, sized_insert, AreSized}
use Rattle.slave_device.proofs.Wires.Entering.{position_judged, none_yet, begun, differs, equals}
use Rattle.slave_device.proofs.tables.Inputs.begin.Goals as goal

pub returns-then-position-ne0 : goal.returns-then-position-ne0
returns-then-position-ne0 c = λ d w vr source h p same.
    (position_judged d w c.args.self.now _ _ vr 0 source c.args.place false h p same c.requires.free (none_yet d w c.args.self.now c.args.id c.args.i h c.requires.absent) (differs _ _ c.if-position-ne0.true), h)

pub unreachable-requires : goal.unreachable-requires
unreachable-requires c =
    let f = some_free c.args.self.now.segments c.args.place.index (omega arith) c.requires.free in
    let ok = c.insert-2.ensures.succeeds (omega (arith, f, c.args.self.now.wired, c.args.self.now.room, c.args.self.now.even, c.args.self.now.rows.ok.0)) in
    grind (arith, common_steps, ok)

pub invariant_of-self-clause-wired : goal.invariant_of-self-clause-wired
invariant_of-self-clause-wired c = let e = one_more c.args.self.now.segments c.args.place.index (record { id = c.args.id; offset = 0; kind = c.args.place.kind }) (omega arith) c.requires.free in
    let n = ap (λ (l : List ℕ). length l) c.insert.ensures in
    omega (arith, e, n, c.args.self.now.wired, length-insert c.args.self.now.ids c.args.i c.args.id c.requires.absent.behind.within)

pub invariant_of-self-clause-sized : goal.invariant_of-self-clause-sized
invariant_of-self-clause-sized c =
    let row : InputRow = record { count = 1; size = c.width.result; source = None; interval = 1; base = 0; kept = None } in
    let e : c.insert-2.new.self.items ≡ insert c.args.self.now.rows.items c.args.i row = grind (arith, common_steps) in
    subst AreSized (sym e) (sized_insert c.args.self.now.rows.items c.args.i row (omega (arith, c.requires.absent.behind.within, c.args.self.now.even)) c.args.self.now.sized (omega (arith, width_few c.args.place.kind, c.width.ensures)))

pub returns : goal.returns
returns c = λ d w vr source h p same.
    let f : ℕ → InputRow = λ n. record { count = 1; size = n; source = None; interval = 1; base = 0; kept = None } in
    let e : c.insert-2.new.self.items ≡ insert c.args.self.now.rows.items c.args.i (f c.width.result) = grind (arith, common_steps) in (
      position_judged d w c.args.self.now _ _ vr 0 source c.args.place true h p same c.requires.free (none_yet d w c.args.self.now c.args.id c.args.i h c.requires.absent) (equals _ _ c.if-position-ne0.false),
      begun d w c.args.self.now _ _ c.args.i _ _ source c.args.place h c.requires.absent p c.requires.free c.if-position-ne0.false refl c.insert.ensures (e ∙ ap (λ n. insert c.args.self.now.rows.items c.args.i (f n)) c.width.ensures) refl refl,
    )
