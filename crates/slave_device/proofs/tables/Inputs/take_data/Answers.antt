use Rattle.std.proofs.Common.{refl, sym, arith, ◌∙◌, ap, ℕ, Some, set}
use Rattle.slave_device.proofs.Wires.Taking.{wanted_is, not_wanted, not_taken, taken}
use Rattle.slave_device.proofs.tables.Inputs.take_data.Goals as goal

pub returns-in_default-clause-kept : goal.returns-in_default-clause-kept
returns-in_default-clause-kept c = λ d w h. sym (not_wanted d w c.args.self.now _ _ _ _ _ _ h c.in_default.ensures)

pub returns-in_default-clause-stands : goal.returns-in_default-clause-stands
returns-in_default-clause-stands c = λ d w h.
    not_taken d w c.args.self.now _ _ _ _ _ _ h (not_wanted d w c.args.self.now _ _ _ _ _ _ h c.in_default.ensures) refl refl refl refl refl

pub returns-then-not-wants-clause-kept : goal.returns-then-not-wants-clause-kept
returns-then-not-wants-clause-kept c = λ d w h.
    sym c.if-not-wants.true ∙ c.wants.ensures ∙ wanted_is d w c.args.self.now c.args.id c.in-Ok.i c.index-row.result.now _ _ _ _ h c.in-Ok.ensures c.index-row.ensures

pub returns-then-not-wants-clause-stands : goal.returns-then-not-wants-clause-stands
returns-then-not-wants-clause-stands c = λ d w h.
    not_taken d w c.args.self.now _ _ _ _ _ _ h
    (sym (c.wants.ensures ∙ wanted_is d w c.args.self.now c.args.id c.in-Ok.i c.index-row.result.now _ _ _ _ h c.in-Ok.ensures c.index-row.ensures) ∙ c.if-not-wants.true) refl refl refl refl refl

pub returns-clause-kept : goal.returns-clause-kept
returns-clause-kept c = λ d w h.
    sym c.if-not-wants.false ∙ c.wants.ensures ∙ wanted_is d w c.args.self.now c.args.id c.in-Ok.i c.index-row.result.now _ _ _ _ h c.in-Ok.ensures c.index-row.ensures

pub returns-clause-stands : goal.returns-clause-stands
returns-clause-stands c = λ d w h.
    taken d w c.args.self.now _ c.args.id c.in-Ok.i c.index-row.result.now _ _ _ _ h c.in-Ok.ensures c.index-row.ensures (sym c.wants.ensures ∙ c.if-not-wants.false)
    refl refl (ap (λ (n : ℕ). set c.args.self.now.rows.items c.in-Ok.i (record c.index-row.result.now { kept = Some n })) c.in_run.ensures) refl c.take_values.ensures.length (λ k e z lt. c.take_values.ensures.values k e z (omega arith))
