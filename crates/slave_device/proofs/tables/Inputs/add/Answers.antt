use Rattle.std.proofs.Common.{◌∙◌, sym}
use Rattle.slave_device.proofs.Wires.Finding.{port_of, no_port_of}
use Rattle.slave_device.proofs.Wires.Entering.{no_input, bad_type, wired_refused}
use Rattle.slave_device.proofs.tables.Inputs.add.Goals as goal

pub returns-in_default : goal.returns-in_default
returns-in_default c = λ d w h. (no_input d w.changes _ _ _ _ (no_port_of _ _ _ (c.as_slice.ensures.value ∙ h.listed) c.in_default.ensures), h)

pub returns-then-code : goal.returns-then-code
returns-then-code c = λ d w h.
    (bad_type d w.changes _ _ _ _ c.in-Some.place (port_of _ _ _ _ (c.as_slice.ensures.value ∙ h.listed) c.in-Some.ensures) (λ e. c.if-code.true (c.code.ensures ∙ e ∙ sym c.code-2.ensures)), h)

pub returns-then-is_some : goal.returns-then-is_some
returns-then-is_some c = λ d w h.
    (wired_refused d w c.args.self.now _ _ _ _ c.in-Some.place h (port_of _ _ _ _ (c.as_slice.ensures.value ∙ h.listed) c.in-Some.ensures) (sym c.code.ensures ∙ c.if-code.false ∙ c.code-2.ensures) (sym c.is_some.ensures ∙ c.if-is_some.true), h)
