use Rattle.std.proofs.Common.{refl, ap, sym, ◌∙◌, arith, length, List}
use Rattle.slave_desc.specs.declared.ports.Port.{Port}
use Rattle.slave_device.proofs.Wires.Receiving.{bare_inputs}
use Rattle.slave_device.proofs.tables.Inputs.new.Goals as goal

pub returns : goal.returns
returns c = λ d h a.
    let n = ap (λ (l : List Port). length l) h in
    bare_inputs d _ (c.in_ok-ports.ensures.items ∙ sym h) a (omega (arith, n)) c.in_ok-ids.ensures c.in_ok-rows.ensures.items refl refl
