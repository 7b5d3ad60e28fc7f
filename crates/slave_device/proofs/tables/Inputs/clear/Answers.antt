use Rattle.std.proofs.Common.{refl, ap, arith, length, List}
use Rattle.slave_desc.specs.declared.ports.Port.{Port}
use Rattle.slave_device.proofs.Wires.Receiving.{bare_inputs}
use Rattle.slave_device.proofs.tables.Inputs.clear.Goals as goal

pub returns : goal.returns
returns c = λ d w h.
    let n = ap (λ (l : List Port). length l) h.listed in
    bare_inputs d _ h.listed h.apart (omega (arith, n)) c.clear.ensures c.clear-2.ensures.items refl refl
