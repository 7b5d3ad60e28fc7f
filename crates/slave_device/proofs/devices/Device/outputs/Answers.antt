use Rattle.std.proofs.Common.{arith, ◌≡◌, sym, subst, ap, ◌∙◌, ◌+◌, length, set, rules}
use Rattle.std.specs.Int.{w128}
use Rattle.std.proofs.lemmas.Int.{to_z-of_z}
use Rattle.slave_device.proofs.Shown.{Shown, shown_more, unshown, shown_all}
use Rattle.slave_device.proofs.devices.Device.outputs.Goals as goal

pub returns-in-Err : goal.returns-in-Err
returns-in-Err g c =
    let e : length c.as_slice-count.result.now ≡ length c.args.self.now.works.setup.desc.outputs = ap length c.as_slice-count.ensures in
    unshown c.args.self.now.works.setup c.args.self.now.works.model c.loop-port.port c.in-Err.code c.args.self.now.works.made
    (omega (arith, c.loop-port-test.true, e)) (sym c.in-Err.is ∙ c.output.ensures.value)

pub loop-port-preserved : goal.loop-port-preserved
loop-port-preserved g c =
    let e : length c.as_slice-count.result.now ≡ length c.args.self.now.works.setup.desc.outputs = ap length c.as_slice-count.ensures in
    subst (λ z. Shown c.args.self.now.works.model (set c.loop-port.room c.loop-port.port z) (c.loop-port.port + 1)) (sym (to_z-of_z w128 c.in-Ok.value (search rules)))
    (shown_more c.args.self.now.works.setup c.args.self.now.works.model c.loop-port.room c.loop-port.port c.in-Ok.value c.args.self.now.works.made
    (omega (arith, c.loop-port-test.true, e)) (sym c.in-Ok.is ∙ c.output.ensures.value) c.loop-port.invariant)

pub returns : goal.returns
returns g c =
    let e : length c.as_slice-count.result.now ≡ length c.args.self.now.works.setup.desc.outputs = ap length c.as_slice-count.ensures in
    shown_all c.args.self.now.works.setup c.args.self.now.works.model c.loop-port.room (length c.as_slice-count.result.now) c.args.self.now.works.made
    e (subst (λ k. Shown c.args.self.now.works.model c.loop-port.room k) (omega (arith, c.loop-port-test.false, c.loop-port.auto.port-end)) c.loop-port.invariant)
