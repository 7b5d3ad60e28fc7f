use Rattle.std.proofs.Common.{◌≡◌, ◌≤◌, length, ap, ◌∙◌, arith}
use Rattle.dcp_ends.specs.Events.{Send}
use Rattle.slave_desc.specs.declared.descriptions.SlaveDesc.{SlaveDesc}
use Rattle.conform.proofs.Parcels.{goes_target, parcel_came, parcel_not}
use Rattle.conform.proofs.followers.Follower.on_parcel.Goals as goal

pub returns-then-not-is_data : goal.returns-then-not-is_data
returns-then-not-is_data c = λ d x y event gone s id sound h o at goes data'.
    let k : length c.args.self.now.desc.now.outputs ≡ length d.outputs = ap (λ (k : SlaveDesc). length k.outputs) h.desc in
    let few : length c.args.self.now.desc.now.outputs ≤ 8 = omega (arith, sound.few_outputs, k) in
    let e : c.outputs-outputs.result ≡ length d.outputs = c.outputs-outputs.ensures.same few ∙ k in
    let t : Send = record { to = c.args.to; bytes = c.args.bytes.now } in
    let g = goes_target y.inner.wires.changes y.inner.steps id goes in
    parcel_not d x event gone s y id _ g.0 g.1 t data' (c.if-not-is_data.ensures d y.inner h.inner e id at g.0 g.1)

pub returns : goal.returns
returns c = λ d x y event gone s id sound h o at goes data'.
    let k : length c.args.self.now.desc.now.outputs ≡ length d.outputs = ap (λ (k : SlaveDesc). length k.outputs) h.desc in
    let few : length c.args.self.now.desc.now.outputs ≤ 8 = omega (arith, sound.few_outputs, k) in
    let e : c.outputs-outputs.result ≡ length d.outputs = c.outputs-outputs.ensures.same few ∙ k in
    let t : Send = record { to = c.args.to; bytes = c.args.bytes.now } in
    let g = goes_target y.inner.wires.changes y.inner.steps id goes in
    c.await_data.ensures d x y event _ s sound h o (parcel_came d x event gone s y id _ g.0 g.1 t data' (c.if-not-is_data.ensures d y.inner h.inner e id at g.0 g.1))
