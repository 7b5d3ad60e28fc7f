use Rattle.std.proofs.Common.{◌≡◌, ◌≤◌, ℕ, List, length, ap, subst, ◌∙◌, arith}
use Rattle.slave_desc.specs.declared.descriptions.SlaveDesc.{SlaveDesc}
use Rattle.conform.specs.Standing.{HasData}
use Rattle.conform.proofs.Parcels.{no_data}
use Rattle.conform.proofs.followers.Follower.await_data.Goals as goal

pub returns-in-Some : goal.returns-in-Some
returns-in-Some c = λ d x y event gone s sound h o data'.
    let k : length c.args.self.now.desc.now.outputs ≡ length d.outputs = ap (λ (k : SlaveDesc). length k.outputs) h.desc in
    let few : length c.args.self.now.desc.now.outputs ≤ 8 = omega (arith, sound.few_outputs, k) in
    let e : c.outputs-outputs.result ≡ length d.outputs = c.outputs-outputs.ensures.same few ∙ k in
    let n = c.in-Some.ensures.next d y.inner h.inner e in (
      s,
      y,
      n.id,
      record { desc = h.desc; session = h.session; number = h.number; newest = h.newest; quiet = h.quiet; inner = h.inner },
      o,
      n.here,
      n.goes,
      subst (λ (l : List ℕ). HasData d x event gone l s y) n.first data',
    )

pub returns-in-None : goal.returns-in-None
returns-in-None c = λ d x y event gone s sound h o data'.
    let k : length c.args.self.now.desc.now.outputs ≡ length d.outputs = ap (λ (k : SlaveDesc). length k.outputs) h.desc in
    let few : length c.args.self.now.desc.now.outputs ≤ 8 = omega (arith, sound.few_outputs, k) in
    let e : c.outputs-outputs.result ≡ length d.outputs = c.outputs-outputs.ensures.same few ∙ k in
    let n = c.in-None.ensures.next d y.inner h.inner e in (
      s,
      y,
      record { desc = h.desc; session = h.session; number = h.number; newest = h.newest; quiet = h.quiet; inner = h.inner },
      o,
      no_data d x event gone s y (subst (λ (l : List ℕ). HasData d x event gone l s y) n data'),
    )
