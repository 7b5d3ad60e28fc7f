use Rattle.std.proofs.Common.{ℕ, suc, ◌≡◌, ◌+◌, ◌∷◌, ◌++◌, [], List, length, take, ap, sym, ◌∙◌, arith}
use Rattle.std.proofs.lemmas.List.{take_all}
use Rattle.dcp_ends.specs.Events.{Send}
use Rattle.slave_spec.specs.Changes.{output, ids}
use Rattle.slave_device.specs.Sending.{data_sends}
use Rattle.slave_device.proofs.Sent.{next_of, data_sends-append}
use Rattle.slave_device.proofs.sending.send_values.Goals as goal

pub loop-target-init : goal.loop-target-init
loop-target-init g c = (omega (arith, ap length c.requires), λ d x h fit. c.requires)

pub loop-target-preserved : goal.loop-target-preserved
loop-target-preserved g c = (
  omega (arith, c.send_one.ensures.few, c.loop-target.invariant.0),
  λ d x h fit.
      let all : List ℕ = ids output x.changes in
      let sends : List ℕ → List Send = data_sends d x.changes c.args.steps c.args.values.now in
      let e : c.targets-target-end.result ≡ length all = c.targets-target-end.ensures.ids d x h in
      let n = next_of all c.loop-target.target (omega (arith, c.loop-target-test.true, e)) in
      let one : suc c.loop-target.target ≡ c.loop-target.target + 1 = omega arith in
      c.send_one.ensures.out d x h n.0 n.1.at fit
      ∙ ap (λ (l : List Send). l ++ sends (n.0 ∷ [])) (c.loop-target.invariant.1 d x h fit)
      ∙ sym (data_sends-append d x.changes c.args.steps c.args.values.now (take c.loop-target.target all) (n.0 ∷ []))
      ∙ ap sends (sym n.1.taken)
      ∙ ap (λ (k : ℕ). sends (take k all)) one,
)

pub returns-clause-out : goal.returns-clause-out
returns-clause-out g c = λ d x h fit.
    let all : List ℕ = ids output x.changes in
    let sends : List ℕ → List Send = data_sends d x.changes c.args.steps c.args.values.now in
    let e : c.targets-target-end.result ≡ length all = c.targets-target-end.ensures.ids d x h in
    c.loop-target.invariant.1 d x h fit ∙ ap sends (take_all c.loop-target.target all (omega (arith, c.loop-target-test.false, e)))
