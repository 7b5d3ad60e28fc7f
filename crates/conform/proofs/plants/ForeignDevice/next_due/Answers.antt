use Rattle.std.proofs.Common.{◌≡◌, ℕ, suc, ◌+◌, ◌<◌, true, false, ◌∷◌, length, sym, ap, ◌∙◌, arith, rules}
use Rattle.slave_spec.specs.Changes.{output, ids}
use Rattle.conform.specs.Sending.{goes_out, ids_from}
use Rattle.conform.proofs.Sampling.{passed_by, stopped_at, id_at}
use Rattle.conform.proofs.plants.ForeignDevice.next_due.Goals as goal

pub returns-then-goes_out-clause-next : goal.returns-then-goes_out-clause-next
returns-then-goes_out-clause-next c = λ d p h e.
    let i = c.ids.invariant d p h e in
    let lt : c.ids.target < length (ids output p.wires.changes) = omega (arith, i.1) in
    let k = id_at (ids output p.wires.changes) c.ids.target lt in
    let r : c.goes_out.result ≡ true = search rules in
    let g : goes_out p.wires.changes p.steps k.0 ≡ true = sym (c.goes_out.ensures d p h e k.0 k.1) ∙ r in
    let one : suc c.ids.target ≡ c.ids.target + 1 = omega arith in
    record {
      id = k.0;
      here = k.1;
      goes = g;
      first = i.0 ∙ stopped_at p.wires.changes p.steps c.ids.target (ids output p.wires.changes) k.0 k.1 g ∙ ap (λ (n : ℕ). k.0 ∷ ids_from n p.wires.changes p.steps) one;
    }

pub ids-preserved : goal.ids-preserved
ids-preserved c = λ d p h e.
    let i = c.ids.invariant d p h e in
    let lt : c.ids.target < length (ids output p.wires.changes) = omega (arith, i.1) in
    let k = id_at (ids output p.wires.changes) c.ids.target lt in
    let r : c.goes_out.result ≡ false = search rules in
    let g : goes_out p.wires.changes p.steps k.0 ≡ false = sym (c.goes_out.ensures d p h e k.0 k.1) ∙ r in
    let one : suc c.ids.target ≡ c.ids.target + 1 = omega arith in
    (i.0 ∙ passed_by p.wires.changes p.steps c.ids.target (ids output p.wires.changes) k.0 k.1 g ∙ ap (λ (n : ℕ). ids_from n p.wires.changes p.steps) one, i.1)
