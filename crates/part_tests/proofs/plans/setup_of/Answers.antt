use Rattle.std.proofs.Common.{◌≤◌, List, length, sym, ap, subst, arith}
use Rattle.slave_desc.specs.declared.descriptions.SlaveDesc.{SlaveDesc}
use Rattle.master_spec.specs.Plans.{PlanOf}
use Rattle.master_core.proofs.Copies.{setups_length}
use Rattle.part_tests.proofs.plans.setup_of.Goals as goal

pub setup-requires : goal.setup-requires
setup-requires c =
    let sc = c.args.scenario.now in
    let n = ap (λ (ds : List SlaveDesc). length ds) c.as_slice.ensures.items in
    subst (λ (p : PlanOf). (1 ≤ c.args.slave) × (c.args.slave ≤ length p.setups)) (sym c.requires)
    (c.if-slave-ge1.true, omega (arith, c.if-from-as_slice.true, c.from.ensures, n, setups_length sc 1 sc.slaves))
