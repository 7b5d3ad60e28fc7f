use Rattle.std.proofs.Common.{◌≤◌, ◌-◌, [], List, length, get_or, sym, ap, subst, arith}
use Rattle.slave_desc.specs.declared.descriptions.SlaveDesc.{SlaveDesc}
use Rattle.master_spec.specs.Plans.{PlanOf}
use Rattle.master_core.proofs.Copies.{adjusts_length, adjust_lists_length}
use Rattle.part_tests.proofs.plans.adjust_of.Goals as goal

pub adjust-requires-clause-run : goal.adjust-requires-clause-run
adjust-requires-clause-run c =
    subst (λ (p : PlanOf). (1 ≤ c.args.run) × (c.args.run ≤ length p.adjusts)) (sym c.requires)
    (c.if-run-ge1.true, omega (arith, c.if-run-scenario.true, adjusts_length c.args.scenario.now))

pub adjust-requires-clause-slave : goal.adjust-requires-clause-slave
adjust-requires-clause-slave c =
    let n = ap (λ (ds : List SlaveDesc). length ds) c.as_slice.ensures.items in
    let e = adjust_lists_length c.args.scenario.now c.args.run c.if-run-ge1.true c.if-run-scenario.true in
    subst (λ (p : PlanOf). (1 ≤ c.args.slave) × (c.args.slave ≤ length (get_or p.adjusts (c.args.run - 1) []))) (sym c.requires)
    (c.if-slave-ge1.true, omega (arith, c.if-from-as_slice.true, c.from.ensures, n, e))
