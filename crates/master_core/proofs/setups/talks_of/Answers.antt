use Rattle.std.proofs.Common.{◌∙◌, List, map, ap, arith, subst, sym}
use Rattle.std.specs.Prelude.{All}
use Rattle.std.proofs.lemmas.List.{map_push}
use Rattle.std.proofs.lemmas.List.Elements.{All-push}
use Rattle.slave_desc.specs.declared.descriptions.SlaveDesc.{SlaveDesc}
use Rattle.master_spec.specs.Setup.{slave_of}
use Rattle.master_core.specs.declared.records.Talk.{Talk}
use Rattle.master_core.specs.Talking.{slave_talked_to, IsFreshTalk}
use Rattle.master_core.proofs.Copies.{slaves_step}
use Rattle.master_core.proofs.setups.talks_of.Goals as goal

pub loop-desc-preserved : goal.loop-desc-preserved
loop-desc-preserved c = record {
  place = omega (arith, c.loop-desc.invariant.place);
  slaves = slaves_step c.args.scenario.now 1 _ c.loop-desc.desc-index c.loop-desc.id c.desc-item.result (map slave_talked_to c.loop-desc.talks.items) _ c.new.result.slave c.loop-desc-test.true c.loop-desc.invariant.place c.loop-desc.invariant.slaves
      (ap (map slave_talked_to) c.in_ok-push.ensures.items ∙ map_push slave_talked_to c.loop-desc.talks.items c.new.result) (c.new.ensures.slave ∙ c.in_ok-slave.ensures ∙ ap (λ (x : SlaveDesc). slave_of c.args.scenario.now c.loop-desc.id x) c.desc-item.is);
  fresh = subst (λ (xs : List Talk). All (λ t. IsFreshTalk c.args.scenario.now.limits t) xs) (sym c.in_ok-push.ensures.items) (All-push (λ t. IsFreshTalk c.args.scenario.now.limits t) c.loop-desc.talks.items c.new.result c.loop-desc.invariant.fresh c.new.ensures.fresh);
}
