use Rattle.std.proofs.Common.{◌≡◌, Option, ap, ◌∙◌, subst, rules}
use Rattle.std.specs.Option.{option_map}
use Rattle.desc_text.specs.Machine.{longer}
use Rattle.scenario.specs.Settings.{setting_in}
use Rattle.scenario_text.specs.LastSettings.{SameSettings, IsLastRun}
use Rattle.scenario.specs.declared.scenarios.Setting.{Setting}
use Rattle.scenario.specs.declared.scenarios.Rerun.{Rerun}
use Rattle.scenario_text.proofs.LastSettings.{kept_with}
use Rattle.scenario_text.proofs.collected.Collected.with.Goals as goal

pub invariant_of-result : goal.invariant_of-result
invariant_of-result c =
    let again : c.map.result ≡ option_map setting_in c.rerun_said-rerun.result = search rules in
    kept_with c.self.inside.links c.put.new.self c.args.link c.self.inside.first c.self.inside.later c.put_if.new.latest c.put_if-2.new.latest c.self.inside.last_run c.last_run_with-last_run.result c.self.invariant c.in_ok-put.ensures
    (subst (λ (o : Option Setting). SameSettings c.put_if.new.latest (longer c.self.inside.first o)) c.set_said.ensures c.in_ok-put_if.ensures)
    (subst (λ (o : Option Setting). SameSettings c.put_if-2.new.latest (longer c.self.inside.later o)) (again ∙ ap (λ (o : Option Rerun). option_map setting_in o) c.rerun_said-rerun.ensures) c.in_ok-put_if-2.ensures)
    (subst (λ (o : Option Rerun). IsLastRun c.last_run_with-last_run.result (longer c.self.inside.links.reruns o)) c.rerun_said-rerun.ensures (c.last_run_with-last_run.ensures c.self.inside.links.reruns c.self.invariant.last))
