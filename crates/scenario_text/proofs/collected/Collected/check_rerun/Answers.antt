use Rattle.scenario_text.proofs.LastSettings.{rerun_early, rerun_late}
use Rattle.scenario_text.proofs.collected.Collected.check_rerun.Goals as goal

pub returns-then-rerun-self : goal.returns-then-rerun-self
returns-then-rerun-self c = rerun_early c.args.slaves.now c.self.inside.links c.args.self.now c.self.view_is c.self.inside.last_run c.self.invariant.last c.args.rerun c.if-rerun-self.true

pub returns : goal.returns
returns c =
    rerun_late c.args.slaves.now c.self.inside.links c.args.self.now c.self.view_is c.self.inside.last_run c.self.invariant.last c.args.rerun c.if-rerun-self.false
    c.setting.result c.setting.ensures c.check_change.result c.check_change.ensures
