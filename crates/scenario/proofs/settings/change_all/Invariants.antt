use Rattle.std.proofs.Common.{◌≡◌, drop}
use Rattle.scenario.specs.Settings.{changed}
use Rattle.scenario.proofs.settings.change_all.Given as goal

abbrev pub invariant-loop-setting : goal.invariant-loop-setting
invariant-loop-setting l = changed l.parameters l.slave (drop l.setting-index l.settings) ≡ changed l.fn.parameters l.slave l.settings
