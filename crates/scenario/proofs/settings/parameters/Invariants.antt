use Rattle.std.proofs.Common.{◌≡◌, drop}
use Rattle.scenario.specs.Settings.{changed, parameters}
use Rattle.scenario.proofs.Changes.{due}
use Rattle.scenario.proofs.settings.parameters.Given as goal

abbrev pub invariant-loop-rerun : goal.invariant-loop-rerun
invariant-loop-rerun l = changed l.parameters.items l.slave (due l.run (drop l.rerun-index l.scenario.reruns)) ≡ parameters l.scenario l.slave l.desc l.run
