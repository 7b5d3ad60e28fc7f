-- Where all ends are hosted and have models here, each slave has one.
use Rattle.std.proofs.Common.{◌≡◌, subst, arith}
use Rattle.scenario.specs.declared.scenarios.Scenario.{Scenario}
use Rattle.scenario.specs.Sound.{IsScenario, HaveModels}
use Rattle.host.specs.Hosting.{all_ends, hosted_slaves}
use Rattle.commands.proofs.InStep.{all_hosted}

pub all_models : (sc : Scenario) → IsScenario sc → HaveModels (hosted_slaves sc all_ends) → HaveModels sc.slaves
all_models sc sound models = let few = sound.few_slaves in subst (λ ds. HaveModels ds) (all_hosted sc.slaves 0 (omega (arith, few.1))) models
