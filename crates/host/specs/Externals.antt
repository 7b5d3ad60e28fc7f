-- The hosted slaves whose models are not this program's, so that they cannot run here.
use Rattle.std.specs.Prelude.{ℕ, ◌+◌, ◌&&◌, List, [], ◌∷◌, Option, Some, None, if◌then◌else◌}
use Rattle.fixed_models.specs.Kinds.{is_external}
use Rattle.slave_desc.specs.declared.descriptions.SlaveDesc.{SlaveDesc}
use Rattle.scenario.specs.declared.scenarios.Scenario.{Scenario}
use Rattle.host.specs.declared.hosted.Hosted.{Hosted}
use Rattle.host.specs.Hosting.{is_hosted}

-- the first of these slaves, which are numbered from s, that is hosted and whose model is not here
abbrev pub external_from : Hosted → (s : ℕ) → List SlaveDesc → Option ℕ
external_from hosted s [] = None
external_from hosted s (d ∷ ds) = if is_hosted hosted s && is_external d.kind then Some s else external_from hosted (s + 1) ds

abbrev pub external_in : Scenario → Hosted → Option ℕ
external_in sc hosted = external_from hosted 1 sc.slaves
