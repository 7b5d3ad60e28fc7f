-- What a plan holds: the setup list of each slave, the lists after each run but the last, and the data ids.
use Rattle.std.specs.Prelude.{ℕ, ◌+◌, ◌-◌, List, [], ◌∷◌, map, length}
use Rattle.std.specs.List.{range_with_len}
use Rattle.pdu_layout.specs.declared.messages.Cfg.{Cfg}
use Rattle.slave_desc.specs.declared.descriptions.SlaveDesc.{SlaveDesc}
use Rattle.scenario.specs.declared.scenarios.Scenario.{Scenario}
use Rattle.master_spec.specs.declared.links.DataLink.{DataLink}
use Rattle.master_spec.specs.Links.{links}
use Rattle.master_spec.specs.PlanSetup.{setup_list, adjust_list}

pub record PlanOf : Type 0 where
  pub setups : List (List Cfg)
  pub adjusts : List (List (List Cfg))
  pub links : List DataLink

abbrev pub setups_from : Scenario → (s : ℕ) → List SlaveDesc → List (List Cfg)
setups_from sc s [] = []
setups_from sc s (d ∷ ds) = setup_list sc s d ∷ setups_from sc (s + 1) ds

abbrev pub adjusts_after : Scenario → (r : ℕ) → List (List Cfg)
adjusts_after sc r = map (adjust_list sc r) (range_with_len 1 (length sc.slaves))

abbrev pub plan_of : Scenario → PlanOf
plan_of sc = record {
  setups = setups_from sc 1 sc.slaves;
  adjusts = map (adjusts_after sc) (range_with_len 1 (sc.runs - 1));
  links = links sc;
}
