-- Settings of parameters, and the parameters of a slave's model in a run.
use Rattle.std.specs.Prelude.{ℕ, ℤ, Bool, false, ◌==◌, ◌&&◌, nat_lt, nat_le, List, [], ◌∷◌, ◌++◌, length, map, filter, if◌then◌else◌, Option, Some, None, slice_set}
use Rattle.fixed_models.specs.Kinds.{takes}
use Rattle.slave_desc.specs.declared.descriptions.SlaveDesc.{SlaveDesc}
use Rattle.scenario.specs.Lookups.{slave_at}
use Rattle.scenario.specs.declared.scenarios.Setting.{Setting}
use Rattle.scenario.specs.declared.scenarios.Rerun.{Rerun}
use Rattle.scenario.specs.declared.scenarios.Scenario.{Scenario}

-- the parameters of slave s after a setting, which may be another slave's
abbrev pub changed_by : List ℤ → (s : ℕ) → Setting → List ℤ
changed_by ps s x = if (x.slave == s) && nat_lt x.index (length ps) then slice_set ps x.index x.value else ps

-- and after settings in order
abbrev pub changed : List ℤ → (s : ℕ) → List Setting → List ℤ
changed ps s [] = ps
changed ps s (x ∷ xs) = changed (changed_by ps s x) s xs

-- what a setting before a later run sets
abbrev pub setting_in : Rerun → Setting
setting_in r = record { slave = r.slave; index = r.index; value = r.value }

-- what is set before run r and the runs before it, in order
abbrev pub settings_until : Scenario → (r : ℕ) → List Setting
settings_until sc r = sc.settings ++ map setting_in (filter (λ x. nat_le x.run r) sc.reruns)

-- the parameters of slave s in run r
abbrev pub parameters : Scenario → (s : ℕ) → SlaveDesc → (r : ℕ) → List ℤ
parameters sc s d r = changed d.parameters s (settings_until sc r)

-- whether a slave's kind takes these parameters
abbrev pub taken_by : Option SlaveDesc → List ℤ → Bool
taken_by None ps = false
taken_by (Some d) ps = takes d.kind ps

abbrev pub takes_at : List SlaveDesc → (s : ℕ) → List ℤ → Bool
takes_at slaves s ps = taken_by (slave_at slaves s) ps
