-- The parameters of a run, setting by setting.
use Rattle.std.proofs.Common.{◌≡◌, ℕ, List, [], ◌∷◌, ◌++◌, map, refl, ℤ}
use Rattle.std.specs.Prelude.{filter, nat_le}
use Rattle.scenario.specs.declared.scenarios.Setting.{Setting}
use Rattle.scenario.specs.declared.scenarios.Rerun.{Rerun}
use Rattle.scenario.specs.Settings.{changed, changed_by, setting_in}

-- settings, and settings after them
pub changed-append : (ps : List ℤ) (s : ℕ) (xs ys : List Setting) → changed ps s (xs ++ ys) ≡ changed (changed ps s xs) s ys
changed-append ps s [] ys = refl
changed-append ps s (x ∷ xs) ys = changed-append (changed_by ps s x) s xs ys

-- the settings of the runs up to run r
abbrev pub due : ℕ → List Rerun → List Setting
due r xs = map setting_in (filter (λ x. nat_le x.run r) xs)
