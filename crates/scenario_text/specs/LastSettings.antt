-- What is kept beside the links, so that judging a line does not go through all lines before it.
use Rattle.std.specs.Prelude.{◌≡◌, ℕ, ℤ, Bool, ◌==◌, ◌&&◌, nat_lt, List, map}
use Rattle.std.specs.List.{list_any}
use Rattle.scenario.specs.Settings.{changed, setting_in}
use Rattle.scenario.specs.declared.scenarios.Setting.{Setting}
use Rattle.scenario.specs.declared.scenarios.Rerun.{Rerun}
use Rattle.scenario_text.specs.declared.collected.Links.{Links}

-- two settings are of one parameter
abbrev pub same_parameter : Setting → Setting → Bool
same_parameter x y = (x.slave == y.slave) && (x.index == y.index)

-- settings come to the same: each slave has the same parameters after them, whatever it had before
abbrev pub SameSettings : List Setting → List Setting → Type 0
SameSettings xs ys = (ps : List ℤ) (s : ℕ) → changed ps s xs ≡ changed ps s ys

-- a run comes before one of these where it comes before this one
abbrev pub IsLastRun : ℕ → List Rerun → Type 0
IsLastRun last reruns = (run : ℕ) → list_any (λ r. nat_lt run r.run) reruns ≡ nat_lt run last

-- what is kept: what the settings before the first run come to, and those before later runs, and the last of these runs
pub record IsKept (links : Links) (settings reruns : List Setting) (run : ℕ) : Type 0 where
  pub first : SameSettings settings links.settings
  pub later : SameSettings reruns (map setting_in links.reruns)
  pub last : IsLastRun run links.reruns
