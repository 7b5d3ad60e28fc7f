-- The lags of a message as the code has them.
use Rattle.std.specs.Prelude.{ℕ, List, ◌++◌}
use Rattle.std.specs.Option.{option_to_list}
use Rattle.net_world.specs.declared.chances.Lags.{Lags}

abbrev pub lags_in : Lags → List ℕ
lags_in lags = option_to_list lags.first ++ option_to_list lags.second
