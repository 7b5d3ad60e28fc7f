-- What the result of a read or a write of the standard library means.
use Rattle.std.specs.Prelude.{◌≡◌, ◌≢◌, ℕ, ◌≤◌, Result, Ok, Err}
use Rattle.std.specs.IoError.{error_kind}
use Rattle.std.specs.declared.io.Error.{Error}
use Rattle.std.specs.declared.io.ErrorKind.TheVariants.{Interrupted}
use Rattle.dcp_io.specs.declared.turns.Turn.{Turn}
use Rattle.dcp_io.specs.declared.turns.Turn.TheVariants.{Moved, Nothing, Again, Failed}

-- each turn stands for these results and no others
abbrev pub Means : Turn → Result ℕ Error → Type 0
Means (Moved n) called = (called ≡ Ok n) × (1 ≤ n)
Means Nothing called = called ≡ Ok 0
Means Again called = (e : Error) × (called ≡ Err e) × (error_kind e ≡ Interrupted)
Means Failed called = (e : Error) × (called ≡ Err e) × (error_kind e ≢ Interrupted)
