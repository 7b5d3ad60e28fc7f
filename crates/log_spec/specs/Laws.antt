-- What holds of the definitions of the log.
use Rattle.std.specs.Prelude.{List, reverse}
use Rattle.dcp_ends.specs.declared.entries.LogEntry.{LogEntry}
use Rattle.log_spec.specs.Log.{Parties}
use Rattle.log_spec.specs.Honest.{HonestNewest}
use Rattle.log_spec.specs.Oldest.{Honest}

-- honest in one order is honest in the other
abbrev pub ReadEitherWay : Type 0
ReadEitherWay = (w : Parties) (log : List LogEntry) → Honest w log → HonestNewest w (reverse log)
