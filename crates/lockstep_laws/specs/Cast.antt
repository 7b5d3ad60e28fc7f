-- Whom the laws speak of: any slaves that converse and perform row events, and what may be asked of them.
use Rattle.std.specs.Prelude.{ℕ, Bool, List}
use Rattle.log_spec.specs.Messages.{Note}
use Rattle.dcp_ends.specs.declared.entries.LogEntry.{LogEntry}
use Rattle.log_spec.specs.Log.{DecidedRequest}
use Rattle.lockstep_laws.specs.Slaves.{Desk}
use Rattle.lockstep_laws.specs.Steps.{Bench}

pub record ConversingSlaves : Type 0 where
  -- how many steps a run has, and how many runs there are
  pub steps : ℕ
  pub runs : ℕ
  -- of each slave: which register it accepts, and which request may be asked of it after which exchanges, the newest first
  pub accepts : ℕ → Note → Bool
  pub may : ℕ → List DecidedRequest → Note → Bool
  -- whether these exchanges tell that it is set up for a run, and has outputs to show
  pub opened : ℕ → (run : ℕ) → List DecidedRequest → Bool
  -- how it stands after a log
  pub desk : ℕ → List LogEntry → Desk
  pub bench : ℕ → List LogEntry → Bench
