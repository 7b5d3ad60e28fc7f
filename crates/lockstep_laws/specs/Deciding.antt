-- The deciding answer of a request, read off the log.
use Rattle.std.specs.Prelude.{◌≡◌, ℕ, ◌+◌, ◌%◌, List, ◌∷◌, ◌++◌, length}
use Rattle.log_spec.specs.Messages.{Note, Answer}
use Rattle.dcp_ends.specs.declared.entries.LogEntry.{LogEntry}
use Rattle.dcp_ends.specs.declared.entries.LogEntry.TheVariants.{Got}
use Rattle.log_spec.specs.Log.{Parties, role_heard, requests_sent}

-- an answer of s with the number of the request with ordinal o comes after the first send of that and before the next request
pub record IsHeard (w : Parties) (s o : ℕ) (a : Note) (log : List LogEntry) : Type 0 where
  pub later : List LogEntry
  pub earlier : List LogEntry
  pub bytes : List ℕ
  pub is : log ≡ later ++ Got w.master (w.slave s) bytes ∷ earlier
  pub read : role_heard w bytes ≡ Answer s a
  pub asked : length (requests_sent w s earlier) ≡ o + 1
  pub number : a.number ≡ o % 65536

-- the first of these
pub record IsDeciding (w : Parties) (s o : ℕ) (a : Note) (log : List LogEntry) : Type 0 where
  pub heard : IsHeard w s o a log
  pub first : (b : Note) → IsHeard w s o b heard.earlier → ⊥
