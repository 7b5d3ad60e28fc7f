-- How a slave goes on with its row events.
use Rattle.std.specs.Prelude.{◌≡◌, ℕ, false, ◌⊎◌, None, List, [], ◌∷◌}
use Rattle.dcp_ends.specs.declared.entries.LogEntry.{LogEntry}
use Rattle.log_spec.specs.Log.{Parties, DecidedRequest}
use Rattle.log_spec.specs.Moves.{Move, Asks, Comes, Tells, Hears, Brings, Turns, Rests, Other, move}
use Rattle.lockstep_laws.specs.Slaves.{Desk, SlaveMay}
use Rattle.lockstep_laws.specs.Steps.{Bench, Idles, TakesOn, HasTurn, told_of}

-- by what it took: nothing, or the newest exchange
abbrev pub Works : Move → (es es' : List DecidedRequest) → Bench → Bench → Type 0
Works (Asks n) es es' b c = c ≡ b
Works (Comes from receiver n) es es' b c = ((es' ≡ es) × Idles b c) ⊎ ((x : DecidedRequest) × (es' ≡ x ∷ es) × TakesOn (told_of x) b c)
Works (Tells to bytes) es es' b c = c ≡ b
Works (Hears n) es es' b c = c ≡ b
Works (Brings from id n) es es' b c = Idles b c
Works Turns es es' b c = HasTurn b c
Works Rests es es' b c = Idles b c
Works Other es es' b c = c ≡ b

pub record Performs (w : Parties) (s : ℕ) (desk : List LogEntry → Desk) (bench : List LogEntry → Bench) : Type 0 where
  pub begins : bench [] ≡ record { events = 0; busy = None; faulty = false; resets = 0; steps = 0 }
  pub goes : (e : LogEntry) (log : List LogEntry) → SlaveMay (move w s e) (desk log).owed → Works (move w s e) (desk log).served (desk (e ∷ log)).served (bench log) (bench (e ∷ log))
