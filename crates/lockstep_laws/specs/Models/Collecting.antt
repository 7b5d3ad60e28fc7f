-- What the master keeps of the rows.
use Rattle.std.specs.Prelude.{◌≡◌, ℕ, ◌+◌, ◌*◌, ◌%◌, ◌≤◌, Bool, true, ◌⊎◌, Ok, List, [], ◌∷◌, ◌++◌, length, ℤ}
use Rattle.slave_desc.specs.declared.descriptions.SlaveDesc.{SlaveDesc}
use Rattle.lockstep.specs.Lockstep.{shown}
use Rattle.log_spec.specs.Messages.{Note, Value}
use Rattle.dcp_ends.specs.declared.entries.LogEntry.{LogEntry}
use Rattle.dcp_ends.specs.declared.entries.LogEntry.TheVariants.{Got}
use Rattle.log_spec.specs.Log.{Parties, IsSlaveOf, role_heard}
use Rattle.log_spec.specs.Moves.{decided_exchanges}
use Rattle.lockstep_laws.specs.Steps.{view}
use Rattle.lockstep_laws.specs.Cast.{ConversingSlaves}
use Rattle.lockstep_laws.specs.Models.Machines.{Machines, carried}

pub record Collector : Type 0 where
  -- the rows so far, and whether the run was finished
  pub rows : List LogEntry → List (List ℤ)
  pub finished : List LogEntry → Bool
  -- of each slave: the data id under which it shows all its outputs to the master, and what the bytes of these say
  pub watch : ℕ → ℕ
  pub back : ℕ → List ℕ → List ℤ

-- The master got this watch message of slave s, with the number of row p, while all slaves showed that row.
pub record Watched (w : Parties) (c : Collector) (p s : ℕ) (log : List LogEntry) (n : Note) : Type 0 where
  pub later : List LogEntry
  pub earlier : List LogEntry
  pub bytes : List ℕ
  pub is : log ≡ later ++ Got w.master (w.slave s) bytes ∷ earlier
  pub read : role_heard w bytes ≡ Value (c.watch s) n
  pub number : n.number ≡ p % 65536
  pub begun : 2 * p ≤ (view (decided_exchanges w s earlier)).done
  pub awaited : (view (decided_exchanges w s earlier)).done ≤ 2 * p + 1

-- the parts of a row, by slave
abbrev pub row_by : (ℕ → List ℤ) → ℕ → List SlaveDesc → List ℤ
row_by part s [] = []
row_by part s (d ∷ ds) = part s ++ row_by part (s + 1) ds

pub record NextRow (w : Parties) (m : Machines) (c : Collector) (e : LogEntry) (log : List LogEntry) : Type 0 where
  pub notes : ℕ → Note
  pub watched : (s : ℕ) → IsSlaveOf w s → Watched w c (length (c.rows log)) s (e ∷ log) (notes s)
  pub is : c.rows (e ∷ log) ≡ c.rows log ++ row_by (λ s. c.back s (carried (notes s))) 1 m.sc.slaves ∷ []

-- how the rows are collected at each moment of this log
pub record Collects (w : Parties) (x : ConversingSlaves) (m : Machines) (c : Collector) (whole : List LogEntry) : Type 0 where
  pub begins : c.rows [] ≡ []
  pub goes : (later log : List LogEntry) (e : LogEntry) → whole ≡ later ++ e ∷ log → (c.rows (e ∷ log) ≡ c.rows log) ⊎ NextRow w m c e log
  -- the run is finished with a row for the first outputs of each run and for each of its steps
  pub all : (later log : List LogEntry) → whole ≡ later ++ log → c.finished log ≡ true → length (c.rows log) ≡ x.runs * (x.steps + 1)
  pub each : (s : ℕ) → IsSlaveOf w s → m.q (c.watch s) ≡ 1
  pub own : (s : ℕ) → IsSlaveOf w s → m.from (c.watch s) ≡ s
  -- what is sent is read back
  pub back : (s : ℕ) → IsSlaveOf w s → (rows : List (List ℤ)) (r k : ℕ) (vs : List ℤ) → shown m.sc rows s (m.desc s) r k ≡ Ok vs → c.back s (m.payload (c.watch s) vs) ≡ vs
