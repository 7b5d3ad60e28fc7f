-- What slaves do with data and with their models, when they are asked in order.
use Rattle.std.specs.Prelude.{◌≡◌, ℕ, ◌+◌, ◌-◌, ◌*◌, ◌/◌, ◌%◌, ◌<◌, ◌≤◌, Bool, true, ◌⊎◌, Option, Some, None, Ok, List, [], ◌∷◌, map, length, slice_get, ℤ}
use Rattle.std.specs.List.{filter_map}
use Rattle.fixed_models.specs.Steps.{start, model_step}
use Rattle.slave_desc.specs.declared.descriptions.SlaveDesc.{SlaveDesc}
use Rattle.scenario.specs.declared.scenarios.Scenario.{Scenario}
use Rattle.scenario.specs.Settings.{parameters}
use Rattle.lockstep.specs.Lockstep.{inputs, shown, shown_at, EachRow}
use Rattle.pdu_layout.specs.Fields.FieldValue.{Bytes}
use Rattle.pdu_layout.specs.Fields.{FieldValue}
use Rattle.log_spec.specs.Messages.{Note, value_of_id}
use Rattle.dcp_ends.specs.declared.entries.LogEntry.{LogEntry}
use Rattle.log_spec.specs.Log.{Parties, IsSlaveOf, role_heard, DecidedRequest}
use Rattle.log_spec.specs.Moves.{Move, Asks, Comes, Tells, Hears, Brings, Turns, Rests, Other, move}
use Rattle.lockstep_laws.specs.Slaves.{Post, SlaveRun}
use Rattle.lockstep_laws.specs.Steps.{Bench, Idles, BenchShows, StepsOn, BenchFails, BenchProgress, view, run_after}
use Rattle.lockstep_laws.specs.Cast.{ConversingSlaves}
use Rattle.lockstep_laws.specs.Asked.{AskedAsPlanned}
use Rattle.lockstep_laws.specs.Models.Ordinals.{ordinals_in_run, row_of_ordinal}

-- a data message that is kept, and the ordinal for which it was kept
pub record KeptNote : Type 0 where
  pub ordinal : ℕ
  pub note : Note

pub record Store : Type 0 where
  -- what is kept under each data id, and the state of the model
  pub kept : ℕ → Option KeptNote
  pub model : List ℤ

pub record Machines : Type 0 where
  pub sc : Scenario
  pub desc : ℕ → SlaveDesc
  -- of each data id: its interval, the slave that sends it, and the bytes for that slave's outputs
  pub q : ℕ → ℕ
  pub from : ℕ → ℕ
  pub payload : ℕ → List ℤ → List ℕ
  -- whether a data id brings inputs of a slave
  pub feeds : (slave id : ℕ) → Bool
  -- whether these exchanges give a slave its wiring and the parameters of a run
  pub tuned : ℕ → (run : ℕ) → List DecidedRequest → Bool
  pub store : ℕ → List LogEntry → Store

abbrev pub values_owed : Parties → ℕ → List Post → List Note
values_owed w id posts = filter_map (λ (p : Post). value_of_id id (role_heard w p.bytes)) posts

abbrev pub carried_by : List FieldValue → List ℕ
carried_by (number ∷ id ∷ Bytes bytes ∷ values) = bytes
carried_by values = []

-- the payload of a data message
abbrev pub carried : Note → List ℕ
carried n = carried_by n.message.values

-- the run in which a row stands, and its step there
abbrev pub run_at : (steps row : ℕ) → ℕ
run_at steps row = row / (steps + 1) + 1

abbrev pub step_at : (steps row : ℕ) → ℕ
step_at steps row = row % (steps + 1)

-- A data message has its ordinal as number, and carries its sender's outputs in the row of the reference that the ordinal stands for.
pub record IsRightNote (x : ConversingSlaves) (m : Machines) (rows : List (List ℤ)) (id o : ℕ) (n : Note) : Type 0 where
  pub number : n.number ≡ o % 65536
  pub exists : row_of_ordinal x.steps (m.q id) o < length rows
  pub values : List ℤ
  pub shows : shown m.sc rows (m.from id) (m.desc (m.from id)) (run_at x.steps (row_of_ordinal x.steps (m.q id) o)) (step_at x.steps (row_of_ordinal x.steps (m.q id) o)) ≡ Ok values
  pub carries : carried n ≡ m.payload id values

-- the ordinal for which a data id is sent or wanted where a slave stands
abbrev pub ordinal_here : ConversingSlaves → Machines → ℕ → Bench → ℕ
ordinal_here x m id b = b.resets * ordinals_in_run x.steps (m.q id) + b.steps / m.q id

-- what a turn that shows a row owes of a data id
pub record Emits (w : Parties) (x : ConversingSlaves) (m : Machines) (s id : ℕ) (b : Bench) (u : Store) (owed : List Post) : Type 0 where
  pub unsent : (b.steps % m.q id ≡ 0 → ⊥) → values_owed w id owed ≡ []
  pub sent : b.steps % m.q id ≡ 0 → (n : Note) × (values_owed w id owed ≡ n ∷ []) × (n.number ≡ ordinal_here x m id b % 65536)
      × ((vs : List ℤ) × (shown_at m.sc s (m.desc s) (b.resets + 1) (Ok u.model) ≡ Ok vs) × (carried n ≡ m.payload id vs))

-- a data message that comes is kept for the ordinal that is wanted, or nothing changes under its id
pub record KeepsIt (x : ConversingSlaves) (m : Machines) (id : ℕ) (n : Note) (b : Bench) (v : Store) : Type 0 where
  pub kept : v.kept id ≡ Some (record { ordinal = ordinal_here x m id b; note = n })
  pub number : n.number ≡ ordinal_here x m id b % 65536

pub record AtTurn (w : Parties) (x : ConversingSlaves) (m : Machines) (s : ℕ) (b c : Bench) (u v : Store) (owed : List Post) : Type 0 where
  pub kept : (id : ℕ) → v.kept id ≡ u.kept id
  pub quiet : Idles b c ⊎ (StepsOn b c ⊎ BenchFails b c) → (id : ℕ) → values_owed w id owed ≡ []
  pub shows : BenchShows b c → (id : ℕ) → m.from id ≡ s → Emits w x m s id b u owed

-- by the entry: what is kept, and what data is owed
abbrev pub Keeps : Parties → ConversingSlaves → Machines → ℕ → Move → (b c : Bench) → (u v : Store) → (owed : List Post) → Type 0
Keeps w x m s (Asks n) b c u v owed = v ≡ u
Keeps w x m s (Comes from receiver n) b c u v owed = ((id : ℕ) → values_owed w id owed ≡ []) × ((id : ℕ) → (v.kept id ≡ u.kept id) ⊎ (v.kept id ≡ None))
Keeps w x m s (Tells to bytes) b c u v owed = v ≡ u
Keeps w x m s (Hears n) b c u v owed = v ≡ u
Keeps w x m s (Brings from id n) b c u v owed = ((i : ℕ) → values_owed w i owed ≡ []) × ((i : ℕ) → (v.kept i ≡ u.kept i) ⊎ ((i ≡ id) × KeepsIt x m id n b v))
Keeps w x m s Turns b c u v owed = AtTurn w x m s b c u v owed
Keeps w x m s Rests b c u v owed = ((id : ℕ) → values_owed w id owed ≡ []) × ((id : ℕ) → v.kept id ≡ u.kept id)
Keeps w x m s Other b c u v owed = v ≡ u

-- the slave's sends are those that it owes, and it was asked in order
pub record IsAskedInOrder (w : Parties) (x : ConversingSlaves) (s : ℕ) (log : List LogEntry) : Type 0 where
  pub run : SlaveRun w s (x.desk s) log
  pub asked : AskedAsPlanned (x.may s) (x.desk s log).served

-- what is kept under the ids that feed a slave, at a step
abbrev pub Fed : ConversingSlaves → Machines → ℕ → Bench → Store → Type 0
Fed x m s b u = (id : ℕ) → m.feeds s id ≡ true → (k : KeptNote) × (u.kept id ≡ Some k) × (k.ordinal ≡ ordinal_here x m id b)

-- How slave s keeps data and its model, whatever the network does, as long as it is asked in order.
pub record HoldsData (w : Parties) (x : ConversingSlaves) (m : Machines) (s : ℕ) : Type 0 where
  pub begins : (id : ℕ) → (m.store s []).kept id ≡ None
  pub goes : (e : LogEntry) (log : List LogEntry) → IsAskedInOrder w x s (e ∷ log) → Keeps w x m s (move w s e) (x.bench s log) (x.bench s (e ∷ log)) (m.store s log) (m.store s (e ∷ log)) (x.desk s (e ∷ log)).owed
  -- it owes data of its own ids alone
  pub own : (log : List LogEntry) → IsAskedInOrder w x s log → (id : ℕ) → (m.from id ≡ s → ⊥) → values_owed w id (x.desk s log).owed ≡ []
  -- before the first step of a run the model is at first, with the parameters of the run where it is tuned for that
  pub fresh : (log : List LogEntry) → IsAskedInOrder w x s log → (x.bench s log).steps ≡ 0 → (ps : List ℤ) × ((m.store s log).model ≡ start (m.desc s).kind ps)
  pub tuned : (log : List LogEntry) → IsAskedInOrder w x s log → (x.bench s log).steps ≡ 0 → m.tuned s ((x.bench s log).resets + 1) (x.desk s log).served ≡ true
      → (m.store s log).model ≡ start (m.desc s).kind (parameters m.sc s (m.desc s) ((x.bench s log).resets + 1))
  -- and its outputs are in their types where it is opened
  pub first : (log : List LogEntry) → IsAskedInOrder w x s log → (x.bench s log).steps ≡ 0 → x.opened s ((x.bench s log).resets + 1) (x.desk s log).served ≡ true
      → (vs : List ℤ) × (shown_at m.sc s (m.desc s) ((x.bench s log).resets + 1) (Ok (m.store s log).model) ≡ Ok vs)
  -- a step takes what is kept under each id that feeds the slave, and else the model stays
  pub still : (e : LogEntry) (log : List LogEntry) → IsAskedInOrder w x s (e ∷ log) → 0 < (x.bench s (e ∷ log)).steps → (x.bench s (e ∷ log)).steps ≡ (x.bench s log).steps → (m.store s (e ∷ log)).model ≡ (m.store s log).model
  pub fed : (e : LogEntry) (log : List LogEntry) → IsAskedInOrder w x s (e ∷ log) → StepsOn (x.bench s log) (x.bench s (e ∷ log)) → Fed x m s (x.bench s log) (m.store s log)
  -- the rows are those of the scenario's runs alone
  pub steps : (e : LogEntry) (log : List LogEntry) → IsAskedInOrder w x s (e ∷ log) → StepsOn (x.bench s log) (x.bench s (e ∷ log)) → (rows : List (List ℤ)) → EachRow m.sc rows → length rows ≤ m.sc.runs * (m.sc.steps + 1)
      → ((id : ℕ) → m.feeds s id ≡ true → (k : KeptNote) → (m.store s log).kept id ≡ Some k → IsRightNote x m rows id k.ordinal k.note)
      → model_step (m.desc s).kind (parameters m.sc s (m.desc s) ((x.bench s log).resets + 1)) (map (λ p. p.kind) (m.desc s).outputs) (m.store s log).model (inputs m.sc rows s (m.desc s) ((x.bench s log).resets + 1) (x.bench s log).steps) m.sc.micro ≡ Ok (m.store s (e ∷ log)).model

-- an event of the run is under way, or some event of it is done
abbrev pub Begun : (steps : ℕ) → BenchProgress → Type 0
Begun steps v = (v.waiting ≡ true) ⊎ (v.done % (2 * (steps + 1)) ≡ 0 → ⊥)

-- what asking in order gives: who has begun a run was opened for it, and stays so until the next; and who is opened is tuned
pub record IsCourse (x : ConversingSlaves) (m : Machines) (s : ℕ) : Type 0 where
  pub begun : (es : List DecidedRequest) → AskedAsPlanned (x.may s) es → Begun x.steps (view es) → x.opened s (run_after x.steps (view es).done) es ≡ true
  pub stays : (r : ℕ) (e : DecidedRequest) (es : List DecidedRequest) → AskedAsPlanned (x.may s) (e ∷ es) → x.opened s r es ≡ true → run_after x.steps (view es).done ≡ r → run_after x.steps (view (e ∷ es)).done ≡ r → x.opened s r (e ∷ es) ≡ true
  pub tuned : (r : ℕ) (es : List DecidedRequest) → x.opened s r es ≡ true → m.tuned s r es ≡ true

-- the slaves are those of the scenario
pub record AreMachines (w : Parties) (x : ConversingSlaves) (m : Machines) : Type 0 where
  pub steps : m.sc.steps ≡ x.steps
  pub runs : m.sc.runs ≡ x.runs
  pub slaves : length m.sc.slaves ≡ w.count
  pub some : 0 < w.count
  pub desc : (s : ℕ) → IsSlaveOf w s → slice_get m.sc.slaves (s - 1) ≡ Some (m.desc s)
  pub q : (id : ℕ) → 0 < m.q id
  pub feeds : (s id : ℕ) → m.feeds s id ≡ true → IsSlaveOf w (m.from id)
  pub holds : (s : ℕ) → IsSlaveOf w s → HoldsData w x m s
  pub course : (s : ℕ) → IsSlaveOf w s → IsCourse x m s
