-- What the laws of models want of a slave, of the slaves of a scenario.
use Rattle.std.specs.Prelude.{◌≡◌, ℕ, ◌+◌, ◌<◌, Bool, true, false, Ok, ◌⊎◌, None, List, [], ◌∷◌, ℤ}
use Rattle.dcp_types.specs.declared.states.State.TheVariants.{Alive}
use Rattle.dcp_ends.specs.declared.entries.LogEntry.{LogEntry}
use Rattle.fixed_models.specs.Steps.{start}
use Rattle.slave_desc.specs.declared.descriptions.SlaveDesc.{SlaveDesc}
use Rattle.scenario.specs.declared.scenarios.Scenario.{Scenario}
use Rattle.scenario.specs.Settings.{parameters}
use Rattle.scenario.specs.Sound.{IsScenario}
use Rattle.lockstep.specs.Lockstep.{shown_at}
use Rattle.log_spec.specs.Log.{Parties, IsSlaveOf}
use Rattle.log_spec.specs.Moves.{Move, Asks, Comes, Tells, Hears, Brings, Turns, Rests, Other, move}
use Rattle.lockstep_laws.specs.Steps.{Bench, StepsOn}
use Rattle.lockstep_laws.specs.Cast.{ConversingSlaves}
use Rattle.lockstep_laws.specs.Models.Machines.{Store, Machines, values_owed, Fed, IsAskedInOrder, KeepsIt}
use Rattle.slave_spec.specs.declared.words.SlaveSetup.{SlaveSetup}
use Rattle.slave_spec.specs.declared.words.Session.{Session}
use Rattle.slave_spec.specs.declared.words.Session.TheVariants.{Before, During, After}
use Rattle.slave_spec.specs.Slaves.{machine, has_ended}
use Rattle.slave_laws.specs.Talk.Desks.{at}
use Rattle.slave_laws.specs.Talk.Sends.{ReadsMessages}
use Rattle.slave_laws.specs.Model.Models.{plant_at}
use Rattle.slave_laws.specs.Data.Made.{parties, slaves, machines}

abbrev pub EndedIsAlive : Type 0
EndedIsAlive = (x : SlaveSetup) (s : ℕ) (w : Parties) → ReadsMessages w → (log : List LogEntry) → has_ended (at (machine x) w s log).slave.session ≡ true → (plant_at x w s log).state ≡ Alive

-- the parts of what a slave is to hold that speak of its model alone
pub record HoldsModel (w : Parties) (x : ConversingSlaves) (m : Machines) (s : ℕ) : Type 0 where
  pub fresh : (log : List LogEntry) → IsAskedInOrder w x s log → (x.bench s log).steps ≡ 0 → (ps : List ℤ) × ((m.store s log).model ≡ start (m.desc s).kind ps)
  pub tuned : (log : List LogEntry) → IsAskedInOrder w x s log → (x.bench s log).steps ≡ 0 → m.tuned s ((x.bench s log).resets + 1) (x.desk s log).served ≡ true
      → (m.store s log).model ≡ start (m.desc s).kind (parameters m.sc s (m.desc s) ((x.bench s log).resets + 1))
  pub first : (log : List LogEntry) → IsAskedInOrder w x s log → (x.bench s log).steps ≡ 0 → x.opened s ((x.bench s log).resets + 1) (x.desk s log).served ≡ true
      → (vs : List ℤ) × (shown_at m.sc s (m.desc s) ((x.bench s log).resets + 1) (Ok (m.store s log).model) ≡ Ok vs)
  pub still : (e : LogEntry) (log : List LogEntry) → IsAskedInOrder w x s (e ∷ log) → 0 < (x.bench s (e ∷ log)).steps → (x.bench s (e ∷ log)).steps ≡ (x.bench s log).steps → (m.store s (e ∷ log)).model ≡ (m.store s log).model

-- and the parts that speak of what feeds it
pub record HoldsInputs (w : Parties) (x : ConversingSlaves) (m : Machines) (s : ℕ) : Type 0 where
  pub begins : (id : ℕ) → (m.store s []).kept id ≡ None
  pub fed : (e : LogEntry) (log : List LogEntry) → IsAskedInOrder w x s log → StepsOn (x.bench s log) (x.bench s (e ∷ log)) → Fed x m s (x.bench s log) (m.store s log)

abbrev pub OfScenario : (Parties → ConversingSlaves → Machines → ℕ → Type 0) → Type 0
OfScenario Has = (sc : Scenario) (other : SlaveDesc) → IsScenario sc → (s : ℕ) → IsSlaveOf (parties sc other) s → Has (parties sc other) (slaves sc other) (machines sc other) s

abbrev pub HoldsItsModel : Type 0
HoldsItsModel = OfScenario HoldsModel

abbrev pub HoldsItsInputs : Type 0
HoldsItsInputs = OfScenario HoldsInputs

-- it owes data of its own ids alone
abbrev pub OwesItsOwn : Type 0
OwesItsOwn = OfScenario (λ w x m s. (log : List LogEntry) → IsAskedInOrder w x s log → (id : ℕ) → (m.from id ≡ s → ⊥) → values_owed w id (x.desk s log).owed ≡ [])

-- What is kept goes on by the entry: a data message that comes is kept for the ordinal that is wanted, or nothing changes under its
-- id; a request leaves what is kept, or takes it away.
abbrev pub KeepsOn : ConversingSlaves → Machines → Move → Bench → (u v : Store) → Type 0
KeepsOn x m (Asks n) b u v = v ≡ u
KeepsOn x m (Comes from receiver n) b u v = (id : ℕ) → (v.kept id ≡ u.kept id) ⊎ (v.kept id ≡ None)
KeepsOn x m (Tells to bytes) b u v = v ≡ u
KeepsOn x m (Hears n) b u v = v ≡ u
KeepsOn x m (Brings from id n) b u v = (i : ℕ) → (v.kept i ≡ u.kept i) ⊎ ((i ≡ id) × KeepsIt x m id n b v)
KeepsOn x m Turns b u v = (id : ℕ) → v.kept id ≡ u.kept id
KeepsOn x m Rests b u v = (id : ℕ) → v.kept id ≡ u.kept id
KeepsOn x m Other b u v = v ≡ u

abbrev pub KeepsItsData : Type 0
KeepsItsData = OfScenario (λ w x m s. (e : LogEntry) (log : List LogEntry) → IsAskedInOrder w x s log → KeepsOn x m (move w s e) (x.bench s log) (m.store s log) (m.store s (e ∷ log)))
