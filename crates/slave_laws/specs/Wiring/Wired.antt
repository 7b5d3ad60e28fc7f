-- What a slave knows of its data ids, when it is asked in order.
use Rattle.std.specs.Prelude.{◌≡◌, ℕ, zero, suc, ◌+◌, ◌*◌, ◌≤◌, Bool, true, false, List, [], ◌∷◌, length}
use Rattle.dcp_types.specs.declared.states.State.{State}
use Rattle.dcp_types.specs.declared.states.State.TheVariants.{Preparing, Prepared, Configuring, Configured, Initializing, Initialized, SendingI, Synchronizing, Synchronized, Running, Computing, Computed, SendingD, Stopping, Stopped}
use Rattle.dcp_ends.specs.declared.entries.LogEntry.{LogEntry}
use Rattle.pdu_layout.specs.declared.messages.Cfg.{Cfg}
use Rattle.pdu_layout.specs.declared.messages.Cfg.TheVariants as cfg
use Rattle.slave_desc.specs.declared.descriptions.SlaveDesc.{SlaveDesc}
use Rattle.scenario.specs.declared.scenarios.Scenario.{Scenario}
use Rattle.master_spec.specs.PlanSetup.{setup_list}
use Rattle.plan_laws.specs.Taking.{IsScenarioSlave}
use Rattle.log_spec.specs.Log.{Parties}
use Rattle.lockstep_laws.specs.Steps.{place_after}
use Rattle.lockstep_laws.specs.Asked.{AskedAsPlanned}
use Rattle.slave_spec.specs.Changes.{Change, Set, Restart}
use Rattle.slave_spec.specs.declared.words.SlaveSetup.{SlaveSetup}
use Rattle.slave_spec.specs.declared.words.Session.{Session}
use Rattle.slave_spec.specs.declared.words.Session.TheVariants.{Before, During, After}
use Rattle.slave_spec.specs.Slaves.{machine}
use Rattle.slave_laws.specs.Talk.Desks.{at}
use Rattle.slave_laws.specs.Talk.Benches.{bench_at}
use Rattle.slave_laws.specs.Talk.Sends.{ReadsMessages}
use Rattle.slave_laws.specs.Model.Models.{plant_at}
use Rattle.slave_laws.specs.Model.Tuned.{served_at}
use Rattle.plan_laws.specs.Course.Courses.{may}

-- a setting among the changes: a clearing ends them all, and parameters and the log are none of the wiring's
abbrev pub changes_with : Cfg → List Change → List Change
changes_with cfg.Clear before = []
changes_with (cfg.Parameter vr kind value) before = before
changes_with (cfg.Logging category level mode) before = before
changes_with body before = Set body ∷ before

-- and settings in order
abbrev pub changes_after : List Change → List Cfg → List Change
changes_after before [] = before
changes_after before (body ∷ bodies) = changes_after (changes_with body before) bodies

-- what a slave is told of its data ids by its setup list
abbrev pub planned_changes : Scenario → (s : ℕ) → SlaveDesc → List Change
planned_changes sc s d = changes_after [] (setup_list sc s d)

-- and with a restart after so many steps for each run before
abbrev pub changes_restarted : (steps : ℕ) → List Change → (runs : ℕ) → List Change
changes_restarted steps changes zero = changes
changes_restarted steps changes (suc runs) = Restart steps ∷ changes_restarted steps changes runs

-- from PREPARING to STOPPED
abbrev pub is_past : State → Bool
is_past Preparing = true
is_past Prepared = true
is_past Configuring = true
is_past Configured = true
is_past Initializing = true
is_past Initialized = true
is_past SendingI = true
is_past Synchronizing = true
is_past Synchronized = true
is_past Running = true
is_past Computing = true
is_past Computed = true
is_past SendingD = true
is_past Stopping = true
is_past Stopped = true
is_past state = false

abbrev pub is_during : Session → Bool
is_during Before = false
is_during (During master id) = true
is_during (After master id) = false

-- for the slave of a sound scenario, after every log in which it was asked in order
abbrev pub InScenario : (Scenario → (s : ℕ) → SlaveSetup → Parties → List LogEntry → Type 0) → Type 0
InScenario Has = (sc : Scenario) (s : ℕ) (x : SlaveSetup) (w : Parties) → IsScenarioSlave sc s x.desc → ReadsMessages w → (log : List LogEntry)
    → AskedAsPlanned (may sc s x.desc) (served_at x w s log) → is_during (at (machine x) w s log).slave.session ≡ true → Has sc s x w log

abbrev pub WiringIsPlanned : Type 0
WiringIsPlanned = InScenario (λ sc s x w log. is_past (plant_at x w s log).state ≡ true
    → (plant_at x w s log).wires.changes ≡ changes_restarted sc.steps (planned_changes sc s x.desc) (length (plant_at x w s log).earlier))

-- the place of its row events is that many resets and steps
pub record IsCounted (steps : ℕ) (x : SlaveSetup) (w : Parties) (s : ℕ) (log : List LogEntry) : Type 0 where
  pub events : ℕ
  pub place : place_after events ≡ (bench_at x w s log).resets * (steps + 1) + (bench_at x w s log).steps
  pub most : (bench_at x w s log).steps ≤ steps

abbrev pub PlaceIsCounted : Type 0
PlaceIsCounted = InScenario (λ sc s x w log. IsCounted sc.steps x w s log)
