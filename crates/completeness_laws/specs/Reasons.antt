-- What honest runs show of the causes that their masters report. The log has its newest entry first.
use Rattle.std.specs.Prelude.{◌≡◌, ◌≢◌, ℕ, ◌+◌, ◌<◌, ◌≤◌, IsTrue, true, Option, Some, List, [], ◌∷◌, ◌++◌, length, slice_get, count_by}
use Rattle.dcp_types.specs.Codes.{fault_code}
use Rattle.dcp_ends.specs.declared.entries.LogEntry.{LogEntry}
use Rattle.slave_desc.specs.declared.descriptions.SlaveDesc.{SlaveDesc}
use Rattle.scenario.specs.declared.scenarios.Scenario.{Scenario}
use Rattle.lockstep.specs.declared.references.RefFault.{RefFault}
use Rattle.master_spec.specs.declared.requests.Answer.TheVariants.{Nack}
use Rattle.master_spec.specs.declared.setups.Slave.{Slave}
use Rattle.master_spec.specs.declared.setups.Setup.{Setup}
use Rattle.master_spec.specs.Setup.{jobs_of}
use Rattle.master_spec.specs.Requests.{Asking, asks, is_step, of_phase, is_turn_of, turns_before}
use Rattle.master_spec.specs.Exchanged.{IsDecided}
use Rattle.master_log_laws.specs.Index.Runs.{course_at}
use Rattle.lockstep_laws.specs.Models.Scenarios.{slave_numbered}
use Rattle.slave_laws.specs.Data.Whole.{slaves_asked}
use Rattle.completeness_laws.specs.StepPhases.{phase_of_step}

-- ---- steps that are asked again

-- of the phase in which the run ends: where the newest request is a step, and another step was asked in this phase, the request before is a step that was refused, and the newest one comes as many turns after that as the limit says
pub record Waits (setup : Setup) (log : List LogEntry) (r a : Asking) : Type 0 where
  pub place : ℕ
  pub code : ℕ
  pub decided : IsDecided a place (Nack code)
  pub step : is_step a ≡ true
  pub late : turns_before setup.address log place + setup.limits.retry_turns ≤ turns_before setup.address log r.first

abbrev pub RetriesWait : Setup → List LogEntry → Slave → Type 0
RetriesWait setup log slave = (r : Asking) (earlier : List Asking) → of_phase (jobs_of setup slave) (course_at setup log).phase (asks setup.address slave log) ≡ r ∷ earlier → 1 ≤ (course_at setup log).phase → IsTrue (is_step r)
    → (i : ℕ) (b : Asking) → slice_get earlier i ≡ Some b → IsTrue (is_step b) → (a : Asking) × (slice_get earlier 0 ≡ Some a) × Waits setup log r a

-- ---- heartbeats

-- slave s, which had taken a request, had so many turns and took none meanwhile; later it took one again
pub record WasQuiet (sc : Scenario) (other : SlaveDesc) (s turns : ℕ) (log : List LogEntry) : Type 0 where
  pub later : List LogEntry
  pub middle : List LogEntry
  pub earlier : List LogEntry
  pub is : log ≡ later ++ (middle ++ earlier)
  pub had : turns ≤ count_by (is_turn_of (slave_numbered sc other s).address) middle
  pub begun : ((slaves_asked sc other).desk s earlier).served ≢ []
  pub none_taken : ((slaves_asked sc other).desk s (middle ++ earlier)).served ≡ ((slaves_asked sc other).desk s earlier).served
  pub taken : length ((slaves_asked sc other).desk s earlier).served < length ((slaves_asked sc other).desk s log).served

-- a slave with a heartbeat had as many turns as that without a request
pub record HeartbeatWasMissed (sc : Scenario) (other : SlaveDesc) (s : ℕ) (log : List LogEntry) : Type 0 where
  pub on : 1 ≤ (slave_numbered sc other s).heartbeat
  pub quiet : WasQuiet sc other s (slave_numbered sc other s).heartbeat log

-- ---- faults of the reference

-- the reference ends with this fault of this slave, at what the phase is for
pub record IsFaultOf (sc : Scenario) (fault : Option RefFault) (id phase code : ℕ) : Type 0 where
  pub found : RefFault
  pub is : fault ≡ Some found
  pub slave : found.slave ≡ id
  pub code_is : fault_code found.code ≡ code
  pub at : phase ≡ phase_of_step sc.steps found.run found.step
