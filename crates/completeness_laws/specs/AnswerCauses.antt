-- The reasons of causes that come with an answer, in every run over an honest network. What was so far has its newest entry first.
use Rattle.std.specs.Prelude.{◌≡◌, ◌≢◌, ℕ, ℤ, Option, Some, List, ◌++◌, reverse}
use Rattle.dcp_types.specs.declared.fault_codes.FaultCode.{FaultCode}
use Rattle.dcp_types.specs.declared.fault_codes.FaultCode.TheVariants.{HeartbeatMissed}
use Rattle.dcp_ends.specs.declared.entries.LogEntry.{LogEntry}
use Rattle.slave_desc.specs.declared.descriptions.SlaveDesc.{SlaveDesc}
use Rattle.scenario.specs.declared.scenarios.Scenario.{Scenario}
use Rattle.scenario.specs.Sound.{IsScenario}
use Rattle.lockstep.specs.declared.references.RefFault.{RefFault}
use Rattle.lockstep.specs.Lockstep.{IsReference}
use Rattle.slave_laws.specs.Model.Models.{plant_at}
use Rattle.master_spec.specs.declared.causes.Cause.{Cause}
use Rattle.master_spec.specs.declared.causes.Cause.TheVariants as causes
use Rattle.master_spec.specs.declared.reports.Report.TheVariants as reports
use Rattle.master_spec.specs.Setup.{setup_from}
use Rattle.master_log_laws.specs.Index.Runs.{course_at}
use Rattle.run_laws.specs.Laws.{parties, slave_setup_of, IsRunOf}
use Rattle.completeness_laws.specs.Reasons.{HeartbeatWasMissed, IsFaultOf}

-- at every moment of every run of a sound scenario's own ends at which the master has reported a failure: this slave, in this phase, with this cause
abbrev pub WhereFailed : (Scenario → SlaveDesc → List LogEntry → (id phase : ℕ) → Cause → Type 0) → Type 0
WhereFailed Holds = (sc : Scenario) (other : SlaveDesc) → IsScenario sc → (log : List LogEntry) → IsRunOf sc other log → (later sofar : List LogEntry) → reverse log ≡ later ++ sofar
    → (id phase : ℕ) (cause : Cause) → (course_at (setup_from sc) sofar).report ≡ Some (reports.Failed id phase cause) → Holds sc other sofar id phase cause

-- ---- an answer that does not fit what was asked
abbrev pub IsExpected : Cause → Type 0
IsExpected (causes.Unexpected q y t) = ⊥
IsExpected cause = Unit {0}

abbrev pub NeverUnexpected : Type 0
NeverUnexpected = WhereFailed (λ sc other sofar id phase cause. IsExpected cause)

-- ---- a refusal
-- slave s has had this fault
abbrev pub HasFault : Scenario → (other : SlaveDesc) → (s : ℕ) → List LogEntry → FaultCode → Type 0
HasFault sc other s sofar code = (plant_at (slave_setup_of sc other s) (parties sc other) s sofar).fault ≡ Some code

-- a slave refuses nothing but in an error state, and stands in that because it missed a heartbeat
pub record IsRefusedInError (sc : Scenario) (other : SlaveDesc) (sofar : List LogEntry) (s code : ℕ) : Type 0 where
  pub code_is : code ≡ 14
  pub fault : HasFault sc other s sofar HeartbeatMissed
  pub missed : HeartbeatWasMissed sc other s sofar

abbrev pub IsOfRefusal : Scenario → (other : SlaveDesc) → List LogEntry → (id : ℕ) → Cause → Type 0
IsOfRefusal sc other sofar id (causes.Refused q c) = IsRefusedInError sc other sofar id c
IsOfRefusal sc other sofar id cause = Unit {0}

abbrev pub RefusedInError : Type 0
RefusedInError = WhereFailed (λ sc other sofar id phase cause. IsOfRefusal sc other sofar id cause)

-- ---- a fault of the model
-- the reference of the scenario, of which there is one, ends with this fault of this slave, at what the phase is for
abbrev pub IsOfReference : Scenario → (id phase : ℕ) → Cause → Type 0
IsOfReference sc id phase (causes.Faulted q c) = c ≢ 35 → (rows : List (List ℤ)) (fault : Option RefFault) → IsReference sc rows fault → IsFaultOf sc fault id phase c
IsOfReference sc id phase cause = Unit {0}

abbrev pub FaultsAreOfTheReference : Type 0
FaultsAreOfTheReference = WhereFailed (λ sc other sofar id phase cause. IsOfReference sc id phase cause)

-- ---- a missed heartbeat
abbrev pub IsOfHeartbeat : Scenario → (other : SlaveDesc) → List LogEntry → (id : ℕ) → Cause → Type 0
IsOfHeartbeat sc other sofar id (causes.Faulted q c) = c ≡ 35 → HeartbeatWasMissed sc other id sofar
IsOfHeartbeat sc other sofar id cause = Unit {0}

abbrev pub MissedHeartbeatsAreTrue : Type 0
MissedHeartbeatsAreTrue = WhereFailed (λ sc other sofar id phase cause. IsOfHeartbeat sc other sofar id cause)
