-- What a run shows of the cause that its master reports, as far as it is wanted for completeness. The log has its newest entry first.
use Rattle.std.specs.Prelude.{◌≡◌, ℕ, ◌+◌, ◌<◌, ◌≤◌, ◌⊎◌, IsTrue, Option, Some, List, slice_get}
use Rattle.dcp_types.specs.declared.addresses.Address.{Address}
use Rattle.dcp_ends.specs.declared.entries.LogEntry.{LogEntry}
use Rattle.dcp_ends.specs.declared.entries.LogEntry.TheVariants.{Sent, Got}
use Rattle.slave_desc.specs.declared.descriptions.SlaveDesc.{SlaveDesc}
use Rattle.scenario.specs.declared.scenarios.Scenario.{Scenario}
use Rattle.lockstep.specs.declared.references.RefFault.{RefFault}
use Rattle.master_spec.specs.declared.causes.Cause.{Cause}
use Rattle.master_spec.specs.declared.causes.Cause.TheVariants as causes
use Rattle.master_spec.specs.declared.reports.Report.TheVariants as reports
use Rattle.master_spec.specs.declared.requests.Answer.TheVariants.{Nack}
use Rattle.master_spec.specs.declared.setups.Slave.{Slave}
use Rattle.master_spec.specs.declared.setups.Setup.{Setup}
use Rattle.master_spec.specs.Setup.{setup_from}
use Rattle.master_spec.specs.News.{news_of, Brings}
use Rattle.master_spec.specs.Requests.{Asking, is_step, turns_between}
use Rattle.master_spec.specs.Exchanged.{IsIn, IsDecided, entry_at}
use Rattle.master_spec.specs.Shown.{Shown}
use Rattle.master_log_laws.specs.Index.Runs.{course_at}
use Rattle.lockstep_laws.specs.Models.Scenarios.{slave_numbered}
use Rattle.completeness_laws.specs.Reasons.{HeartbeatWasMissed, IsFaultOf}

-- data that was sent had not come when the master had had as many turns as it waits for data
pub record DataWasLate (setup : Setup) (log : List LogEntry) : Type 0 where
  pub sent : ℕ
  pub from : Address
  pub to : Address
  pub bytes : List ℕ
  pub number : ℕ
  pub id : ℕ
  pub payload : List ℕ
  pub is : entry_at log sent ≡ Some (Sent from to bytes)
  pub read : news_of bytes ≡ Brings number id payload
  pub until : ℕ
  pub missing : (j : ℕ) → sent < j → j < until → entry_at log j ≡ Some (Got to from bytes) → ⊥
  pub long : setup.limits.data_turns ≤ turns_between setup.address log sent until

-- data was sent before the refusal before the last one came, and had not come when the step was first asked for the last time
pub record InputsWereLate (setup : Setup) (log : List LogEntry) (slave : Slave) (p q k : ℕ) (s : Shown setup log slave p (causes.InputsMissing q k)) : Type 0 where
  pub sent : ℕ
  pub from : Address
  pub to : Address
  pub bytes : List ℕ
  pub number : ℕ
  pub id : ℕ
  pub payload : List ℕ
  pub is : entry_at log sent ≡ Some (Sent from to bytes)
  pub read : news_of bytes ≡ Brings number id payload
  pub before : (a : Asking) (place code : ℕ) → slice_get s.earlier 0 ≡ Some a → IsTrue (is_step a) → IsDecided a place (Nack code) → sent ≤ place
  pub came : ℕ
  pub asked : s.request.first < came
  pub missing : (j : ℕ) → sent < j → j < came → entry_at log j ≡ Some (Got to from bytes) → ⊥

-- ---- the reason of each cause
abbrev pub HasReason : (sc : Scenario) (other : SlaveDesc) (fault : Option RefFault) (log : List LogEntry) → Slave → (phase : ℕ) → Cause → Type 0
HasReason sc other fault log slave phase (causes.NoAnswer q) = Unit {0}
HasReason sc other fault log slave phase (causes.Unexpected q y t) = ⊥
HasReason sc other fault log slave phase (causes.Refused q c) = HeartbeatWasMissed sc other slave.id log
HasReason sc other fault log slave phase (causes.InputsMissing q k) = (s : Shown (setup_from sc) log slave phase (causes.InputsMissing q k)) → InputsWereLate (setup_from sc) log slave phase q k s
HasReason sc other fault log slave phase (causes.DataMissing k) = DataWasLate (setup_from sc) log
HasReason sc other fault log slave phase (causes.Stuck q t) = sc.limits.state_limit ≤ (slave_numbered sc other slave.id).busy + 2
HasReason sc other fault log slave phase (causes.Faulted q c) = IsFaultOf sc fault slave.id phase c ⊎ HeartbeatWasMissed sc other slave.id log

-- the reported cause has its reason
abbrev pub CauseHasReason : Scenario → (other : SlaveDesc) → Option RefFault → List LogEntry → Type 0
CauseHasReason sc other fault log = (slave : Slave) → IsIn (setup_from sc) slave → (phase : ℕ) (cause : Cause) → (course_at (setup_from sc) log).report ≡ Some (reports.Failed slave.id phase cause) → HasReason sc other fault log slave phase cause
