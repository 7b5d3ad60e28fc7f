-- What holds where nothing is lost or late.
use Rattle.std.specs.Prelude.{◌≡◌, ℕ, ◌⊎◌, List}
use Rattle.dcp_ends.specs.declared.entries.LogEntry.{LogEntry}
use Rattle.slave_desc.specs.declared.descriptions.SlaveDesc.{SlaveDesc}
use Rattle.master_spec.specs.declared.causes.Cause.TheVariants.{NoAnswer}
use Rattle.master_spec.specs.declared.setups.Slave.{Slave}
use Rattle.master_spec.specs.declared.setups.Setup.{Setup}
use Rattle.master_spec.specs.Exchanged.{IsIn}
use Rattle.master_spec.specs.Shown.{Shown}
use Rattle.completeness_laws.specs.Timely.{LeavesTime, Timely}
use Rattle.completeness_laws.specs.Small.{small_limits}

-- a timely log shows no want of an answer, of no slave and in no phase
abbrev pub TimelyLacksNoAnswer : Type 0
TimelyLacksNoAnswer = (setup : Setup) (log : List LogEntry) → Timely setup log → (slave : Slave) → IsIn setup slave → (p q : ℕ) → Shown setup log slave p (NoAnswer q) → ⊥

-- ---- scenarios that leave time, by the limits of the small logs

-- a slave without a heartbeat, or with a long one, which is quick
abbrev pub QuickSlavesLeaveTime : Type 0
QuickSlavesLeaveTime = (d : SlaveDesc) → d.busy ≡ 1 → (d.heartbeat ≡ 0) ⊎ (d.heartbeat ≡ 13) → LeavesTime small_limits d

-- a slave that is busy until the master calls it stuck
abbrev pub SlowSlavesDoNot : Type 0
SlowSlavesDoNot = (d : SlaveDesc) → d.busy ≡ 2 → LeavesTime small_limits d → ⊥

-- a slave whose heartbeat may be over while the master waits
abbrev pub ShortHeartbeatsDoNot : Type 0
ShortHeartbeatsDoNot = (d : SlaveDesc) → d.heartbeat ≡ 12 → LeavesTime small_limits d → ⊥
