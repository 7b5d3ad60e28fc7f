-- Why the outputs of a slave did not come to the master. Logs have their newest entry first.
use Rattle.std.specs.Prelude.{◌≡◌, ℕ, ◌+◌, ◌≤◌, List, ◌∷◌, ◌++◌, length, count_by}
use Rattle.dcp_ends.specs.declared.entries.LogEntry.{LogEntry}
use Rattle.dcp_ends.specs.declared.entries.LogEntry.TheVariants.{Sent}
use Rattle.slave_desc.specs.declared.descriptions.SlaveDesc.{SlaveDesc}
use Rattle.scenario.specs.declared.scenarios.Scenario.{Scenario}
use Rattle.lockstep.specs.Lockstep.{row_index}
use Rattle.log_spec.specs.Messages.{Note, Value}
use Rattle.log_spec.specs.Log.{Parties, role_heard, values_sent}
use Rattle.master_spec.specs.Setup.{setup_from}
use Rattle.master_spec.specs.Requests.{is_turn_of}
use Rattle.master_log_laws.specs.Index.Runs.{course_at}
use Rattle.run_laws.specs.Laws.{parties}
use Rattle.completeness_laws.specs.StepPhases.{outputs_phase}
use Rattle.completeness_laws.specs.Unheard.{NeverComes}

-- slave s sent the master all its outputs under this ordinal, and they have not come since
pub record IsUnshown (w : Parties) (s o : ℕ) (log : List LogEntry) : Type 0 where
  pub since : List LogEntry
  pub earlier : List LogEntry
  pub bytes : List ℕ
  pub note : Note
  pub is : log ≡ since ++ Sent (w.slave s) w.master bytes ∷ earlier
  pub read : role_heard w bytes ≡ Value s note
  pub ordinal : length (values_sent w s (Sent (w.slave s) w.master bytes ∷ earlier)) ≡ o + 1
  pub not_come : NeverComes w.master (w.slave s) bytes since

-- the outputs after step k of the run of this phase are under way, and the master has had as many turns since they were sent as it waits for data
pub record AreOutputsUnshown (sc : Scenario) (other : SlaveDesc) (s k : ℕ) (log : List LogEntry) : Type 0 where
  pub run : ℕ
  pub first : 1 ≤ run
  pub last : run ≤ sc.runs
  pub step : k ≤ sc.steps
  pub phase : (course_at (setup_from sc) log).phase ≡ outputs_phase sc.steps run k
  pub unshown : IsUnshown (parties sc other) s (row_index sc.steps run k) log
  pub waited : sc.limits.data_turns ≤ count_by (is_turn_of sc.master) unshown.since
