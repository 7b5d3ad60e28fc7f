-- The barrier between row events, on every network, honest or not. The log has its newest entry first.
use Rattle.std.specs.Prelude.{◌≡◌, ℕ, ◌+◌, ◌*◌, ◌≤◌, ◌⊎◌, false, Option, Some, None, is_some, List, ◌∷◌, take, slice_get, count_by}
use Rattle.dcp_ends.specs.declared.entries.LogEntry.{LogEntry}
use Rattle.log_spec.specs.Messages.{Note}
use Rattle.log_spec.specs.Channel.{Repeats}
use Rattle.log_spec.specs.Log.{Parties, IsSlaveOf, requests_sent}
use Rattle.log_spec.specs.Moves.{Asks, move, decided_exchanges}
use Rattle.lockstep_laws.specs.Steps.{RowEvent, Show, Step, Restart, row_event_at, event_asked, run_after, BenchProgress, events_counted, view}
use Rattle.master_spec.specs.declared.causes.Verdict.TheVariants as verdicts
use Rattle.master_spec.specs.declared.tasks.Task.{Task}
use Rattle.master_spec.specs.declared.tasks.Task.TheVariants as tasks
use Rattle.master_spec.specs.declared.setups.Slave.{Slave}
use Rattle.master_spec.specs.declared.setups.Setup.{Setup}
use Rattle.master_spec.specs.Tasks.{task_row}
use Rattle.master_spec.specs.Jobs.{Job}
use Rattle.master_spec.specs.Marks.{Mark, verdict_of}
use Rattle.master_spec.specs.Setup.{jobs_of}
use Rattle.master_log_laws.specs.Index.Follows.{talk_with}
use Rattle.master_log_laws.specs.Index.Laws.{AreHeard}
use Rattle.master_log_laws.specs.Index.Runs.{course_at, IsRun}
use Rattle.master_laws.specs.Meets.Laws.{IsParty, ArePartiesOf}

-- the row event that a task asks for
abbrev pub row_event_in : Task → Option RowEvent
row_event_in (tasks.FirstOutputs row) = Some Show
row_event_in (tasks.Step k) = Some Step
row_event_in (tasks.Outputs k row) = Some Show
row_event_in tasks.Reset = Some Restart
row_event_in (tasks.Register uuid) = None
row_event_in tasks.Setup = None
row_event_in tasks.Prepare = None
row_event_in tasks.Configure = None
row_event_in tasks.Initialize = None
row_event_in tasks.Run = None
row_event_in tasks.Stop = None
row_event_in tasks.Adjust = None
row_event_in tasks.Deregister = None

-- how many row events the first so many jobs ask for
abbrev pub events_before : List Job → ℕ → ℕ
events_before js p = count_by (λ job. is_some (row_event_in job.task)) (take p js)

-- ---- where a slave stands in a phase
-- the row events of the jobs before job f are done, and at most the one of job f is begun
pub record StandsInPhase (js : List Job) (f : ℕ) (v : BenchProgress) : Type 0 where
  pub least : events_before js f ≤ v.done
  pub most : events_counted v ≤ events_before js (f + 1)

abbrev pub ProgressGoesByPhase : Type 0
ProgressGoesByPhase = (setup : Setup) → AreHeard setup → (w : Parties) → ArePartiesOf setup w → (log : List LogEntry) → IsRun setup log → (s : ℕ) → IsSlaveOf w s → (slave : Slave) → IsParty setup w s slave
    → (f : ℕ) → (course_at setup log).phase ≡ f + 1 → StandsInPhase (jobs_of setup slave) f (view (decided_exchanges w s log))

abbrev pub RowsAreShownInTheirPhase : Type 0
RowsAreShownInTheirPhase = (setup : Setup) → AreHeard setup → (w : Parties) → ArePartiesOf setup w → (log : List LogEntry) → IsRun setup log → (s : ℕ) → IsSlaveOf w s → (slave : Slave) → IsParty setup w s slave
    → (f : ℕ) → (course_at setup log).phase ≡ f + 1 → (job : Job) → slice_get (jobs_of setup slave) f ≡ Some job → (row : ℕ) → task_row job.task ≡ Some row
    → (2 * row ≤ (view (decided_exchanges w s log)).done) × ((view (decided_exchanges w s log)).done ≤ 2 * row + 1)

-- once the phase has passed there, its own row event is done too, and none is under way
abbrev pub PassedPhasesAreDone : Type 0
PassedPhasesAreDone = (setup : Setup) → AreHeard setup → (w : Parties) → ArePartiesOf setup w → (log : List LogEntry) → IsRun setup log → (s : ℕ) → IsSlaveOf w s → (slave : Slave) → IsParty setup w s slave
    → (f : ℕ) → (course_at setup log).phase ≡ f + 1 → (i : ℕ) (marks : List Mark) → slice_get setup.slaves i ≡ Some slave → slice_get (course_at setup log).talks i ≡ Some (talk_with slave marks) → verdict_of marks ≡ verdicts.Passed
    → view (decided_exchanges w s log) ≡ record { done = events_before (jobs_of setup slave) (f + 1); waiting = false }

-- ---- the barrier
-- what the laws over a run want of a row event that is asked for, but for what the slaves have been opened for
pub record IsLeastDone (setup : Setup) (w : Parties) (s : ℕ) (k : RowEvent) (log : List LogEntry) : Type 0 where
  pub free : (view (decided_exchanges w s log)).waiting ≡ false
  pub next : k ≡ row_event_at setup.steps (view (decided_exchanges w s log)).done
  pub least : (t : ℕ) → IsSlaveOf w t → (view (decided_exchanges w s log)).done ≤ (view (decided_exchanges w t log)).done
  pub within : run_after setup.steps (view (decided_exchanges w s log)).done ≤ setup.runs

abbrev pub RowEventsWaitForAll : Type 0
RowEventsWaitForAll = (setup : Setup) → AreHeard setup → (w : Parties) → ArePartiesOf setup w → (e : LogEntry) (log : List LogEntry) → IsRun setup (e ∷ log) → (s : ℕ) → IsSlaveOf w s → (slave : Slave) → IsParty setup w s slave
    → (n : Note) (k : RowEvent) → move w s e ≡ Asks n → event_asked n ≡ Some k → Repeats (requests_sent w s log) n ⊎ IsLeastDone setup w s k log
