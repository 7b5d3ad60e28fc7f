-- Each new request of a scenario's master follows the plan, on every network, honest or not. The log has its newest entry first.
use Rattle.std.specs.Prelude.{◌≡◌, ℕ, true, ◌⊎◌, Some, List, ◌∷◌}
use Rattle.dcp_ends.specs.declared.entries.LogEntry.{LogEntry}
use Rattle.slave_desc.specs.declared.descriptions.SlaveDesc.{SlaveDesc}
use Rattle.scenario.specs.declared.scenarios.Scenario.{Scenario}
use Rattle.log_spec.specs.Messages.{Note}
use Rattle.log_spec.specs.Channel.{Repeats}
use Rattle.log_spec.specs.Log.{Parties, IsSlaveOf, requests_sent}
use Rattle.log_spec.specs.Moves.{Asks, move, decided_exchanges}
use Rattle.lockstep_laws.specs.Steps.{RowEvent, event_asked, run_after, view}
use Rattle.plan_laws.specs.Course.Courses.{opened}
use Rattle.plan_laws.specs.Course.Orders.{may_ask}
use Rattle.master_spec.specs.Setup.{slave_of, setup_from}
use Rattle.master_log_laws.specs.Index.Laws.{AreHeard}
use Rattle.master_log_laws.specs.Index.Runs.{IsRun}
use Rattle.master_laws.specs.Meets.Laws.{IsParty, ArePartiesOf}

-- the newest request is sent again, or it may be asked after what was decided: a preparation finds the slave set up for its run, a setting comes while no outputs are ready, and a row event is the next one, in a run for which the slave is opened
abbrev pub RequestsFollowThePlan : Type 0
RequestsFollowThePlan = (sc : Scenario) → AreHeard (setup_from sc) → (w : Parties) → ArePartiesOf (setup_from sc) w → (e : LogEntry) (log : List LogEntry) → IsRun (setup_from sc) (e ∷ log)
    → (s : ℕ) → IsSlaveOf w s → (d : SlaveDesc) → IsParty (setup_from sc) w s (slave_of sc s d)
    → (n : Note) → move w s e ≡ Asks n → Repeats (requests_sent w s log) n ⊎ (may_ask sc s d (decided_exchanges w s log) n ≡ true)

-- where the master asks one slave for a row event for the first time, every slave is opened for its run
abbrev pub SlavesAreOpened : Type 0
SlavesAreOpened = (sc : Scenario) → AreHeard (setup_from sc) → (w : Parties) → ArePartiesOf (setup_from sc) w → (e : LogEntry) (log : List LogEntry) → IsRun (setup_from sc) (e ∷ log)
    → (s : ℕ) → IsSlaveOf w s → (d : SlaveDesc) → IsParty (setup_from sc) w s (slave_of sc s d)
    → (n : Note) (k : RowEvent) → move w s e ≡ Asks n → event_asked n ≡ Some k
    → Repeats (requests_sent w s log) n ⊎ ((t : ℕ) → IsSlaveOf w t → (c : SlaveDesc) → IsParty (setup_from sc) w t (slave_of sc t c)
    → opened sc t c (run_after sc.steps (view (decided_exchanges w s log)).done) (decided_exchanges w t log) ≡ true)
