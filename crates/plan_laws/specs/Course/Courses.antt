-- When a slave is set up for a run and opened for it, and what may be asked of it.
use Rattle.std.specs.Prelude.{ℕ, ◌+◌, ◌-◌, ◌&&◌, not, Bool, true, false, Option, Some, None, List, reverse}
use Rattle.slave_desc.specs.declared.descriptions.SlaveDesc.{SlaveDesc}
use Rattle.scenario.specs.declared.scenarios.Scenario.{Scenario}
use Rattle.pdu_layout.specs.declared.messages.Stc.TheVariants as stc
use Rattle.log_spec.specs.Messages.{Note}
use Rattle.log_spec.specs.Log.{DecidedRequest}
use Rattle.lockstep_laws.specs.Steps.{RowEvent, Show, Step, Restart, row_event_at, event_asked, run_after, BenchProgress, view}
use Rattle.slave_spec.specs.declared.words.Asked.{Asked}
use Rattle.slave_spec.specs.declared.words.Asked.TheVariants.{Change, Setting}
use Rattle.plan_laws.specs.Runs.{lists_until}
use Rattle.plan_laws.specs.Course.Taken.{asked_in, settings_taken, resets_taken, told_since, same_settings}

-- it has taken its setup list and what is set before this run, and nothing more
abbrev pub tuned : Scenario → (s : ℕ) → SlaveDesc → (run : ℕ) → List DecidedRequest → Bool
tuned sc s d run es = same_settings (settings_taken es) (reverse (lists_until sc s d (run - 1)))

-- and its outputs are ready to be shown
abbrev pub opened : Scenario → (s : ℕ) → SlaveDesc → (run : ℕ) → List DecidedRequest → Bool
opened sc s d run es = tuned sc s d run es && told_since es

abbrev pub same_event : RowEvent → RowEvent → Bool
same_event Show Show = true
same_event Step Step = true
same_event Restart Restart = true
same_event k l = false

-- a row event is the one that comes next, none is under way, and the slave is opened for its run
abbrev pub may_begin : Scenario → (s : ℕ) → SlaveDesc → List DecidedRequest → BenchProgress → Option RowEvent → Bool
may_begin sc s d es v None = true
may_begin sc s d es v (Some k) = not v.waiting && (same_event k (row_event_at sc.steps v.done) && opened sc s d (run_after sc.steps v.done) es)

-- it is prepared where it has its settings, and set where its outputs are not shown
abbrev pub may_set : Scenario → (s : ℕ) → SlaveDesc → List DecidedRequest → Option Asked → Bool
may_set sc s d es (Some (Change named stc.Prepare)) = tuned sc s d (resets_taken es + 1) es
may_set sc s d es (Some (Setting body)) = not (told_since es)
may_set sc s d es asked = true

abbrev pub may : Scenario → (s : ℕ) → SlaveDesc → List DecidedRequest → Note → Bool
may sc s d es n = may_begin sc s d es (view es) (event_asked n) && may_set sc s d es (asked_in n)
