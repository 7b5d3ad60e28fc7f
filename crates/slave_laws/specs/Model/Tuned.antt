-- What is known of the model of a slave by the exchanges with it.
use Rattle.std.specs.Prelude.{◌≡◌, ℕ, ◌+◌, true, Ok, List, ℤ}
use Rattle.dcp_ends.specs.declared.entries.LogEntry.{LogEntry}
use Rattle.scenario.specs.declared.scenarios.Scenario.{Scenario}
use Rattle.scenario.specs.Settings.{parameters}
use Rattle.lockstep.specs.Lockstep.{shown_at}
use Rattle.log_spec.specs.Log.{Parties, DecidedRequest}
use Rattle.plan_laws.specs.Taking.{IsScenarioSlave}
use Rattle.slave_spec.specs.declared.words.SlaveSetup.{SlaveSetup}
use Rattle.slave_spec.specs.Slaves.{machine}
use Rattle.slave_laws.specs.Talk.Desks.{desk_at}
use Rattle.slave_laws.specs.Talk.Benches.{bench_at}
use Rattle.slave_laws.specs.Talk.Sends.{ReadsMessages}
use Rattle.slave_laws.specs.Model.Models.{plant_at}
use Rattle.plan_laws.specs.Course.Courses.{tuned, opened}

-- the requests that slave s took, each with the answer given
abbrev pub served_at : SlaveSetup → Parties → ℕ → List LogEntry → List DecidedRequest
served_at x w s log = (desk_at (machine x) w s log).served

-- the run that comes after the resets
abbrev pub run_here : SlaveSetup → Parties → ℕ → List LogEntry → ℕ
run_here x w s log = (bench_at x w s log).resets + 1

abbrev pub TunedHaveParameters : Type 0
TunedHaveParameters = (sc : Scenario) (s : ℕ) (x : SlaveSetup) (w : Parties) → IsScenarioSlave sc s x.desc → ReadsMessages w → (log : List LogEntry)
    → tuned sc s x.desc (run_here x w s log) (served_at x w s log) ≡ true → (plant_at x w s log).model.parameters ≡ parameters sc s x.desc (run_here x w s log)

abbrev pub OpenedOutputsFit : Type 0
OpenedOutputsFit = (sc : Scenario) (s : ℕ) (x : SlaveSetup) (w : Parties) → IsScenarioSlave sc s x.desc → ReadsMessages w → (log : List LogEntry)
    → opened sc s x.desc (run_here x w s log) (served_at x w s log) ≡ true
    → (vs : List ℤ) × (shown_at sc s x.desc (run_here x w s log) (Ok (plant_at x w s log).model.state) ≡ Ok vs)
