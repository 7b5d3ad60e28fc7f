-- Runs in rounds over a quiet network: what was sent comes in the next round, so no request is sent again and the log is timely. Logs have their oldest entry first.
use Rattle.std.specs.Prelude.{◌≡◌, ℕ, ◌≤◌, zero, suc, Some, List, [], ◌∷◌, ◌++◌, reverse}
use Rattle.dcp_types.specs.declared.addresses.Address.{Address}
use Rattle.dcp_types.specs.declared.limits.Limits.{Limits}
use Rattle.dcp_ends.specs.declared.entries.LogEntry.{LogEntry}
use Rattle.dcp_ends.specs.declared.entries.LogEntry.TheVariants.{Sent}
use Rattle.slave_desc.specs.declared.descriptions.SlaveDesc.{SlaveDesc}
use Rattle.scenario.specs.declared.scenarios.Scenario.{Scenario}
use Rattle.scenario.specs.Sound.{IsScenario}
use Rattle.dcp_net.specs.declared.openings.Opening.{Opening}
use Rattle.net_world.specs.Calls.{GivesDue}
use Rattle.rounds.specs.Rounds.{Rounds, IsRound}
use Rattle.rounds.specs.Steps.{without_turns}
use Rattle.log_spec.specs.Log.{IsSlaveOf}
use Rattle.master_spec.specs.declared.reports.Report.{Report}
use Rattle.master_spec.specs.Requests.{asks}
use Rattle.master_spec.specs.Rules.{master_rules}
use Rattle.master_spec.specs.Setup.{setup_from, slave_of}
use Rattle.master_log_laws.specs.Index.Runs.{course_at}
use Rattle.lockstep_laws.specs.Models.Scenarios.{slave_numbered}
use Rattle.run_laws.specs.Laws.{parties, rules_of_slaves, IsRunInRounds}
use Rattle.completeness_laws.specs.Timely.{Timely}
use Rattle.completeness_laws.specs.Quiet.{IsQuietPlan, ComesIn, NoneAgain}

-- the master waits for four turns at least, for an answer, before a step that was refused, and for data
pub record IsPatient (limits : Limits) : Type 0 where
  pub answers : 4 ≤ limits.turn_limit
  pub retries : 4 ≤ limits.retry_turns
  pub values : 4 ≤ limits.data_turns

-- what was sent in the rounds before a round came at the latest in its looks
abbrev pub BringAll : (sc : Scenario) (count : ℕ) (log : List LogEntry) → Rounds (Some (master_rules sc)) (rules_of_slaves sc) count log → Type 0
BringAll sc zero log none = Unit {0}
BringAll sc (suc n) log (before, part, split, rounds, round) = BringAll sc n before rounds
    × ((first later : List LogEntry) (from to : Address) (bytes : List ℕ) → before ≡ first ++ Sent from to bytes ∷ later → ComesIn to from bytes (later ++ round.looks))

-- where each round up to here brought all that was sent before it, no request is sent again up to the end of the next round
abbrev pub NoneAskedAgain : Type 0
NoneAskedAgain = (sc : Scenario) (other : SlaveDesc) → IsScenario sc → IsPatient sc.limits → (n : ℕ) (before part : List LogEntry) (rounds : Rounds (Some (master_rules sc)) (rules_of_slaves sc) n before)
    → IsRound (Some (master_rules sc)) (rules_of_slaves sc) before part → BringAll sc n before rounds → IsRunInRounds sc other (before ++ part)
    → (s : ℕ) → IsSlaveOf (parties sc other) s → NoneAgain (asks sc.master (slave_of sc s (slave_numbered sc other s)) (reverse (before ++ part)))

-- over a quiet network each round brings all that was sent before it
abbrev pub RoundsBringAll : Type 0
RoundsBringAll = (sc : Scenario) (other : SlaveDesc) → IsScenario sc → IsPatient sc.limits → (log : List LogEntry) → (run : IsRunInRounds sc other log) → (o : Opening) → IsQuietPlan o.plan → GivesDue o [] (without_turns log)
    → BringAll sc run.count log run.rounds

-- over a quiet network the log of a patient master is timely wherever it has its report
abbrev pub QuietIsTimely : Type 0
QuietIsTimely = (sc : Scenario) (other : SlaveDesc) → IsScenario sc → IsPatient sc.limits → (log : List LogEntry) → IsRunInRounds sc other log → (o : Opening) → IsQuietPlan o.plan → GivesDue o [] (without_turns log)
    → (report : Report) → (course_at (setup_from sc) (reverse log)).report ≡ Some report → Timely (setup_from sc) (reverse log)
