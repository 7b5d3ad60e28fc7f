use Rattle.std.proofs.Common.{◌≡◌, ℕ, ◌<◌, ◌≤◌, false, Some, List, arith}
use Rattle.std.specs.Prelude.{count_by}
use Rattle.dcp_ends.specs.declared.entries.LogEntry.{LogEntry}
use Rattle.dcp_ends.specs.Events.{Rules}
use Rattle.scenario.specs.Sound.{IsScenario}
use Rattle.scenario.specs.declared.scenarios.Scenario.{Scenario}
use Rattle.master_spec.specs.Bound.{bound}
use Rattle.master_spec.specs.Requests.{is_turn_of}
use Rattle.master_spec.specs.Rules.{master_rules}
use Rattle.master_spec.specs.Setup.{setup_from}
use Rattle.rounds.specs.Rounds.{Rounds, has_report}
use Rattle.master_log_laws.proofs.Bound.Entries.{log_below}
use Rattle.master_log_laws.proofs.Bound.Lengths.{rounds_turns}
use Rattle.master_log_laws.proofs.turns.rounds_are_few.Goals as goal

few : (sc : Scenario) → IsScenario sc → (slaves : List Rules) (n : ℕ) (log : List LogEntry) → Rounds (Some (master_rules sc)) slaves n log → has_report (Some (master_rules sc)) log ≡ false → n < bound (setup_from sc)
few sc h slaves n log rounds over =
    let some : n ≤ count_by (is_turn_of sc.master) log = rounds_turns (master_rules sc) slaves n log rounds in
    let below : count_by (is_turn_of sc.master) log < bound (setup_from sc) = log_below (setup_from sc) log h.limits h.runs.0 over in
    omega (arith, some, below)

pub returns : goal.returns
returns c = few
