-- Models, data and the master's rows at every moment of every run of a scenario.
use Rattle.std.proofs.Common.{◌≡◌, Option, List, ◌++◌, reverse, subst, ℤ}
use Rattle.dcp_ends.specs.declared.entries.LogEntry.{LogEntry}
use Rattle.slave_desc.specs.declared.descriptions.SlaveDesc.{SlaveDesc}
use Rattle.scenario.specs.declared.scenarios.Scenario.{Scenario}
use Rattle.scenario.specs.Sound.{IsScenario}
use Rattle.lockstep.specs.declared.references.RefFault.{RefFault}
use Rattle.log_spec.specs.Log.{Parties}
use Rattle.lockstep_laws.specs.Cast.{ConversingSlaves}
use Rattle.master_log_laws.proofs.Index.ByEntry.{entry_by_entry}
use Rattle.lockstep_laws.specs.Models.Machines.{Machines}
use Rattle.lockstep_laws.specs.Models.Collecting.{Collector, Collects}
use Rattle.lockstep_laws.specs.Models.Laws.{AlwaysCollected, AlwaysInRows, DataCarryRows, FinishedIsWhole, ModelsStand, RowsAreFrontOf, StepsOnRows}
use Rattle.lockstep_laws.proofs.Models.Moments.{models, data_carry, steps_on}
use Rattle.lockstep_laws.proofs.Models.Collected.{collected, finished}
use Rattle.slave_laws.specs.Data.Made.{machines}
use Rattle.slave_laws.specs.Data.Whole.{slaves_asked}
use Rattle.slave_laws.proofs.Wiring.Rows.{slaves_are}
use Rattle.run_laws.specs.Laws.{parties, IsRunOf}
use Rattle.run_laws.specs.Collecting.Collecting.{collector}
use Rattle.run_laws.proofs.Collecting.Collected.{master_collects}
use Rattle.run_laws.specs.Headline.Laws.{AtEveryMomentCounted, AtEveryMomentInRows}
use Rattle.run_laws.proofs.Headline.Behaving.{are_slaves}
use Rattle.run_laws.proofs.Headline.Moments.{so_far}

-- the rows were collected so in what was so far and what came later
collects : (sc : Scenario) (other : SlaveDesc) → IsScenario sc → (log : List LogEntry) → IsRunOf sc other log → (later sofar : List LogEntry) → reverse log ≡ later ++ sofar
    → Collects (parties sc other) (slaves_asked sc other) (machines sc other) (collector sc other) (later ++ sofar)
collects sc other ok log r later sofar e =
    let P : List LogEntry → Type 0 = λ z. Collects (parties sc other) (slaves_asked sc other) (machines sc other) (collector sc other) z in
    subst P e (master_collects sc other ok (reverse log) (entry_by_entry sc log r.master))

in_rows : (Holds : Parties → ConversingSlaves → Machines → List (List ℤ) → List LogEntry → Type 0) → AlwaysInRows Holds → AtEveryMomentInRows Holds
in_rows Holds law sc other ok rows fault ref log r later sofar e =
    law (parties sc other) (slaves_asked sc other) (machines sc other) (are_slaves sc other ok) (slaves_are sc other ok) rows fault ref later sofar (so_far sc other ok log r later sofar e)

counted : (Holds : Collector → List (List ℤ) → Option RefFault → List LogEntry → Type 0) → AlwaysCollected Holds → AtEveryMomentCounted Holds
counted Holds law sc other ok rows fault ref log r later sofar e =
    law (parties sc other) (slaves_asked sc other) (machines sc other) (collector sc other) (are_slaves sc other ok) (slaves_are sc other ok) rows fault ref later sofar (so_far sc other ok log r later sofar e) (collects sc other ok log r later sofar e)

pub models_always : AtEveryMomentInRows ModelsStand
models_always = in_rows ModelsStand models

pub sent_always : AtEveryMomentInRows DataCarryRows
sent_always = in_rows DataCarryRows data_carry

pub used_always : AtEveryMomentInRows StepsOnRows
used_always = in_rows StepsOnRows steps_on

pub front_always : AtEveryMomentCounted RowsAreFrontOf
front_always = counted RowsAreFrontOf collected

pub whole_always : AtEveryMomentCounted FinishedIsWhole
whole_always = counted FinishedIsWhole finished
