-- What a run keeps to over an honest network: the lockstep of its scenario's reference.
use Rattle.std.specs.Prelude.{◌≡◌, ℕ, ℤ, Option, Some, None, List, ◌++◌, reverse}
use Rattle.dcp_ends.specs.declared.entries.LogEntry.{LogEntry}
use Rattle.slave_desc.specs.declared.descriptions.SlaveDesc.{SlaveDesc}
use Rattle.scenario.specs.declared.scenarios.Scenario.{Scenario}
use Rattle.scenario.specs.Sound.{IsScenario}
use Rattle.lockstep.specs.declared.references.RefFault.{RefFault}
use Rattle.lockstep.specs.Lockstep.{IsReference}
use Rattle.master_spec.specs.declared.reports.Report.TheVariants.{Finished}
use Rattle.master_spec.specs.Setup.{setup_from}
use Rattle.master_log_laws.specs.Index.Runs.{course_at}
use Rattle.lockstep_laws.specs.Laws.{AskedInOrder, DecidedByGiven, InStep, TakenInOrder}
use Rattle.lockstep_laws.specs.Models.Laws.{DataCarryRows, ModelsStand, StepsOnRows}
use Rattle.slave_laws.specs.Data.Made.{machines}
use Rattle.slave_laws.specs.Data.Whole.{slaves_asked}
use Rattle.run_laws.specs.Laws.{parties, IsRunOf}

-- What holds at a moment of a run, for the rows of the reference and the fault that ends them. What was so far has its newest entry first; other stands for slaves that are not there.
pub record IsInLockstep (sc : Scenario) (other : SlaveDesc) (rows : List (List ℤ)) (fault : Option RefFault) (sofar : List LogEntry) : Type 0 where
  -- each request acts once and in order, what decides it is the answer given when it was taken, and it was asked where it might be
  pub taken : TakenInOrder (parties sc other) (slaves_asked sc other) sofar
  pub decided : DecidedByGiven (parties sc other) (slaves_asked sc other) sofar
  pub asked : AskedInOrder (parties sc other) (slaves_asked sc other) sofar
  -- no slave is more than a step or a reset ahead of another
  pub together : InStep (parties sc other) (slaves_asked sc other) sofar
  -- models stand where the reference has them; data carries the rows that its ordinals stand for, and slaves step on these
  pub stands : ModelsStand (parties sc other) (slaves_asked sc other) (machines sc other) rows sofar
  pub carries : DataCarryRows (parties sc other) (slaves_asked sc other) (machines sc other) rows sofar
  pub used : StepsOnRows (parties sc other) (slaves_asked sc other) (machines sc other) rows sofar
  -- the master's rows are a front of the reference's, and all of them where it says that the run finished; then the reference has no fault
  pub front : (rest : List (List ℤ)) × (rows ≡ (course_at (setup_from sc) sofar).rows ++ rest)
  pub whole : (steps : ℕ) → (course_at (setup_from sc) sofar).report ≡ Some (Finished steps) → ((course_at (setup_from sc) sofar).rows ≡ rows) × (fault ≡ None)

-- The log, which has its oldest entry first, keeps to the reference of its scenario from its first moment to its last.
pub record KeepsToReference (sc : Scenario) (other : SlaveDesc) (log : List LogEntry) : Type 0 where
  pub rows : List (List ℤ)
  pub fault : Option RefFault
  pub reference : IsReference sc rows fault
  pub always : (later sofar : List LogEntry) → reverse log ≡ later ++ sofar → IsInLockstep sc other rows fault sofar

abbrev pub RunsKeepToReference : Type 0
RunsKeepToReference = (sc : Scenario) (other : SlaveDesc) → IsScenario sc → (log : List LogEntry) → IsRunOf sc other log → KeepsToReference sc other log
