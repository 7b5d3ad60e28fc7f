-- From the laws over a run to every moment of every run of a scenario.
use Rattle.std.proofs.Common.{◌≡◌, List, ◌++◌, reverse, subst}
use Rattle.dcp_ends.specs.declared.entries.LogEntry.{LogEntry}
use Rattle.slave_desc.specs.declared.descriptions.SlaveDesc.{SlaveDesc}
use Rattle.scenario.specs.declared.scenarios.Scenario.{Scenario}
use Rattle.scenario.specs.Sound.{IsScenario}
use Rattle.log_spec.specs.Log.{Parties}
use Rattle.lockstep_laws.specs.Cast.{ConversingSlaves}
use Rattle.lockstep_laws.specs.Runs.{Behaves}
use Rattle.lockstep_laws.specs.Laws.{Always, AskedInOrder, DecidedAsServed, DecidedByGiven, InStep, StepTogether, TakenInOrder}
use Rattle.lockstep_laws.proofs.Deciding.{taken, served, deciding}
use Rattle.lockstep_laws.proofs.Moments.{asked}
use Rattle.lockstep_laws.proofs.Places.{step_together, in_step}
use Rattle.slave_laws.specs.Data.Whole.{slaves_asked}
use Rattle.run_laws.specs.Laws.{parties, IsRunOf}
use Rattle.run_laws.specs.Headline.Laws.{AtEveryMoment}
use Rattle.run_laws.proofs.Headline.Behaving.{all_behave, are_slaves}

-- all behaved in what was so far and what came later
pub so_far : (sc : Scenario) (other : SlaveDesc) → IsScenario sc → (log : List LogEntry) → IsRunOf sc other log → (later sofar : List LogEntry) → reverse log ≡ later ++ sofar
    → Behaves (parties sc other) (slaves_asked sc other) (later ++ sofar)
so_far sc other ok log r later sofar e =
    let P : List LogEntry → Type 0 = λ z. Behaves (parties sc other) (slaves_asked sc other) z in
    subst P e (all_behave sc other ok log r)

at_moment : (Holds : Parties → ConversingSlaves → List LogEntry → Type 0) → Always Holds → AtEveryMoment Holds
at_moment Holds law sc other ok log r later sofar e =
    law (parties sc other) (slaves_asked sc other) (are_slaves sc other ok) later sofar (so_far sc other ok log r later sofar e)

pub taken_always : AtEveryMoment TakenInOrder
taken_always = at_moment TakenInOrder taken

pub deciding_always : AtEveryMoment DecidedByGiven
deciding_always = at_moment DecidedByGiven deciding

pub served_always : AtEveryMoment DecidedAsServed
served_always = at_moment DecidedAsServed served

pub asked_always : AtEveryMoment AskedInOrder
asked_always = at_moment AskedInOrder asked

pub together_always : AtEveryMoment StepTogether
together_always = at_moment StepTogether step_together

pub in_step_always : AtEveryMoment InStep
in_step_always = at_moment InStep in_step
