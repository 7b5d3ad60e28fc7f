-- Where a schedule stands after another one.
use Rattle.std.specs.Prelude.{◌≡◌, Some}
use Rattle.master_core.specs.declared.stages.Schedule.{Schedule}
use Rattle.master_core.specs.Stages.{next_in}

-- the same runs, at the next phase
pub record IsAfter (s next : Schedule) : Type 0 where
  pub steps_are : next.steps ≡ s.steps
  pub runs_are : next.runs ≡ s.runs
  pub stage_is : next_in s.steps s.runs s.stage.run s.stage.part ≡ Some next.stage
