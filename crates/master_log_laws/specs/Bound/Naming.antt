-- Which state a request names: the one in which the master takes the slave to be.
use Rattle.std.specs.Prelude.{◌≡◌, Option, Some, None, List, [], ◌∷◌}
use Rattle.dcp_types.specs.declared.states.State.{State}
use Rattle.master_spec.specs.declared.requests.Request.{Request}
use Rattle.master_spec.specs.declared.requests.Request.TheVariants.{Change, Configure, AskState, AskError}
use Rattle.master_spec.specs.Tasks.{target_of}
use Rattle.master_spec.specs.Jobs.{Job}

-- the target of a task, where it has one, and else this state
abbrev pub target_or : State → Option State → State
target_or state None = state
target_or state (Some target) = target

-- the target of the last of these jobs that has one, and this state where none has
abbrev pub last_target : State → List Job → State
last_target state [] = state
last_target state (job ∷ js) = last_target (target_or state (target_of job.task)) js

-- a state request names this state; any other request names none
abbrev pub NamesState : State → Request → Type 0
NamesState state (Change named body) = named ≡ state
NamesState state (Configure body) = Unit {0}
NamesState state AskState = Unit {0}
NamesState state AskError = Unit {0}
