-- The phases of a run as the code tells them apart, and the job that each of them is.
use Rattle.std.specs.Prelude.{ℕ, ◌+◌, ◌-◌, ◌≤◌, nat_lt, nat_le, Bool, true, ◌&&◌, if◌then◌else◌, Option, Some, None, List, [], slice_index_or}
use Rattle.pdu_layout.specs.declared.messages.Cfg.{Cfg}
use Rattle.lockstep.specs.Lockstep.{row_index}
use Rattle.master_spec.specs.declared.setups.Script.{Script}
use Rattle.master_spec.specs.declared.tasks.Task.{Task}
use Rattle.master_spec.specs.declared.tasks.Task.TheVariants as tasks
use Rattle.master_spec.specs.Jobs.{Job}
use Rattle.master_core.specs.declared.stages.Part.{Part}
use Rattle.master_core.specs.declared.stages.Part.TheVariants as parts
use Rattle.master_core.specs.declared.stages.Stage.{Stage}

-- the task of a slave with this identity
abbrev pub part_task : (steps uuid run : ℕ) → Part → Task
part_task steps uuid run parts.Register = tasks.Register uuid
part_task steps uuid run parts.Setup = tasks.Setup
part_task steps uuid run parts.Prepare = tasks.Prepare
part_task steps uuid run parts.Configure = tasks.Configure
part_task steps uuid run parts.Initialize = tasks.Initialize
part_task steps uuid run parts.FirstOutputs = tasks.FirstOutputs (row_index steps run 0)
part_task steps uuid run parts.Run = tasks.Run
part_task steps uuid run (parts.Step k) = tasks.Step k
part_task steps uuid run (parts.Outputs k) = tasks.Outputs k (row_index steps run k)
part_task steps uuid run parts.Stop = tasks.Stop
part_task steps uuid run parts.Reset = tasks.Reset
part_task steps uuid run parts.Adjust = tasks.Adjust
part_task steps uuid run parts.Deregister = tasks.Deregister

-- the list that goes with it
abbrev pub list_in : Script → (run : ℕ) → Part → List Cfg
list_in script run parts.Register = []
list_in script run parts.Setup = script.setup
list_in script run parts.Prepare = []
list_in script run parts.Configure = []
list_in script run parts.Initialize = []
list_in script run parts.FirstOutputs = []
list_in script run parts.Run = []
list_in script run (parts.Step k) = []
list_in script run (parts.Outputs k) = []
list_in script run parts.Stop = []
list_in script run parts.Reset = []
list_in script run parts.Adjust = slice_index_or script.adjusts (run - 1) []
list_in script run parts.Deregister = []

-- the row of its outputs, counted over all runs
abbrev pub part_row : (steps run : ℕ) → Part → Option ℕ
part_row steps run parts.Register = None
part_row steps run parts.Setup = None
part_row steps run parts.Prepare = None
part_row steps run parts.Configure = None
part_row steps run parts.Initialize = None
part_row steps run parts.FirstOutputs = Some (row_index steps run 0)
part_row steps run parts.Run = None
part_row steps run (parts.Step k) = None
part_row steps run (parts.Outputs k) = Some (row_index steps run k)
part_row steps run parts.Stop = None
part_row steps run parts.Reset = None
part_row steps run parts.Adjust = None
part_row steps run parts.Deregister = None

abbrev pub job_at : (steps : ℕ) → Stage → Script → Job
job_at steps stage script = record { task = part_task steps script.uuid stage.run stage.part; list = list_in script stage.run stage.part }

-- the first phase
abbrev pub first_stage : Stage
first_stage = record { run = 1; part = parts.Register }

-- after so many steps of a run
abbrev pub after_step : (k steps : ℕ) → Part
after_step k steps = if nat_lt k steps then parts.Step (k + 1) else parts.Stop

abbrev part_of : ℕ → Part → Option Stage
part_of run part = Some (record { run = run; part = part })

-- the next phase; none after the last
abbrev pub next_in : (steps runs run : ℕ) → Part → Option Stage
next_in steps runs run parts.Register = part_of run parts.Setup
next_in steps runs run parts.Setup = part_of run parts.Prepare
next_in steps runs run parts.Prepare = part_of run parts.Configure
next_in steps runs run parts.Configure = part_of run parts.Initialize
next_in steps runs run parts.Initialize = part_of run parts.FirstOutputs
next_in steps runs run parts.FirstOutputs = part_of run parts.Run
next_in steps runs run parts.Run = part_of run (after_step 0 steps)
next_in steps runs run (parts.Step k) = part_of run (parts.Outputs k)
next_in steps runs run (parts.Outputs k) = part_of run (after_step k steps)
next_in steps runs run parts.Stop = part_of run (if nat_lt run runs then parts.Reset else parts.Deregister)
next_in steps runs run parts.Reset = part_of run parts.Adjust
next_in steps runs run parts.Adjust = part_of (run + 1) parts.Prepare
next_in steps runs run parts.Deregister = None

-- a step is one of those of the run
abbrev pub IsWithin : (steps : ℕ) → Part → Type 0
IsWithin steps (parts.Step k) = (1 ≤ k) × (k ≤ steps)
IsWithin steps (parts.Outputs k) = (1 ≤ k) × (k ≤ steps)
IsWithin steps _ = Unit {0}

-- a step is one of those of the run, and a reset comes between two runs
abbrev pub is_part_within : (steps runs run : ℕ) → Part → Bool
is_part_within steps runs run (parts.Step k) = nat_le 1 k && nat_le k steps
is_part_within steps runs run (parts.Outputs k) = nat_le 1 k && nat_le k steps
is_part_within steps runs run parts.Reset = nat_lt run runs
is_part_within steps runs run parts.Adjust = nat_lt run runs
is_part_within steps runs run parts.Register = true
is_part_within steps runs run parts.Setup = true
is_part_within steps runs run parts.Prepare = true
is_part_within steps runs run parts.Configure = true
is_part_within steps runs run parts.Initialize = true
is_part_within steps runs run parts.FirstOutputs = true
is_part_within steps runs run parts.Run = true
is_part_within steps runs run parts.Stop = true
is_part_within steps runs run parts.Deregister = true
