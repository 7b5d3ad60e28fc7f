-- The requests of all jobs have a spelling.
use Rattle.std.proofs.Common.{ℕ, ◌-◌, []}
use Rattle.std.specs.Prelude.{slice_index_or}
use Rattle.master_spec.specs.declared.setups.Slave.{Slave}
use Rattle.master_spec.specs.Askable.{IsJobAskable, IsScriptAskable}
use Rattle.master_spec.proofs.Spelled.{register, prepare, configure, initialize, first_outputs, run_asked, step, outputs, stop, reset, deregister, all_asked, list_at}
use Rattle.master_core.specs.declared.stages.Part.{Part}
use Rattle.master_core.specs.declared.stages.Part.TheVariants as parts
use Rattle.master_core.specs.Stages.{job_at}

-- each job of a slave can be asked
pub job_askable : (steps : ℕ) (run : ℕ) (part : Part) (slave : Slave) → IsScriptAskable slave → IsJobAskable (job_at steps (record { run = run; part = part }) slave.script)
job_askable steps run parts.Register slave h = record { requests = (register slave.script.uuid h.uuid, tt); list = tt }
job_askable steps run parts.Setup slave h = record { requests = all_asked slave.script.setup h.setup; list = h.setup }
job_askable steps run parts.Prepare slave h = record { requests = (prepare, tt); list = tt }
job_askable steps run parts.Configure slave h = record { requests = (configure, tt); list = tt }
job_askable steps run parts.Initialize slave h = record { requests = (initialize, tt); list = tt }
job_askable steps run parts.FirstOutputs slave h = record { requests = (first_outputs, tt); list = tt }
job_askable steps run parts.Run slave h = record { requests = (run_asked, tt); list = tt }
job_askable steps run (parts.Step k) slave h = record { requests = (step, tt); list = tt }
job_askable steps run (parts.Outputs k) slave h = record { requests = (outputs, tt); list = tt }
job_askable steps run parts.Stop slave h = record { requests = (stop, tt); list = tt }
job_askable steps run parts.Reset slave h = record { requests = (reset, tt); list = tt }
job_askable steps run parts.Adjust slave h = let l = list_at slave.script.adjusts (run - 1) h.adjusts in record { requests = all_asked (slice_index_or slave.script.adjusts (run - 1) []) l; list = l }
job_askable steps run parts.Deregister slave h = record { requests = (deregister, tt); list = tt }
