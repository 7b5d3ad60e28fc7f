-- The requests of a task by their type code, and the kinds of requests that are counted.
use Rattle.std.proofs.Common.{◌≡◌, ℕ, ◌+◌, Bool, true, false, List, [], ◌∷◌, ◌++◌, map, refl, sym, ap, ◌∙◌, arith}
use Rattle.std.specs.Prelude.{◌==◌, ◌&&◌, nat_le}
use Rattle.std.proofs.lemmas.Bool.{eqb-true}
use Rattle.dcp_types.specs.declared.states.State.{State}
use Rattle.pdu_layout.specs.declared.messages.Stc.{Stc}
use Rattle.pdu_layout.specs.declared.messages.Cfg.{Cfg}
use Rattle.pdu_layout.specs.declared.messages.Cfg.TheVariants as cfg
use Rattle.master_spec.specs.declared.requests.Request.TheVariants.{Change, Configure}
use Rattle.master_spec.specs.declared.tasks.Task.{Task}
use Rattle.master_spec.specs.declared.tasks.Task.TheVariants as tasks
use Rattle.master_spec.specs.Tasks.{is_by_list}
use Rattle.master_spec.specs.Jobs.{Job, asked_by}
use Rattle.master_spec.specs.Requests.{Asking, is_state_request, is_step, is_acked}
use Rattle.master_log_laws.specs.Index.Index.{code_of}
use Rattle.master_log_laws.specs.Index.Dates.{bit}

-- the type code of a task's one request, 0 for a list of configurations
abbrev pub task_code : Task → ℕ
task_code (tasks.Register uuid) = 1
task_code tasks.Setup = 0
task_code tasks.Prepare = 3
task_code tasks.Configure = 4
task_code tasks.Initialize = 5
task_code (tasks.FirstOutputs row) = 8
task_code tasks.Run = 6
task_code (tasks.Step k) = 7
task_code (tasks.Outputs k row) = 8
task_code tasks.Stop = 9
task_code tasks.Reset = 10
task_code tasks.Adjust = 0
task_code tasks.Deregister = 2

pub data Form (job : Job) : Type 0 where
  listed : task_code job.task ≡ 0 → is_by_list job.task ≡ true → asked_by job ≡ map Configure job.list → Form job
  single : (state : State) (body : Stc) → is_by_list job.task ≡ false → asked_by job ≡ Change state body ∷ [] → code_of (Change state body) ≡ task_code job.task → Form job

task_form : (task : Task) (list : List Cfg) → Form (record { task = task; list = list })
task_form (tasks.Register uuid) list = single _ _ refl refl refl
task_form tasks.Setup list = listed refl refl refl
task_form tasks.Prepare list = single _ _ refl refl refl
task_form tasks.Configure list = single _ _ refl refl refl
task_form tasks.Initialize list = single _ _ refl refl refl
task_form (tasks.FirstOutputs row) list = single _ _ refl refl refl
task_form tasks.Run list = single _ _ refl refl refl
task_form (tasks.Step k) list = single _ _ refl refl refl
task_form (tasks.Outputs k row) list = single _ _ refl refl refl
task_form tasks.Stop list = single _ _ refl refl refl
task_form tasks.Reset list = single _ _ refl refl refl
task_form tasks.Adjust list = listed refl refl refl
task_form tasks.Deregister list = single _ _ refl refl refl

pub job_form : (job : Job) → Form job
job_form job = task_form job.task job.list

-- how many jobs have a request with this type code
abbrev pub count_code : ℕ → List Job → ℕ
count_code c [] = 0
count_code c (job ∷ js) = bit (task_code job.task == c) + count_code c js

pub count_append : (c : ℕ) (az bs : List Job) → count_code c (az ++ bs) ≡ count_code c az + count_code c bs
count_append c [] bs = omega arith
count_append c (job ∷ az) bs = let h = count_append c az bs in omega (arith, h)

-- ---- codes of state requests
abbrev pub state_test : ℕ → Bool
state_test n = nat_le 1 n && nat_le n 10

pub conf_off : (body : Cfg) → state_test (code_of (Configure body)) ≡ false
conf_off (cfg.TimeRes numerator denominator) = refl
conf_off (cfg.Steps data_id steps) = refl
conf_off (cfg.Input data_id position vr source_type) = refl
conf_off (cfg.Output data_id position vr) = refl
conf_off cfg.Clear = refl
conf_off (cfg.Target net) = refl
conf_off (cfg.Source net) = refl
conf_off (cfg.Parameter vr kind value) = refl
conf_off (cfg.Tunable param_id position vr kind) = refl
conf_off (cfg.ParamNet param_id protocol port ip) = refl
conf_off (cfg.Logging category level mode) = refl
conf_off (cfg.Scope data_id scope) = refl

pub clash : true ≡ false → ⊥
clash z = cc

other_code : (n c : ℕ) → state_test c ≡ true → state_test n ≡ false → (n == c) ≡ false
other_code n c h f = by (n == c) refl
  where
    by : (b : Bool) → (n == c) ≡ b → b ≡ false
    by true e = absurd (clash (sym h ∙ ap state_test (sym (eqb-true n c e)) ∙ f))
    by false e = refl

-- ---- a kind of requests, all with one type code, of which a step that was refused is none
pub record Kind (is : Asking → Bool) (c : ℕ) : Type 0 where
  pub acked : (a : Asking) → is_acked a ≡ true → is a ≡ (a.code == c)
  pub refused : (a : Asking) → is_step a ≡ true → is_acked a ≡ false → is a ≡ false
  pub other : (a : Asking) → is_state_request a ≡ false → is a ≡ false

pub kind_of : (c : ℕ) → state_test c ≡ true → (7 == c) ≡ false → Kind (λ a. a.code == c) c
kind_of c h s = record {
  acked = λ a k. refl;
  refused = λ a k n. ap (λ (m : ℕ). m == c) (eqb-true a.code 7 k) ∙ s;
  other = λ a f. other_code a.code c h f;
}

pub and_right : (x y : Bool) → y ≡ false → (x && y) ≡ false
and_right true y e = e
and_right false y e = refl

and_true : (x y : Bool) → y ≡ true → (x && y) ≡ x
and_true true y e = e
and_true false y e = refl

pub steps_kind : Kind (λ a. is_step a && is_acked a) 7
steps_kind = record {
  acked = λ a k. and_true (is_step a) (is_acked a) k;
  refused = λ a k n. and_right (is_step a) (is_acked a) n;
  other = λ a f. ap (λ (b : Bool). b && is_acked a) (other_code a.code 7 refl f);
}
