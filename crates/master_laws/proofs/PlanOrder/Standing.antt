-- Where the plan has a slave before each of its jobs: what was set, the resets and the row events so far, and whether its outputs are ready.
use Rattle.std.proofs.Common.{◌≡◌, ℕ, zero, suc, ◌+◌, ◌-◌, ◌<◌, Bool, true, false, Some, List, [], ◌∷◌, ◌++◌, reverse, refl, sym, ap, ◌∙◌, subst, arith}
use Rattle.std.specs.Prelude.{slice_get, slice_index_or}
use Rattle.std.specs.List.{flat_map, range_with_len}
use Rattle.pdu_layout.specs.declared.messages.Cfg.{Cfg}
use Rattle.lockstep_laws.specs.Steps.{RowEvent, Show, Step, Restart, row_event_at, run_after}
use Rattle.master_spec.specs.declared.setups.Script.{Script}
use Rattle.master_spec.specs.declared.tasks.Task.{Task}
use Rattle.master_spec.specs.declared.tasks.Task.TheVariants as tasks
use Rattle.master_spec.specs.Jobs.{Job}

-- the settings have the newest first
pub record Standing : Type 0 where
  pub settings : List Cfg
  pub resets : ℕ
  pub events : ℕ
  pub ready : Bool

abbrev pub at_first : Standing
at_first = record { settings = []; resets = 0; events = 0; ready = false }

abbrev pub with_list : List Cfg → Standing → Standing
with_list list s = record { settings = reverse list ++ s.settings; resets = s.resets; events = s.events; ready = s.ready }

abbrev pub with_event : Standing → Standing
with_event s = record { settings = s.settings; resets = s.resets; events = s.events + 1; ready = s.ready }

abbrev pub after_task : Task → List Cfg → Standing → Standing
after_task (tasks.Register uuid) list s = s
after_task tasks.Setup list s = with_list list s
after_task tasks.Prepare list s = s
after_task tasks.Configure list s = s
after_task tasks.Initialize list s = record { settings = s.settings; resets = s.resets; events = s.events; ready = true }
after_task (tasks.FirstOutputs row) list s = with_event s
after_task tasks.Run list s = s
after_task (tasks.Step k) list s = with_event s
after_task (tasks.Outputs k row) list s = with_event s
after_task tasks.Stop list s = s
after_task tasks.Reset list s = record { settings = s.settings; resets = s.resets + 1; events = s.events + 1; ready = false }
after_task tasks.Adjust list s = with_list list s
after_task tasks.Deregister list s = s

abbrev pub after_job : Job → Standing → Standing
after_job job s = after_task job.task job.list s

-- after so many jobs
abbrev pub standing : List Job → ℕ → Standing → Standing
standing js zero s = s
standing [] (suc p) s = s
standing (j ∷ js) (suc p) s = standing js p (after_job j s)

pub standing_next : (js : List Job) (p : ℕ) (s : Standing) (job : Job) → slice_get js p ≡ Some job → standing js (suc p) s ≡ after_job job (standing js p s)
standing_next [] p s job e = absurd cc
standing_next (j ∷ js) zero s job e = let z : j ≡ job = cc in ap (λ (x : Job). after_job x s) z
standing_next (j ∷ js) (suc p) s job e = standing_next js p (after_job j s) job e

-- ---- what a job finds
-- the setup list, and the lists that follow the first r runs
abbrev pub set_until : Script → ℕ → List Cfg
set_until script r = script.setup ++ flat_map (λ k. slice_index_or script.adjusts (k - 1) []) (range_with_len 1 r)

pub record IsSet (runs : ℕ) (script : Script) (s : Standing) : Type 0 where
  pub settings : s.settings ≡ reverse (set_until script s.resets)
  pub within : s.resets < runs

-- a row event that comes next, in the run in which the slave is, with its outputs ready
pub record IsReady (steps runs : ℕ) (script : Script) (k : RowEvent) (s : Standing) : Type 0 where
  pub set : IsSet runs script s
  pub ready : s.ready ≡ true
  pub run : run_after steps s.events ≡ s.resets + 1
  pub event : row_event_at steps s.events ≡ k

abbrev pub Finds : (steps runs : ℕ) → Script → Task → Standing → Type 0
Finds steps runs script (tasks.Register uuid) s = Unit {0}
Finds steps runs script tasks.Setup s = s.ready ≡ false
Finds steps runs script tasks.Prepare s = IsSet runs script s
Finds steps runs script tasks.Configure s = Unit {0}
Finds steps runs script tasks.Initialize s = Unit {0}
Finds steps runs script (tasks.FirstOutputs row) s = IsReady steps runs script Show s
Finds steps runs script tasks.Run s = Unit {0}
Finds steps runs script (tasks.Step k) s = IsReady steps runs script Step s
Finds steps runs script (tasks.Outputs k row) s = IsReady steps runs script Show s
Finds steps runs script tasks.Stop s = Unit {0}
Finds steps runs script tasks.Reset s = IsReady steps runs script Restart s
Finds steps runs script tasks.Adjust s = s.ready ≡ false
Finds steps runs script tasks.Deregister s = Unit {0}

-- each of these jobs finds it so, and they lead to t
abbrev pub Leads : (steps runs : ℕ) → Script → List Job → (s t : Standing) → Type 0
Leads steps runs script [] s t = s ≡ t
Leads steps runs script (j ∷ js) s t = Finds steps runs script j.task s × Leads steps runs script js (after_job j s) t

pub leads_append : (steps runs : ℕ) (script : Script) (xs ys : List Job) (s t u : Standing) → Leads steps runs script xs s t → Leads steps runs script ys t u → Leads steps runs script (xs ++ ys) s u
leads_append steps runs script [] ys s t u g h = let P : Standing → Type 0 = λ z. Leads steps runs script ys z u in subst P (sym g) h
leads_append steps runs script (x ∷ xs) ys s t u g h = (g.0, leads_append steps runs script xs ys (after_job x s) t u g.1 h)

pub finds_at : (steps runs : ℕ) (script : Script) (js : List Job) (p : ℕ) (s t : Standing) → Leads steps runs script js s t → (job : Job) → slice_get js p ≡ Some job → Finds steps runs script job.task (standing js p s)
finds_at steps runs script [] p s t g job e = absurd cc
finds_at steps runs script (j ∷ js) zero s t g job e = let z : j ≡ job = cc in let P : Job → Type 0 = λ x. Finds steps runs script x.task s in subst P z g.0
finds_at steps runs script (j ∷ js) (suc p) s t g job e = finds_at steps runs script js p (after_job j s) t g.1 job e

-- ---- the jobs of two slaves are alike but for their identities and their lists
abbrev pub kind_of : Task → Task
kind_of (tasks.Register uuid) = tasks.Register 0
kind_of tasks.Setup = tasks.Setup
kind_of tasks.Prepare = tasks.Prepare
kind_of tasks.Configure = tasks.Configure
kind_of tasks.Initialize = tasks.Initialize
kind_of (tasks.FirstOutputs row) = tasks.FirstOutputs row
kind_of tasks.Run = tasks.Run
kind_of (tasks.Step k) = tasks.Step k
kind_of (tasks.Outputs k row) = tasks.Outputs k row
kind_of tasks.Stop = tasks.Stop
kind_of tasks.Reset = tasks.Reset
kind_of tasks.Adjust = tasks.Adjust
kind_of tasks.Deregister = tasks.Deregister

abbrev pub AreAlike : List Job → List Job → Type 0
AreAlike [] [] = Unit {0}
AreAlike [] (k ∷ ks) = ⊥
AreAlike (j ∷ js) [] = ⊥
AreAlike (j ∷ js) (k ∷ ks) = (kind_of j.task ≡ kind_of k.task) × AreAlike js ks

pub alike_self : (js : List Job) → AreAlike js js
alike_self [] = tt
alike_self (j ∷ js) = (refl, alike_self js)

pub alike_append : (js ks ls ms : List Job) → AreAlike js ks → AreAlike ls ms → AreAlike (js ++ ls) (ks ++ ms)
alike_append [] [] ls ms a b = b
alike_append [] (k ∷ ks) ls ms a b = absurd a
alike_append (j ∷ js) [] ls ms a b = absurd a
alike_append (j ∷ js) (k ∷ ks) ls ms a b = (a.0, alike_append js ks ls ms a.1 b)

pub alike_at : (js ks : List Job) (p : ℕ) (j k : Job) → AreAlike js ks → slice_get js p ≡ Some j → slice_get ks p ≡ Some k → kind_of j.task ≡ kind_of k.task
alike_at [] ks p j k a e f = absurd cc
alike_at (x ∷ js) [] p j k a e f = absurd cc
alike_at (x ∷ js) (y ∷ ks) zero j k a e f = let z : x ≡ j = cc in let w : y ≡ k = cc in ap (λ (i : Job). kind_of i.task) (sym z) ∙ a.0 ∙ ap (λ (i : Job). kind_of i.task) w
alike_at (x ∷ js) (y ∷ ks) (suc p) j k a e f = alike_at js ks p j k a.1 e f

pub record SameClock (s t : Standing) : Type 0 where
  pub resets : s.resets ≡ t.resets
  pub events : s.events ≡ t.events

-- what a job adds to both counts
abbrev resets_in : Task → ℕ
resets_in tasks.Reset = 1
resets_in _ = 0

abbrev events_in : Task → ℕ
events_in (tasks.FirstOutputs row) = 1
events_in (tasks.Step k) = 1
events_in (tasks.Outputs k row) = 1
events_in tasks.Reset = 1
events_in _ = 0

none : (n : ℕ) → n ≡ n + 0
none n = omega arith

resets_after : (task : Task) (list : List Cfg) (s : Standing) → (after_task task list s).resets ≡ s.resets + resets_in (kind_of task)
resets_after (tasks.Register uuid) list s = none s.resets
resets_after tasks.Setup list s = none s.resets
resets_after tasks.Prepare list s = none s.resets
resets_after tasks.Configure list s = none s.resets
resets_after tasks.Initialize list s = none s.resets
resets_after (tasks.FirstOutputs row) list s = none s.resets
resets_after tasks.Run list s = none s.resets
resets_after (tasks.Step k) list s = none s.resets
resets_after (tasks.Outputs k row) list s = none s.resets
resets_after tasks.Stop list s = none s.resets
resets_after tasks.Reset list s = refl
resets_after tasks.Adjust list s = none s.resets
resets_after tasks.Deregister list s = none s.resets

events_after : (task : Task) (list : List Cfg) (s : Standing) → (after_task task list s).events ≡ s.events + events_in (kind_of task)
events_after (tasks.Register uuid) list s = none s.events
events_after tasks.Setup list s = none s.events
events_after tasks.Prepare list s = none s.events
events_after tasks.Configure list s = none s.events
events_after tasks.Initialize list s = none s.events
events_after (tasks.FirstOutputs row) list s = refl
events_after tasks.Run list s = none s.events
events_after (tasks.Step k) list s = refl
events_after (tasks.Outputs k row) list s = refl
events_after tasks.Stop list s = none s.events
events_after tasks.Reset list s = refl
events_after tasks.Adjust list s = none s.events
events_after tasks.Deregister list s = none s.events

clock_after : (j k : Job) (s t : Standing) → kind_of j.task ≡ kind_of k.task → SameClock s t → SameClock (after_job j s) (after_job k t)
clock_after j k s t e c = record {
  resets = resets_after j.task j.list s ∙ ap (λ (n : ℕ). n + resets_in (kind_of j.task)) c.resets ∙ ap (λ (x : Task). t.resets + resets_in x) e ∙ sym (resets_after k.task k.list t);
  events = events_after j.task j.list s ∙ ap (λ (n : ℕ). n + events_in (kind_of j.task)) c.events ∙ ap (λ (x : Task). t.events + events_in x) e ∙ sym (events_after k.task k.list t);
}

pub same_clock : (js ks : List Job) (p : ℕ) (s t : Standing) → AreAlike js ks → SameClock s t → SameClock (standing js p s) (standing ks p t)
same_clock js ks zero s t a c = c
same_clock [] [] (suc p) s t a c = c
same_clock [] (k ∷ ks) (suc p) s t a c = absurd a
same_clock (j ∷ js) [] (suc p) s t a c = absurd a
same_clock (j ∷ js) (k ∷ ks) (suc p) s t a c = same_clock js ks p (after_job j s) (after_job k t) a.1 (clock_after j k s t a.0 c)
