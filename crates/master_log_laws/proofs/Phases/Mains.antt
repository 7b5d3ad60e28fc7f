-- The requests of a job, one slot after the other.
use Rattle.std.proofs.Common.{◌≡◌, ℕ, zero, suc, ◌+◌, ◌<◌, Bool, true, false, if◌then◌else◌, ◌⊎◌, Option, Some, None, List, [], ◌∷◌, ◌++◌, map, length, refl, sym, ap, ◌∙◌, arith}
use Rattle.std.specs.Prelude.{◌==◌, ◌&&◌, ◌||◌, nat_le, count_by, slice_get}
use Rattle.std.proofs.lemmas.List.Sums.{sum_by-cons}
use Rattle.std.proofs.lemmas.Option.{slice_get_within}
use Rattle.dcp_types.specs.declared.states.State.{State}
use Rattle.pdu_layout.specs.declared.messages.Cfg.{Cfg}
use Rattle.pdu_layout.specs.declared.messages.Stc.{Stc}
use Rattle.pdu_layout.specs.declared.messages.Stc.TheVariants as stc
use Rattle.pdu_layout.specs.declared.messages.Cfg.TheVariants as cfg
use Rattle.master_spec.specs.declared.requests.Request.{Request}
use Rattle.master_spec.specs.declared.requests.Request.TheVariants.{Change, Configure, AskState, AskError}
use Rattle.master_spec.specs.declared.requests.Answer.{Answer}
use Rattle.master_spec.specs.declared.requests.Answer.TheVariants.{Ack}
use Rattle.master_spec.specs.declared.tasks.Task.{Task}
use Rattle.master_spec.specs.declared.tasks.Task.TheVariants as tasks
use Rattle.master_spec.specs.Tasks.{is_by_list, asks_step}
use Rattle.master_spec.specs.Jobs.{Job, asked_by}
use Rattle.master_spec.specs.Requests.{Asking, Decision, is_configuration, is_main, is_step, is_ack, is_acked_by, is_acked, acked}
use Rattle.master_spec.specs.Shown.{IsMissing}
use Rattle.master_log_laws.specs.Index.Index.{code_of}
use Rattle.master_log_laws.proofs.Phases.Now.{IsOf, IsDecidedBy}

abbrev pub is_main_request : Request → Bool
is_main_request (Change state body) = true
is_main_request (Configure body) = true
is_main_request AskState = false
is_main_request AskError = false

abbrev main_code : ℕ → Bool
main_code n = (nat_le 1 n && nat_le n 10) || (nat_le 32 n && nat_le n 43)

code_is_main : (r : Request) → main_code (code_of r) ≡ is_main_request r
code_is_main (Change state (stc.Register uuid op_mode major minor)) = refl
code_is_main (Change state stc.Deregister) = refl
code_is_main (Change state stc.Prepare) = refl
code_is_main (Change state stc.Configure) = refl
code_is_main (Change state stc.Initialize) = refl
code_is_main (Change state (stc.Run start_time)) = refl
code_is_main (Change state (stc.DoStep steps)) = refl
code_is_main (Change state stc.SendOutputs) = refl
code_is_main (Change state stc.Stop) = refl
code_is_main (Change state stc.Reset) = refl
code_is_main (Configure (cfg.TimeRes numerator denominator)) = refl
code_is_main (Configure (cfg.Steps data_id steps)) = refl
code_is_main (Configure (cfg.Input data_id position vr source_type)) = refl
code_is_main (Configure (cfg.Output data_id position vr)) = refl
code_is_main (Configure cfg.Clear) = refl
code_is_main (Configure (cfg.Target net)) = refl
code_is_main (Configure (cfg.Source net)) = refl
code_is_main (Configure (cfg.Parameter vr kind value)) = refl
code_is_main (Configure (cfg.Tunable param_id position vr kind)) = refl
code_is_main (Configure (cfg.ParamNet param_id protocol port ip)) = refl
code_is_main (Configure (cfg.Logging category level mode)) = refl
code_is_main (Configure (cfg.Scope data_id scope)) = refl
code_is_main AskState = refl
code_is_main AskError = refl

pub of_main : (r : Request) (b : Asking) → IsOf r b → is_main b ≡ is_main_request r
of_main r b o = ap main_code o.0 ∙ code_is_main r

pub code_is_step : (r : Request) → (code_of r == 7) ≡ asks_step r
code_is_step (Change state (stc.Register uuid op_mode major minor)) = refl
code_is_step (Change state stc.Deregister) = refl
code_is_step (Change state stc.Prepare) = refl
code_is_step (Change state stc.Configure) = refl
code_is_step (Change state stc.Initialize) = refl
code_is_step (Change state (stc.Run start_time)) = refl
code_is_step (Change state (stc.DoStep steps)) = refl
code_is_step (Change state stc.SendOutputs) = refl
code_is_step (Change state stc.Stop) = refl
code_is_step (Change state stc.Reset) = refl
code_is_step (Configure (cfg.TimeRes numerator denominator)) = refl
code_is_step (Configure (cfg.Steps data_id steps)) = refl
code_is_step (Configure (cfg.Input data_id position vr source_type)) = refl
code_is_step (Configure (cfg.Output data_id position vr)) = refl
code_is_step (Configure cfg.Clear) = refl
code_is_step (Configure (cfg.Target net)) = refl
code_is_step (Configure (cfg.Source net)) = refl
code_is_step (Configure (cfg.Parameter vr kind value)) = refl
code_is_step (Configure (cfg.Tunable param_id position vr kind)) = refl
code_is_step (Configure (cfg.ParamNet param_id protocol port ip)) = refl
code_is_step (Configure (cfg.Logging category level mode)) = refl
code_is_step (Configure (cfg.Scope data_id scope)) = refl
code_is_step AskState = refl
code_is_step AskError = refl

pub of_step : (r : Request) (b : Asking) → IsOf r b → is_step b ≡ asks_step r
of_step r b o = ap (λ (n : ℕ). n == 7) o.0 ∙ code_is_step r

-- ---- counting those that are acknowledged
abbrev pub one_if : Bool → ℕ
one_if b = if b then 1 else 0

pub acked_more : (b : Asking) (bs : List Asking) → acked (b ∷ bs) ≡ one_if (is_main b && is_acked b) + acked bs
acked_more b bs = sum_by-cons (λ (a : Asking). if is_main a && is_acked a then 1 else 0) b bs

pub acked_yes : (b : Asking) (bs : List Asking) → is_main b ≡ true → is_acked b ≡ true → acked (b ∷ bs) ≡ acked bs + 1
acked_yes b bs m a = let z : one_if (is_main b && is_acked b) ≡ 1 = ap (λ (t : Bool). one_if (t && is_acked b)) m ∙ ap (λ (t : Bool). one_if t) a in let e = acked_more b bs in omega (arith, z, e)

pub acked_no : (b : Asking) (bs : List Asking) → (is_main b && is_acked b) ≡ false → acked (b ∷ bs) ≡ acked bs
acked_no b bs m = let z : one_if (is_main b && is_acked b) ≡ 0 = ap one_if m in let e = acked_more b bs in omega (arith, z, e)

pub acked_append : (bs cs : List Asking) → acked (bs ++ cs) ≡ acked bs + acked cs
acked_append [] cs = let z : acked [] ≡ 0 = refl in omega (arith, z)
acked_append (b ∷ bs) cs =
    let h = acked_append bs cs in
    let e = acked_more b (bs ++ cs) in
    let f = acked_more b bs in
    omega (arith, h, e, f)

and_right : (x y : Bool) → y ≡ false → (x && y) ≡ false
and_right true y e = e
and_right false y e = refl

pub is_acked_of : (a : Answer) (b : Asking) → IsDecidedBy (Some a) b → is_acked b ≡ is_ack a
is_acked_of a b d = ap (λ (o : Option Decision). is_acked_by o) d.1

pub unacked : (o : Option Answer) (b : Asking) (bs : List Asking) → IsDecidedBy o b → (o ≡ Some Ack → ⊥) → acked (b ∷ bs) ≡ acked bs
unacked None b bs d n = acked_no b bs (and_right (is_main b) (is_acked b) (ap (λ (o : Option Decision). is_acked_by o) d))
unacked (Some a) b bs d n = acked_no b bs (and_right (is_main b) (is_acked b) (is_acked_of a b d ∙ by a n))
  where
    by : (a : Answer) → (Some a ≡ Some Ack → ⊥) → is_ack a ≡ false
    by Ack n = absurd (n refl)
    by a n = refl

-- ---- the slots of a job
pub record IsMain (job : Job) (b : Asking) (n : ℕ) : Type 0 where
  pub request : Request
  pub of : IsOf request b
  pub main : is_main_request request ≡ true
  pub slot : slice_get (asked_by job) n ≡ Some request

-- acknowledged, or a step that was refused because inputs were missing
abbrev pub IsTried : Asking → Type 0
IsTried b = (is_acked b ≡ true) ⊎ (IsMissing b × (is_step b ≡ true))

abbrev pub AreMains : Job → List Asking → Type 0
AreMains job [] = Unit {0}
AreMains job (b ∷ ms) = IsMain job b (acked ms) × (IsTried b × AreMains job ms)

-- those that change nothing
abbrev pub AreQuestions : List Asking → Type 0
AreQuestions [] = Unit {0}
AreQuestions (b ∷ qs) = (is_main b ≡ false) × AreQuestions qs

pub questions_acked : (qs cs : List Asking) → AreQuestions qs → acked (qs ++ cs) ≡ acked cs
questions_acked [] cs q = refl
questions_acked (b ∷ qs) cs q = acked_no b (qs ++ cs) (ap (λ (t : Bool). t && is_acked b) q.0) ∙ questions_acked qs cs q.1

-- every request of a job is a main one
map_main : (list : List Cfg) (n : ℕ) (r : Request) → slice_get (map Configure list) n ≡ Some r → (body : Cfg) × ((r ≡ Configure body) × (slice_get list n ≡ Some body))
map_main [] n r e = absurd cc
map_main (body ∷ list) zero r e = let z : Configure body ≡ r = cc in (body, (sym z, refl))
map_main (body ∷ list) (suc n) r e = map_main list n r e

one_slot : (q : Request) (n : ℕ) (r : Request) → slice_get (q ∷ []) n ≡ Some r → (n ≡ 0) × (q ≡ r)
one_slot q zero r e = let z : q ≡ r = cc in (refl, z)
one_slot q (suc n) r e = absurd cc

-- a job has a list of configurations, or one request
pub data Asks (job : Job) : Type 0 where
  by_list : is_by_list job.task ≡ true → asked_by job ≡ map Configure job.list → Asks job
  by_one : (state : State) (body : Stc) → is_by_list job.task ≡ false → asked_by job ≡ Change state body ∷ [] → Asks job

task_asks : (task : Task) (list : List Cfg) → Asks (record { task = task; list = list })
task_asks (tasks.Register uuid) list = by_one _ _ refl refl
task_asks tasks.Setup list = by_list refl refl
task_asks tasks.Prepare list = by_one _ _ refl refl
task_asks tasks.Configure list = by_one _ _ refl refl
task_asks tasks.Initialize list = by_one _ _ refl refl
task_asks (tasks.FirstOutputs row) list = by_one _ _ refl refl
task_asks tasks.Run list = by_one _ _ refl refl
task_asks (tasks.Step k) list = by_one _ _ refl refl
task_asks (tasks.Outputs k row) list = by_one _ _ refl refl
task_asks tasks.Stop list = by_one _ _ refl refl
task_asks tasks.Reset list = by_one _ _ refl refl
task_asks tasks.Adjust list = by_list refl refl
task_asks tasks.Deregister list = by_one _ _ refl refl

pub job_asks : (job : Job) → Asks job
job_asks job = task_asks job.task job.list

pub asked_main : (job : Job) (n : ℕ) (r : Request) → slice_get (asked_by job) n ≡ Some r → is_main_request r ≡ true
asked_main job n r e = by (job_asks job)
  where
    by : Asks job → is_main_request r ≡ true
    by (by_list l a) = let z = map_main job.list n r (ap (λ (rs : List Request). slice_get rs n) (sym a) ∙ e) in ap is_main_request (z.1).0
    by (by_one state body l a) = let z = one_slot (Change state body) n r (ap (λ (rs : List Request). slice_get rs n) (sym a) ∙ e) in ap is_main_request (sym z.1)

-- a state request is its job's only one
pub change_slot : (job : Job) (n : ℕ) (state : State) (body : Stc) → slice_get (asked_by job) n ≡ Some (Change state body) → (n ≡ 0) × ((length (asked_by job) ≡ 1) × (is_by_list job.task ≡ false))
change_slot job n state body e = by (job_asks job)
  where
    clash : (b : Cfg) → Change state body ≡ Configure b → ⊥
    clash b z = cc

    by : Asks job → (n ≡ 0) × ((length (asked_by job) ≡ 1) × (is_by_list job.task ≡ false))
    by (by_list l a) = let z = map_main job.list n (Change state body) (ap (λ (rs : List Request). slice_get rs n) (sym a) ∙ e) in absurd (clash z.0 (z.1).0)
    by (by_one s b l a) = let z = one_slot (Change s b) n (Change state body) (ap (λ (rs : List Request). slice_get rs n) (sym a) ∙ e) in (z.0, (ap length a, l))

-- a configuration stands in its job's list
pub list_slot : (job : Job) (n : ℕ) (body : Cfg) → slice_get (asked_by job) n ≡ Some (Configure body) → (asked_by job ≡ map Configure job.list) × (is_by_list job.task ≡ true)
list_slot job n body e = by (job_asks job)
  where
    clash : (s : State) (b : Stc) → Change s b ≡ Configure body → ⊥
    clash s b z = cc

    by : Asks job → (asked_by job ≡ map Configure job.list) × (is_by_list job.task ≡ true)
    by (by_list l a) = (a, l)
    by (by_one s b l a) = let z = one_slot (Change s b) n (Configure body) (ap (λ (rs : List Request). slice_get rs n) (sym a) ∙ e) in absurd (clash s b z.1)

pub slot_below : (job : Job) (n : ℕ) (r : Request) → slice_get (asked_by job) n ≡ Some r → n < length (asked_by job)
slot_below job n r e = slice_get_within (asked_by job) n r e

pub map_slot : (list : List Cfg) (n : ℕ) (body : Cfg) → slice_get list n ≡ Some body → slice_get (map Configure list) n ≡ Some (Configure body)
map_slot [] n body e = absurd cc
map_slot (b ∷ list) zero body e = let z : b ≡ body = cc in ap (λ (x : Cfg). Some (Configure x)) z
map_slot (b ∷ list) (suc n) body e = map_slot list n body e

pub length_map : (list : List Cfg) → length (map Configure list) ≡ length list
length_map [] = refl
length_map (b ∷ list) = ap (λ (n : ℕ). suc n) (length_map list)

abbrev conf_code : ℕ → Bool
conf_code n = nat_le 32 n && nat_le n 43

-- the mains of a list are configurations
pub mains_by_list : (job : Job) (ms : List Asking) → is_by_list job.task ≡ true → AreMains job ms → acked ms ≡ count_by (λ a. is_configuration a && is_acked a) ms
mains_by_list job [] l m = refl
mains_by_list job (b ∷ ms) l m =
    let z = map_main job.list (acked ms) (m.0).request (ap (λ (rs : List Request). slice_get rs (acked ms)) (sym (list_is (job_asks job))) ∙ (m.0).slot) in
    let c : is_configuration b ≡ true = ap conf_code ((m.0).of).0 ∙ ap (λ (r : Request). conf_code (code_of r)) (z.1).0 ∙ conf_is z.0 in
    let d : is_main b ≡ true = of_main (m.0).request b (m.0).of ∙ (m.0).main in
    let h = mains_by_list job ms l (m.1).1 in
    let e = acked_more b ms in
    let f = sum_by-cons (λ (a : Asking). if is_configuration a && is_acked a then 1 else 0) b ms in
    let g : one_if (is_main b && is_acked b) ≡ one_if (is_configuration b && is_acked b) = ap (λ (t : Bool). one_if (t && is_acked b)) (d ∙ sym c) in
    omega (arith, h, e, f, g)
  where
    clash : true ≡ false → ⊥
    clash z = cc

    list_is : Asks job → asked_by job ≡ map Configure job.list
    list_is (by_list q a) = a
    list_is (by_one s b q a) = absurd (clash (sym l ∙ q))

    conf_is : (body : Cfg) → conf_code (code_of (Configure body)) ≡ true
    conf_is (cfg.TimeRes numerator denominator) = refl
    conf_is (cfg.Steps data_id steps) = refl
    conf_is (cfg.Input data_id position vr source_type) = refl
    conf_is (cfg.Output data_id position vr) = refl
    conf_is cfg.Clear = refl
    conf_is (cfg.Target net) = refl
    conf_is (cfg.Source net) = refl
    conf_is (cfg.Parameter vr kind value) = refl
    conf_is (cfg.Tunable param_id position vr kind) = refl
    conf_is (cfg.ParamNet param_id protocol port ip) = refl
    conf_is (cfg.Logging category level mode) = refl
    conf_is (cfg.Scope data_id scope) = refl
