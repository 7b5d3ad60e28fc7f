-- What a slave took where it is asked for a row event, by the requests of a conversation that goes by the rules.
use Rattle.std.proofs.Common.{◌≡◌, ℕ, zero, suc, ◌+◌, ◌<◌, ◌≤◌, Bool, true, false, ◌⊎◌, inl, inr, Option, Some, None, List, [], ◌∷◌, ◌++◌, reverse, refl, sym, ap, ◌∙◌, subst, arith}
use Rattle.std.specs.Prelude.{is_some, slice_get}
use Rattle.dcp_types.specs.declared.limits.Limits.{Limits}
use Rattle.dcp_types.specs.declared.states.State.{State}
use Rattle.pdu_layout.specs.declared.messages.Cfg.{Cfg}
use Rattle.pdu_layout.specs.declared.messages.Stc.TheVariants as stc
use Rattle.lockstep_laws.specs.Steps.{RowEvent, Show, Step, Restart}
use Rattle.master_spec.specs.declared.requests.Request.{Request}
use Rattle.master_spec.specs.declared.requests.Request.TheVariants.{Change, Configure, AskState, AskError}
use Rattle.master_spec.specs.declared.requests.Latest.{Latest}
use Rattle.master_spec.specs.declared.requests.Latest.TheVariants as latests
use Rattle.master_spec.specs.declared.reactions.Reaction.TheVariants.{Wait, Ask}
use Rattle.master_spec.specs.declared.reactions.Awaited.TheVariants.{TheState, TheInputs, TheOthers}
use Rattle.master_spec.specs.declared.setups.Script.{Script}
use Rattle.master_spec.specs.declared.tasks.Task.{Task}
use Rattle.master_spec.specs.declared.tasks.Task.TheVariants as tasks
use Rattle.master_spec.specs.Tasks.{requests_of, is_by_list, target_of, asks_step}
use Rattle.master_spec.specs.Conversation.{is_state, awaited_by, awaited, reaction}
use Rattle.master_spec.specs.Jobs.{Job, asked_by, jobs}
use Rattle.master_spec.specs.Marks.{Mark, Begun, Asked, Again, Answered, Hinted, Brought, Turned, Ended, count, is_begun, job_of, cause_of, latest}
use Rattle.master_spec.specs.Requests.{Asking, acked}
use Rattle.master_log_laws.specs.Asking.Legal.{Does, AreLegal}
use Rattle.master_log_laws.proofs.Asking.Legal.{own_rests}
use Rattle.master_log_laws.specs.Index.Index.{Placed, at, marks_of, code_of, askings_told}
use Rattle.master_log_laws.proofs.Phases.Now.{now, past, split, Linked, linked}
use Rattle.master_log_laws.proofs.Phases.Inverse.{reacts, hint_asks, turn_asks}
use Rattle.master_log_laws.proofs.Phases.Mains.{is_main_request, of_main, of_step, acked_yes, asked_main, change_slot, AreMains, IsTried}
use Rattle.master_log_laws.proofs.Phases.Stage.{Main, Question}
use Rattle.master_log_laws.proofs.Phases.Stages.{stage, open_stage}
use Rattle.master_log_laws.proofs.Phases.Tags.{job_phase, job_some}
use Rattle.master_laws.specs.Rows.Laws.{event_for}
use Rattle.master_laws.proofs.PlanOrder.Taken.{settings_by, resets_by, ready_by, events_by}
use Rattle.master_laws.proofs.PlanOrder.Standing.{Standing, at_first, standing, set_until, IsSet, IsReady, Finds, finds_at, kind_of}
use Rattle.master_laws.proofs.PlanOrder.Planned.{jobs_lead}
use Rattle.master_laws.proofs.PlanOrder.Requests.{is_reset, is_setting, is_event, resets_slave, is_row_task, kind_at, in_list, IsOfJob, asked_of_job, AllAsk, all_ask, TellsHome, asks_home}
use Rattle.master_laws.proofs.PlanOrder.Effects.{settings_same, resets_same, events_more, Undone, ready_stays, ready_same}
use Rattle.master_laws.proofs.PlanOrder.Phases.{Agrees, agrees_past}

none_more : (n : ℕ) → 0 + n ≡ n
none_more n = omega arith

-- ---- a conversation in its phase
pub record InPhase (js : List Job) (p : ℕ) (xs : List Placed) (id : ℕ) : Type 0 where
  pub job : Job
  pub job_at : slice_get js p ≡ Some job
  pub job_is : job_of (marks_of xs) ≡ Some job
  pub ask : AllAsk job (now xs)
  pub agrees : Agrees id (askings_told (past xs)) (standing js p at_first)
  pub is : askings_told xs ≡ now xs ++ askings_told (past xs)

pub in_phase : (limits : Limits) (js : List Job) (id : ℕ) (xs : List Placed) → AreLegal limits js (marks_of xs) → (p : ℕ) → count is_begun (marks_of xs) ≡ p + 1 → InPhase js p xs id
in_phase limits js id xs l p c =
    let j = job_some (marks_of xs) p c in
    record {
      job = j.0;
      job_at = job_phase limits js (marks_of xs) l j.0 j.1 p c;
      job_is = j.1;
      ask = all_ask limits js xs l j.0 j.1;
      agrees = agrees_past limits js id xs l p c;
      is = split limits js xs l;
    }

-- ---- a request that is asked for the first time
pub record IsAsking (js : List Job) (p : ℕ) (xs : List Placed) (id : ℕ) (r : Request) : Type 0 where
  pub phase : InPhase js p xs id
  pub kind : IsOfJob phase.job r
  pub home : TellsHome phase.job (now xs)
  pub stage : Main phase.job r None (now (at 0 (Asked r) ∷ xs)) ⊎ Question phase.job r None (now (at 0 (Asked r) ∷ xs))

pub is_asking : (limits : Limits) (js : List Job) (id : ℕ) (xs : List Placed) (r : Request) → AreLegal limits js (Asked r ∷ marks_of xs) → cause_of (marks_of xs) ≡ None → (p : ℕ) → count is_begun (marks_of xs) ≡ p + 1 → IsAsking js p xs id r
is_asking limits js id xs r l c p n =
    let k = in_phase limits js id xs l.1 p n in
    record {
      phase = k;
      kind = asked_of_job limits js xs r l k.job k.job_is;
      home = asks_home limits js xs r l c k.job k.job_is;
      stage = open_stage k.job (Asked r ∷ marks_of xs) (now (at 0 (Asked r) ∷ xs)) r refl (stage limits js (at 0 (Asked r) ∷ xs) l (own_rests limits (Asked r) (marks_of xs) tt) c k.job k.job_is);
    }

-- ---- row events
pub record IsRow (job : Job) (k : RowEvent) : Type 0 where
  pub row : is_row_task job.task ≡ true
  pub list : is_by_list job.task ≡ false
  pub finds : (steps runs : ℕ) (script : Script) (s : Standing) → Finds steps runs script job.task s → IsReady steps runs script k s

one_is : (q : Request) (n : ℕ) (r : Request) → slice_get (q ∷ []) n ≡ Some r → q ≡ r
one_is q zero r e = cc
one_is q (suc n) r e = absurd cc

row_in : (task : Task) (list : List Cfg) (n : ℕ) (r : Request) (k : RowEvent) → slice_get (requests_of task list) n ≡ Some r → is_row_task task ≡ true → event_for (code_of r) ≡ Some k → IsRow (record { task = task; list = list }) k
row_in (tasks.FirstOutputs row) list n r k e t v =
    let z : Some Show ≡ Some k = ap (λ (q : Request). event_for (code_of q)) (one_is _ n r e) ∙ v in
    let same : Show ≡ k = cc in
    record { row = refl; list = refl; finds = λ steps runs script s f. (let P : RowEvent → Type 0 = λ x. IsReady steps runs script x s in subst P same f) }
row_in (tasks.Step i) list n r k e t v =
    let z : Some Step ≡ Some k = ap (λ (q : Request). event_for (code_of q)) (one_is _ n r e) ∙ v in
    let same : Step ≡ k = cc in
    record { row = refl; list = refl; finds = λ steps runs script s f. (let P : RowEvent → Type 0 = λ x. IsReady steps runs script x s in subst P same f) }
row_in (tasks.Outputs i row) list n r k e t v =
    let z : Some Show ≡ Some k = ap (λ (q : Request). event_for (code_of q)) (one_is _ n r e) ∙ v in
    let same : Show ≡ k = cc in
    record { row = refl; list = refl; finds = λ steps runs script s f. (let P : RowEvent → Type 0 = λ x. IsReady steps runs script x s in subst P same f) }
row_in tasks.Reset list n r k e t v =
    let z : Some Restart ≡ Some k = ap (λ (q : Request). event_for (code_of q)) (one_is _ n r e) ∙ v in
    let same : Restart ≡ k = cc in
    record { row = refl; list = refl; finds = λ steps runs script s f. (let P : RowEvent → Type 0 = λ x. IsReady steps runs script x s in subst P same f) }
row_in (tasks.Register uuid) list n r k e t v = absurd cc
row_in tasks.Setup list n r k e t v = absurd cc
row_in tasks.Prepare list n r k e t v = absurd cc
row_in tasks.Configure list n r k e t v = absurd cc
row_in tasks.Initialize list n r k e t v = absurd cc
row_in tasks.Run list n r k e t v = absurd cc
row_in tasks.Stop list n r k e t v = absurd cc
row_in tasks.Adjust list n r k e t v = absurd cc
row_in tasks.Deregister list n r k e t v = absurd cc

is_event_of : (r : Request) (k : RowEvent) → event_for (code_of r) ≡ Some k → is_event r ≡ true
is_event_of r k v = ap (λ (o : Option RowEvent). is_some o) v

pub row_asked : (job : Job) (r : Request) (k : RowEvent) → IsOfJob job r → event_for (code_of r) ≡ Some k → IsRow job k
row_asked job r k (inl q) v = absurd (question r q v)
  where
    question : (r : Request) → is_main_request r ≡ false → event_for (code_of r) ≡ Some k → ⊥
    question (Change state body) q v = cc
    question (Configure body) q v = cc
    question AskState q v = cc
    question AskError q v = cc
row_asked job r k (inr s) v = row_in job.task job.list s.0 r k s.1 (sym (kind_at job s.0 r s.1).event ∙ is_event_of r k v) v

-- the same event of another slave
pub row_alike : (j i : Job) (k : RowEvent) → kind_of j.task ≡ kind_of i.task → IsRow j k → IsRow i k
row_alike j i k e r =
    let row : is_row_task i.task ≡ true = row_kind i.task ∙ ap is_row_task (sym e) ∙ sym (row_kind j.task) ∙ r.row in
    let a = self i.task row in
    let b = self j.task r.row in
    let same : j.task ≡ i.task = sym b.1 ∙ e ∙ a.1 in
    let P : Task → Type 0 = λ t. (steps runs : ℕ) (script : Script) (s : Standing) → Finds steps runs script t s → IsReady steps runs script k s in
    record { row = row; list = a.0; finds = subst P same r.finds }
  where
    row_kind : (t : Task) → is_row_task t ≡ is_row_task (kind_of t)
    row_kind (tasks.Register uuid) = refl
    row_kind tasks.Setup = refl
    row_kind tasks.Prepare = refl
    row_kind tasks.Configure = refl
    row_kind tasks.Initialize = refl
    row_kind (tasks.FirstOutputs row) = refl
    row_kind tasks.Run = refl
    row_kind (tasks.Step n) = refl
    row_kind (tasks.Outputs n row) = refl
    row_kind tasks.Stop = refl
    row_kind tasks.Reset = refl
    row_kind tasks.Adjust = refl
    row_kind tasks.Deregister = refl

    self : (t : Task) → is_row_task t ≡ true → (is_by_list t ≡ false) × (kind_of t ≡ t)
    self (tasks.FirstOutputs row) h = (refl, refl)
    self (tasks.Step n) h = (refl, refl)
    self (tasks.Outputs n row) h = (refl, refl)
    self tasks.Reset h = (refl, refl)
    self (tasks.Register uuid) h = absurd cc
    self tasks.Setup h = absurd cc
    self tasks.Prepare h = absurd cc
    self tasks.Configure h = absurd cc
    self tasks.Initialize h = absurd cc
    self tasks.Run h = absurd cc
    self tasks.Stop h = absurd cc
    self tasks.Adjust h = absurd cc
    self tasks.Deregister h = absurd cc

-- ---- where the row event is asked for, nothing of the phase is acknowledged
pub none_acked : (js : List Job) (p : ℕ) (xs : List Placed) (id : ℕ) (r : Request) (k : RowEvent) → (a : IsAsking js p xs id r) → event_for (code_of r) ≡ Some k → acked (now xs) ≡ 0
none_acked js p xs id r k a v = by a.stage
  where
    job : Job
    job = a.phase.job

    no_list : (n : ℕ) → slice_get (asked_by job) n ≡ Some r → is_setting r ≡ false
    no_list n e = (kind_at job n r e).setting ∙ (row_asked job r k (inr (n, e)) v).list

    at_zero : (r : Request) (n : ℕ) → slice_get (asked_by job) n ≡ Some r → is_main_request r ≡ true → is_setting r ≡ false → n ≡ 0
    at_zero (Change state body) n e m s = (change_slot job n state body e).0
    at_zero (Configure body) n e m s = absurd cc
    at_zero AskState n e m s = absurd cc
    at_zero AskError n e m s = absurd cc

    same_rest : (b c : Asking) (bs ms : List Asking) → b ∷ bs ≡ c ∷ ms → bs ≡ ms
    same_rest b c bs ms e = cc

    by : Main job r None (now (at 0 (Asked r) ∷ xs)) ⊎ Question job r None (now (at 0 (Asked r) ∷ xs)) → acked (now xs) ≡ 0
    by (inl m) = ap acked (same_rest _ m.newest (now xs) m.ms m.is) ∙ at_zero r (acked m.ms) m.slot (asked_main job (acked m.ms) r m.slot) (no_list (acked m.ms) m.slot)
    by (inr q) = absurd (not_question r q.asks v)
      where
        not_question : (r : Request) → is_main_request r ≡ false → event_for (code_of r) ≡ Some k → ⊥
        not_question (Change state body) q v = cc
        not_question (Configure body) q v = cc
        not_question AskState q v = cc
        not_question AskError q v = cc

-- a reset is asked for right after the begin of its phase
none_tried : (job : Job) (ms : List Asking) → resets_slave job.task ≡ true → AreMains job ms → acked ms ≡ 0 → ms ≡ []
none_tried job [] e m z = refl
none_tried job (b ∷ ms) e m z = absurd (by (m.1).0)
  where
    no_step : (r : Request) → is_reset r ≡ true → asks_step r ≡ true → ⊥
    no_step (Change state stc.Reset) e f = cc
    no_step (Change state (stc.Register uuid op_mode major minor)) e f = cc
    no_step (Change state stc.Deregister) e f = cc
    no_step (Change state stc.Prepare) e f = cc
    no_step (Change state stc.Configure) e f = cc
    no_step (Change state stc.Initialize) e f = cc
    no_step (Change state (stc.Run start_time)) e f = cc
    no_step (Change state (stc.DoStep steps)) e f = cc
    no_step (Change state stc.SendOutputs) e f = cc
    no_step (Change state stc.Stop) e f = cc
    no_step (Configure body) e f = cc
    no_step AskState e f = cc
    no_step AskError e f = cc

    by : IsTried b → ⊥
    by (inl k) = let y = acked_yes b ms (of_main (m.0).request b (m.0).of ∙ (m.0).main) k in omega (arith, y, z)
    by (inr k) = no_step (m.0).request ((kind_at job (acked ms) (m.0).request (m.0).slot).reset ∙ e) (sym (of_step (m.0).request b (m.0).of) ∙ k.1)

abbrev pub IsBegun : List Mark → Type 0
IsBegun marks = (job : Job) × ((older : List Mark) × (marks ≡ Begun job ∷ older))

-- a main request that is asked before any other of its phase is asked at the begin
first_begun : (limits : Limits) (marks : List Mark) (r : Request) → Does limits marks (Ask r) → latest marks ≡ latests.Nothing → is_main_request r ≡ true → cause_of marks ≡ None → (job : Job) → job_of marks ≡ Some job → IsBegun marks
first_begun limits [] r d e m c job j = absurd d
first_begun limits (x ∷ marks) r d e m c job j = by x d e c j
  where
    own : Wait ≡ Ask r → ⊥
    own z = cc

    question : r ≡ AskState → ⊥
    question z = let y : true ≡ false = sym m ∙ ap is_main_request z in cc

    inputs : TheOthers ≡ TheInputs r → ⊥
    inputs z = cc

    answered : (q : Request) (a : _) → latests.Answered q a ≡ latests.Nothing → ⊥
    answered q a z = cc

    turned : (settled : Bool) → latest marks ≡ latests.Nothing → (awaited job (Turned settled ∷ marks) ≡ TheInputs r) ⊎ ((r ≡ AskState) × ((awaited job (Turned settled ∷ marks) ≡ TheState) ⊎ (awaited job (Turned settled ∷ marks) ≡ TheOthers))) → ⊥
    turned settled e (inl z) = inputs (sym (ap (λ (y : Latest). awaited_by job y (Turned settled ∷ marks)) e) ∙ z)
    turned settled e (inr z) = question z.0

    by : (x : Mark) → reaction limits x marks ≡ Ask r → latest (x ∷ marks) ≡ latests.Nothing → cause_of (x ∷ marks) ≡ None → job_of (x ∷ marks) ≡ Some job → IsBegun (x ∷ marks)
    by (Begun i) d e c j = (i, (marks, refl))
    by (Answered q a) d e c j = absurd (answered q a e)
    by Hinted d e c j = absurd (question (hint_asks (awaited job (Hinted ∷ marks)) r (sym (reacts limits Hinted marks job c j) ∙ d)).0)
    by (Turned t) d e c j = absurd (turned t e (turn_asks limits job (awaited job (Turned t ∷ marks)) t (Turned t ∷ marks) r (sym (reacts limits (Turned t) marks job c j) ∙ d)))
    by (Brought n q) d e c j = absurd (own (sym (reacts limits (Brought n q) marks job c j) ∙ d))
    by (Asked q) d e c j = absurd (own (sym (own_rests limits (Asked q) marks tt) ∙ d))
    by Again d e c j = absurd (own (sym (own_rests limits Again marks tt) ∙ d))
    by (Ended cause) d e c j = absurd (own (sym (own_rests limits (Ended cause) marks tt) ∙ d))

pub reset_begun : (limits : Limits) (js : List Job) (p : ℕ) (xs : List Placed) (id : ℕ) (r : Request) (k : RowEvent) → AreLegal limits js (Asked r ∷ marks_of xs) → cause_of (marks_of xs) ≡ None → (a : IsAsking js p xs id r) → event_for (code_of r) ≡ Some k → resets_slave a.phase.job.task ≡ true → IsBegun (marks_of xs)
reset_begun limits js p xs id r k l c a v e = by a.stage
  where
    job : Job
    job = a.phase.job

    same_rest : (b c : Asking) (bs ms : List Asking) → b ∷ bs ≡ c ∷ ms → bs ≡ ms
    same_rest b c bs ms e = cc

    nothing : (o : Latest) → Linked o [] → o ≡ latests.Nothing
    nothing latests.Nothing k = refl
    nothing (latests.Asked q) k = absurd k
    nothing (latests.Answered q x) k = absurd k

    by : Main job r None (now (at 0 (Asked r) ∷ xs)) ⊎ Question job r None (now (at 0 (Asked r) ∷ xs)) → IsBegun (marks_of xs)
    by (inl m) =
        let same : now xs ≡ m.ms = same_rest _ m.newest (now xs) m.ms m.is in
        let z : acked m.ms ≡ 0 = sym (ap acked same) ∙ none_acked js p xs id r k a v in
        let empty : now xs ≡ [] = same ∙ none_tried job m.ms e m.mains z in
        let P : List Asking → Type 0 = λ ys. Linked (latest (marks_of xs)) ys in
        first_begun limits (marks_of xs) r l.0 (nothing (latest (marks_of xs)) (subst P empty (linked limits js xs l.1))) (asked_main job (acked m.ms) r m.slot) c job a.phase.job_is
    by (inr q) = absurd (not_question r q.asks v)
      where
        not_question : (r : Request) → is_main_request r ≡ false → event_for (code_of r) ≡ Some k → ⊥
        not_question (Change state body) q v = cc
        not_question (Configure body) q v = cc
        not_question AskState q v = cc
        not_question AskError q v = cc

-- ---- what the slave took
pub record HasTaken (script : Script) (id : ℕ) (bs : List Asking) (r : ℕ) : Type 0 where
  pub settings : settings_by id bs ≡ reverse (set_until script r)
  pub ready : ready_by id bs ≡ true

-- the settings of its run, and nothing more
pub record IsPrepared (runs : ℕ) (script : Script) (id : ℕ) (bs : List Asking) : Type 0 where
  pub settings : settings_by id bs ≡ reverse (set_until script (resets_by id bs))
  pub within : resets_by id bs < runs

module _ (steps runs : ℕ) (some : 1 ≤ runs) (script : Script) where
  abbrev js : List Job
  js = jobs steps runs script

  pub finds : (p : ℕ) (job : Job) → slice_get js p ≡ Some job → Finds steps runs script job.task (standing js p at_first)
  finds p job e = let t = jobs_lead steps runs script some in finds_at steps runs script js p at_first t.0 t.1 job e

  pub row_ready : (p : ℕ) (xs : List Placed) (id : ℕ) (k : RowEvent) → (a : InPhase js p xs id) → IsRow a.job k → IsReady steps runs script k (standing js p at_first)
  row_ready p xs id k a r = r.finds steps runs script (standing js p at_first) (finds p a.job a.job_at)

  pub row_taken : (p : ℕ) (xs : List Placed) (id : ℕ) (k : RowEvent) → (a : InPhase js p xs id) → IsRow a.job k → Undone a.job (now xs) → HasTaken script id (askings_told xs) (standing js p at_first).resets
  row_taken p xs id k a r u =
      let f = row_ready p xs id k a r in
      record {
        settings = ap (settings_by id) a.is ∙ settings_same id a.job (now xs) (askings_told (past xs)) a.ask r.list ∙ a.agrees.settings ∙ f.set.settings;
        ready = ap (ready_by id) a.is ∙ ready_stays id a.job (now xs) (askings_told (past xs)) a.ask u (a.agrees.ready ∙ f.ready);
      }

  -- the events so far
  pub row_events : (p : ℕ) (xs : List Placed) (id : ℕ) (k : RowEvent) (r : Request) → (a : IsAsking js p xs id r) → event_for (code_of r) ≡ Some k → events_by (askings_told xs) ≡ (standing js p at_first).events
  row_events p xs id k r a v =
      let z = none_acked js p xs id r k a v in
      ap events_by a.phase.is ∙ events_more a.phase.job (now xs) (askings_told (past xs)) a.phase.ask (row_asked a.phase.job r k a.kind v).row ∙ ap (λ (n : ℕ). n + events_by (askings_told (past xs))) z ∙ none_more (events_by (askings_told (past xs))) ∙ a.phase.agrees.events

  -- ---- settings, and the preparation
  list_task : (task : Task) (s : Standing) → is_by_list task ≡ true → Finds steps runs script task s → (s.ready ≡ false) × ((resets_slave task ≡ false) × (is_state (target_of task) 7 ≡ false))
  list_task tasks.Setup s e f = (f, (refl, refl))
  list_task tasks.Adjust s e f = (f, (refl, refl))
  list_task (tasks.Register uuid) s e f = absurd cc
  list_task tasks.Prepare s e f = absurd cc
  list_task tasks.Configure s e f = absurd cc
  list_task tasks.Initialize s e f = absurd cc
  list_task (tasks.FirstOutputs row) s e f = absurd cc
  list_task tasks.Run s e f = absurd cc
  list_task (tasks.Step i) s e f = absurd cc
  list_task (tasks.Outputs i row) s e f = absurd cc
  list_task tasks.Stop s e f = absurd cc
  list_task tasks.Reset s e f = absurd cc
  list_task tasks.Deregister s e f = absurd cc

  pub set_unready : (p : ℕ) (xs : List Placed) (id : ℕ) (body : Cfg) → IsAsking js p xs id (Configure body) → ready_by id (askings_told xs) ≡ false
  set_unready p xs id body a = by a.kind
    where
      job : Job
      job = a.phase.job

      by : IsOfJob job (Configure body) → ready_by id (askings_told xs) ≡ false
      by (inl q) = absurd cc
      by (inr s) =
          let t = list_task job.task (standing js p at_first) (sym (kind_at job s.0 (Configure body) s.1).setting) (finds p job a.phase.job_at) in
          ap (ready_by id) a.phase.is ∙ ready_same id job (now xs) (askings_told (past xs)) a.phase.ask a.home (t.1).0 (t.1).1 ∙ a.phase.agrees.ready ∙ t.0

  prepare_task : (task : Task) (list : List Cfg) (state : State) (n : ℕ) → slice_get (requests_of task list) n ≡ Some (Change state stc.Prepare) → task ≡ tasks.Prepare
  prepare_task tasks.Prepare list state n e = refl
  prepare_task tasks.Setup list state n e = let z = in_list list n (Change state stc.Prepare) e in let y : Change state stc.Prepare ≡ Configure z.0 = (z.1).0 in absurd cc
  prepare_task tasks.Adjust list state n e = let z = in_list list n (Change state stc.Prepare) e in let y : Change state stc.Prepare ≡ Configure z.0 = (z.1).0 in absurd cc
  prepare_task (tasks.Register uuid) list state n e = let z = one_is _ n _ e in absurd cc
  prepare_task tasks.Configure list state n e = let z = one_is _ n _ e in absurd cc
  prepare_task tasks.Initialize list state n e = let z = one_is _ n _ e in absurd cc
  prepare_task (tasks.FirstOutputs row) list state n e = let z = one_is _ n _ e in absurd cc
  prepare_task tasks.Run list state n e = let z = one_is _ n _ e in absurd cc
  prepare_task (tasks.Step i) list state n e = let z = one_is _ n _ e in absurd cc
  prepare_task (tasks.Outputs i row) list state n e = let z = one_is _ n _ e in absurd cc
  prepare_task tasks.Stop list state n e = let z = one_is _ n _ e in absurd cc
  prepare_task tasks.Reset list state n e = let z = one_is _ n _ e in absurd cc
  prepare_task tasks.Deregister list state n e = let z = one_is _ n _ e in absurd cc

  pub prepared : (p : ℕ) (xs : List Placed) (id : ℕ) (state : State) → IsAsking js p xs id (Change state stc.Prepare) → IsPrepared runs script id (askings_told xs)
  prepared p xs id state a = by a.kind
    where
      job : Job
      job = a.phase.job

      s : Standing
      s = standing js p at_first

      by : IsOfJob job (Change state stc.Prepare) → IsPrepared runs script id (askings_told xs)
      by (inl q) = absurd cc
      by (inr k) =
          let t : job.task ≡ tasks.Prepare = prepare_task job.task job.list state k.0 k.1 in
          let P : Task → Type 0 = λ x. Finds steps runs script x s in
          let f : IsSet runs script s = subst P t (finds p job a.phase.job_at) in
          let resets : resets_by id (askings_told xs) ≡ s.resets = ap (resets_by id) a.phase.is ∙ resets_same id job (now xs) (askings_told (past xs)) a.phase.ask (ap resets_slave t) ∙ a.phase.agrees.resets in
          let within = f.within in
          record {
            settings = ap (settings_by id) a.phase.is ∙ settings_same id job (now xs) (askings_told (past xs)) a.phase.ask (ap is_by_list t) ∙ a.phase.agrees.settings ∙ f.settings ∙ ap (λ (n : ℕ). reverse (set_until script n)) (sym resets);
            within = omega (arith, within, resets);
          }
