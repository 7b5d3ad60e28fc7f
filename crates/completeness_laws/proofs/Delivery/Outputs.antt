-- The outputs of a row: how many the slave has sent, and that the phase stands where they are asked for.
use Rattle.std.proofs.Common.{◌≡◌, ℕ, zero, suc, ◌+◌, ◌*◌, ◌/◌, ◌%◌, ◌≤◌, Bool, true, false, if◌then◌else◌, Option, Some, None, List, [], ◌∷◌, length, refl, sym, ap, ◌∙◌, subst, arith}
use Rattle.std.specs.Prelude.{◌&&◌, is_some}
use Rattle.std.proofs.lemmas.Bool.{eq-eqb}
use Rattle.std.proofs.lemmas.Nat.{div-add-mod'}
use Rattle.dcp_types.specs.declared.limits.Limits.{Limits}
use Rattle.dcp_ends.specs.declared.entries.LogEntry.{LogEntry}
use Rattle.slave_desc.specs.declared.descriptions.SlaveDesc.{SlaveDesc}
use Rattle.scenario.specs.declared.scenarios.Scenario.{Scenario}
use Rattle.scenario.specs.Sound.{IsScenario}
use Rattle.log_spec.specs.Messages.{Note}
use Rattle.log_spec.specs.Log.{Parties, IsSlaveOf, values_sent}
use Rattle.lockstep_laws.specs.Steps.{Show, shown_after}
use Rattle.lockstep_laws.specs.Cast.{ConversingSlaves}
use Rattle.lockstep_laws.specs.Runs.{Behaves}
use Rattle.lockstep_laws.specs.Models.Ordinals.{ordinals_in_run, ordinal_at, ordinals_below}
use Rattle.lockstep_laws.specs.Models.Machines.{Machines, values_owed}
use Rattle.lockstep_laws.specs.Models.Scenarios.{slave_numbered}
use Rattle.lockstep_laws.proofs.Models.Values.{OwesValue, sends_values}
use Rattle.master_spec.specs.declared.tasks.Task.{Task}
use Rattle.master_spec.specs.declared.tasks.Task.TheVariants as tasks
use Rattle.master_spec.specs.declared.reactions.Reaction.TheVariants.{Wait}
use Rattle.master_spec.specs.declared.requests.Latest.TheVariants as latests
use Rattle.master_spec.specs.declared.requests.Request.TheVariants.{AskState}
use Rattle.master_spec.specs.declared.requests.Answer.TheVariants.{StateAck}
use Rattle.master_spec.specs.Tasks.{task_row}
use Rattle.master_spec.specs.Jobs.{Job}
use Rattle.master_spec.specs.Marks.{Mark, Brought, latest, or_else, kept, is_reached, is_passed, job_of, cause_of}
use Rattle.master_spec.specs.Requests.{Asking}
use Rattle.master_spec.specs.Conversation.{reaction, reaction_in, on_mark}
use Rattle.master_log_laws.proofs.Phases.Stage.{Question, Stage, idling, main_open, question_open, trying, mains_done, state_told}
use Rattle.master_laws.specs.Barrier.Laws.{row_event_in}
use Rattle.slave_laws.specs.Data.Made.{machines}
use Rattle.slave_laws.proofs.Data.Held.{of_scenario}
use Rattle.run_laws.proofs.Collecting.Watches.{watch_interval, watch_sender}
use Rattle.slave_laws.specs.Data.Whole.{slaves_asked}
use Rattle.slave_laws.proofs.Wiring.Rows.{slaves_are}
use Rattle.run_laws.specs.Laws.{parties}
use Rattle.run_laws.proofs.Headline.Behaving.{are_slaves}
use Rattle.completeness_laws.proofs.Delivery.Phases.{or_right}

-- ---- a job with outputs
pub row_show : (task : Task) (row : ℕ) → task_row task ≡ Some row → row_event_in task ≡ Some Show
row_show (tasks.FirstOutputs r) row e = refl
row_show (tasks.Outputs k r) row e = refl
row_show (tasks.Register uuid) row e = absurd cc
row_show tasks.Setup row e = absurd cc
row_show tasks.Prepare row e = absurd cc
row_show tasks.Configure row e = absurd cc
row_show tasks.Initialize row e = absurd cc
row_show tasks.Run row e = absurd cc
row_show (tasks.Step k) row e = absurd cc
row_show tasks.Stop row e = absurd cc
row_show tasks.Reset row e = absurd cc
row_show tasks.Adjust row e = absurd cc
row_show tasks.Deregister row e = absurd cc

brought_kept : (row number : ℕ) (payload : List ℕ) (ms : List Mark) → number ≡ row % 65536 → is_some (kept row (Brought number payload ∷ ms)) ≡ true
brought_kept row number payload ms e = ap (λ (b : Bool). is_some (or_else (kept row ms) (if b then Some payload else None))) (eq-eqb number (row % 65536) e) ∙ or_right (kept row ms) payload

and_true : (a b : Bool) → a ≡ true → b ≡ true → (a && b) ≡ true
and_true a b e f = grind arith

-- with its outputs it would have passed
pub row_passed : (job : Job) (row number : ℕ) (payload : List ℕ) (ms : List Mark) → task_row job.task ≡ Some row → number ≡ row % 65536 → is_reached job.task ms ≡ true → is_passed job (Brought number payload ∷ ms) ≡ true
row_passed job row number payload ms e f h = by job.task refl e h
  where
    now : List Mark
    now = Brought number payload ∷ ms

    by : (task : Task) → job.task ≡ task → task_row task ≡ Some row → is_reached task ms ≡ true → is_passed (record { task = task; list = job.list }) now ≡ true
    by (tasks.FirstOutputs r) q e h =
        let z : row ≡ r = let y : Some r ≡ Some row = e in cc in
        and_true (is_reached (tasks.FirstOutputs r) now) (is_some (kept r now)) h (brought_kept r number payload ms (f ∙ ap (λ (i : ℕ). i % 65536) z))
    by (tasks.Outputs k r) q e h =
        let z : row ≡ r = let y : Some r ≡ Some row = e in cc in
        and_true (is_reached (tasks.Outputs k r) now) (is_some (kept r now)) h (brought_kept r number payload ms (f ∙ ap (λ (i : ℕ). i % 65536) z))
    by (tasks.Register uuid) q e h = absurd cc
    by tasks.Setup q e h = absurd cc
    by tasks.Prepare q e h = absurd cc
    by tasks.Configure q e h = absurd cc
    by tasks.Initialize q e h = absurd cc
    by tasks.Run q e h = absurd cc
    by (tasks.Step k) q e h = absurd cc
    by tasks.Stop q e h = absurd cc
    by tasks.Reset q e h = absurd cc
    by tasks.Adjust q e h = absurd cc
    by tasks.Deregister q e h = absurd cc

pub brought_waits : (limits : Limits) (number : ℕ) (payload : List ℕ) (ms : List Mark) → reaction limits (Brought number payload) ms ≡ Wait
unfolding reaction
brought_waits limits number payload ms = by (job_of ms) (is_some (cause_of ms))
  where
    by : (o : Option Job) (b : Bool) → reaction_in limits o (Brought number payload) ms (Brought number payload ∷ ms) ≡ Wait
    by None b = refl
    by (Some job) b = two (is_some (cause_of ms))
      where
        two : (b : Bool) → (if b then Wait else on_mark limits job (Brought number payload) ms (Brought number payload ∷ ms)) ≡ Wait
        two true = refl
        two false = refl

pub told_state : (job : Job) (ms : List Mark) (bs : List Asking) (s : ℕ) → latest ms ≡ latests.Answered AskState (StateAck s) → Stage job ms bs → Question job AskState (Some (StateAck s)) bs
told_state job ms bs s o (idling l e a) = let z = sym l ∙ o in absurd cc
told_state job ms bs s o (main_open r l k) = let z = sym l ∙ o in absurd cc
told_state job ms bs s o (question_open r l k) = let z = sym l ∙ o in absurd cc
told_state job ms bs s o (trying r code l h k) = let z = sym l ∙ o in absurd cc
told_state job ms bs s o (mains_done r l k w) = let z = sym l ∙ o in absurd cc
told_state job ms bs s o (state_told t l k w) =
    let z : latests.Answered AskState (StateAck t) ≡ latests.Answered AskState (StateAck s) = sym l ∙ o in
    let y : t ≡ s = cc in
    let P : ℕ → Type 0 = λ x. Question job AskState (Some (StateAck x)) bs in
    subst P y k

-- ---- how many values were sent
count_one : (steps rows : ℕ) → ordinals_below steps 1 rows ≡ rows
count_one steps zero = refl
count_one steps (suc r) =
    let d = div-add-mod' r (steps + 1) in
    let a : ordinals_in_run steps 1 ≡ steps + 1 = omega arith in
    let e : ordinal_at steps 1 r ≡ r / (steps + 1) * (steps + 1) + r % (steps + 1) / 1 = ap (λ (v : ℕ). r / (steps + 1) * v + r % (steps + 1) / 1) a in
    let f : r % (steps + 1) / 1 ≡ r % (steps + 1) = omega arith in
    omega (arith, e, f, d)

pub sent_few : (owed sent : List Note) (many : ℕ) → OwesValue owed sent many → length sent ≤ many
sent_few [] sent many o = omega (arith, o)
sent_few (v ∷ []) sent many o = omega (arith, o.0)
sent_few (v ∷ u ∷ more) sent many o = absurd o

pub sent_all : (owed sent : List Note) (many : ℕ) → owed ≡ [] → OwesValue owed sent many → length sent ≡ many
sent_all [] sent many e o = o
sent_all (v ∷ more) sent many e o = absurd cc

module _ (sc : Scenario) (other : SlaveDesc) (ok : IsScenario sc) (s : ℕ) (it : IsSlaveOf (parties sc other) s) where
  abbrev W : Parties
  W = parties sc other

  abbrev X : ConversingSlaves
  X = slaves_asked sc other

  abbrev Ms : Machines
  Ms = machines sc other

  pub own_watch : Ms.from s ≡ s
  own_watch = watch_sender sc s (slave_numbered sc other s) (of_scenario sc other ok s it)

  each_one : Ms.q s ≡ 1
  each_one = watch_interval sc s (slave_numbered sc other s) (of_scenario sc other ok s it)

  pub record SentSoFar (log : List LogEntry) : Type 0 where
    pub few : length (values_sent W s log) ≤ shown_after (X.bench s log).events
    pub all : (X.desk s log).owed ≡ [] → length (values_sent W s log) ≡ shown_after (X.bench s log).events

  pub sent_so_far : (log : List LogEntry) → Behaves W X log → SentSoFar log
  sent_so_far log b =
      let P : ℕ → Type 0 = λ i. IsSlaveOf W i in
      let v = sends_values W X (are_slaves sc other ok) Ms (slaves_are sc other ok) s (subst P (sym own_watch) it) log b in
      let many : ordinals_below X.steps (Ms.q s) (shown_after (X.bench (Ms.from s) log).events) ≡ shown_after (X.bench s log).events
      = ap (λ (q : ℕ). ordinals_below X.steps q (shown_after (X.bench (Ms.from s) log).events)) each_one ∙ count_one X.steps (shown_after (X.bench (Ms.from s) log).events) ∙ ap (λ (t : ℕ). shown_after (X.bench t log).events) own_watch in
      let few' = sent_few (values_owed W s (X.desk (Ms.from s) log).owed) (values_sent W s log) (ordinals_below X.steps (Ms.q s) (shown_after (X.bench (Ms.from s) log).events)) v.owes in
      record {
        few = omega (arith, few', many);
        all = λ e. sent_all (values_owed W s (X.desk (Ms.from s) log).owed) (values_sent W s log) (ordinals_below X.steps (Ms.q s) (shown_after (X.bench (Ms.from s) log).events)) (ap (λ (t : ℕ). values_owed W s (X.desk t log).owed) own_watch ∙ ap (values_owed W s) e) v.owes ∙ many;
      }
