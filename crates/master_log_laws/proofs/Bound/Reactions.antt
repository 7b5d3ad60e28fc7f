-- What follows from a mark, and which questions a mark leaves as they are.
use Rattle.std.proofs.Common.{◌≡◌, ℕ, ◌+◌, ◌%◌, ◌≤◌, ◌&&◌, not, Bool, true, false, Option, Some, None, List, [], ◌∷◌, length, refl, sym, ap, subst, ◌∙◌, arith}
use Rattle.std.specs.Prelude.{is_some, if◌then◌else◌, nat_le}
use Rattle.std.specs.List.{list_any}
use Rattle.std.proofs.lemmas.Bool.{leb-true, le-leb, or_right, and_parts, and_from}
use Rattle.dcp_types.specs.Codes.{state_code}
use Rattle.dcp_types.specs.declared.limits.Limits.{Limits}
use Rattle.dcp_types.specs.declared.states.State.{State}
use Rattle.pdu_layout.specs.declared.messages.Cfg.{Cfg}
use Rattle.master_spec.specs.declared.causes.Cause.{Cause}
use Rattle.master_spec.specs.declared.tasks.Task.{Task}
use Rattle.master_spec.specs.declared.tasks.Task.TheVariants as tasks
use Rattle.master_spec.specs.declared.requests.Request.{Request}
use Rattle.master_spec.specs.declared.requests.Latest.{Latest}
use Rattle.master_spec.specs.declared.requests.Latest.TheVariants as latests
use Rattle.master_spec.specs.declared.reactions.Awaited.TheVariants.{TheAnswer, TheState, TheOutputs, TheOthers}
use Rattle.master_spec.specs.declared.reactions.Reaction.TheVariants.{Wait}
use Rattle.master_spec.specs.Tasks.{is_by_list, is_by_end, target_of, passing_of, task_row}
use Rattle.master_spec.specs.Jobs.{Job}
use Rattle.master_spec.specs.Marks.{Mark, is_begun, count, this_phase, acks_configuration, acks_change, names, mark_brings, oldest, or_else, settings_answered, is_named_by, is_reached, kept, has_row_outputs, is_passed, job_of, cause_of, latest, open_in}
use Rattle.master_spec.specs.Conversation.{reaction, reaction_in, on_mark, awaited, awaited_by, is_state}
use Rattle.master_log_laws.proofs.Bound.Places.{awaited_if}

in_ended : (limits : Limits) (o : Option Job) (m : Mark) (older marks : List Mark) (cause : Cause) → cause_of older ≡ Some cause → reaction_in limits o m older marks ≡ Wait
in_ended limits None m older marks cause e = refl
in_ended limits (Some job) m older marks cause e = ap (λ (x : Option Cause). if is_some x then Wait else on_mark limits job m older marks) e

-- a conversation that has ended does nothing
pub reacts_ended : (limits : Limits) (m : Mark) (older : List Mark) (cause : Cause) → cause_of older ≡ Some cause → reaction limits m older ≡ Wait
unfolding reaction
reacts_ended limits m older cause e = in_ended limits (job_of (m ∷ older)) m older (m ∷ older) cause e

-- every other one with a job goes by its newest mark
pub reacts : (limits : Limits) (m : Mark) (older : List Mark) (job : Job) → cause_of older ≡ None → job_of (m ∷ older) ≡ Some job → reaction limits m older ≡ on_mark limits job m older (m ∷ older)
unfolding reaction
reacts limits m older job e j =
    ap (λ (o : Option Job). reaction_in limits o m older (m ∷ older)) j
    ∙ ap (λ (x : Option Cause). if is_some x then Wait else on_mark limits job m older (m ∷ older)) e

-- ---- what is waited for

awaited_at : (job : Job) (x : Latest) (marks : List Mark) → awaited_by job x marks ≡ awaited_if job x (is_passed job marks)
awaited_at job latests.Nothing marks = refl
awaited_at job (latests.Asked request) marks = refl
awaited_at job (latests.Answered request answer) marks = refl

pub awaited_is : (job : Job) (marks : List Mark) (passed : Bool) → is_passed job marks ≡ passed → awaited job marks ≡ awaited_if job (latest marks) passed
awaited_is job marks passed e = awaited_at job (latest marks) marks ∙ ap (λ (b : Bool). awaited_if job (latest marks) b) e

-- while a request is open, its answer
pub awaited_open : (job : Job) (marks : List Mark) (request : Request) → latest marks ≡ latests.Asked request → awaited job marks ≡ TheAnswer
awaited_open job marks request e = ap (λ (x : Latest). awaited_by job x marks) e

-- while anything else is waited for, nothing is open
pub others_closed : (job : Job) (x : Latest) (passed : Bool) → awaited_if job x passed ≡ TheOthers → open_in x ≡ None
others_closed job latests.Nothing passed e = refl
others_closed job (latests.Asked request) passed e = absurd (cc)
others_closed job (latests.Answered request answer) passed e = refl

pub state_closed : (job : Job) (x : Latest) → awaited_if job x false ≡ TheState → open_in x ≡ None
state_closed job latests.Nothing e = refl
state_closed job (latests.Asked request) e = absurd (cc)
state_closed job (latests.Answered request answer) e = refl

pub outputs_closed : (job : Job) (x : Latest) → awaited_if job x false ≡ TheOutputs → open_in x ≡ None
outputs_closed job latests.Nothing e = refl
outputs_closed job (latests.Asked request) e = absurd (cc)
outputs_closed job (latests.Answered request answer) e = refl

-- ---- a task that is done stays done

phase_more : (m : Mark) (marks : List Mark) → is_begun m ≡ false → this_phase (m ∷ marks) ≡ m ∷ this_phase marks
phase_more m marks e = ap (λ (b : Bool). if b then [] else m ∷ this_phase marks) e

count_at : (b : Bool) (n : ℕ) → n ≤ (if b then n + 1 else n)
count_at true n = omega arith
count_at false n = omega arith

configured_more : (m : Mark) (marks : List Mark) → is_begun m ≡ false → settings_answered marks ≤ settings_answered (m ∷ marks)
configured_more m marks e =
    subst (λ (ms : List Mark). settings_answered marks ≤ count acks_configuration ms) (sym (phase_more m marks e))
    (count_at (acks_configuration m) (settings_answered marks))

any_more : (is : Mark → Bool) (m : Mark) (marks : List Mark) → is_begun m ≡ false → list_any is (this_phase marks) ≡ true → list_any is (this_phase (m ∷ marks)) ≡ true
any_more is m marks e h =
    subst (λ (ms : List Mark). list_any is ms ≡ true) (sym (phase_more m marks e))
    (or_right (is m) (list_any is (this_phase marks)) h)

named_more : (t : Option State) (m : Mark) (marks : List Mark) → is_begun m ≡ false → is_named_by t marks ≡ true → is_named_by t (m ∷ marks) ≡ true
named_more None m marks e h = h
named_more (Some state) m marks e h = any_more (names (state_code state)) m marks e h

some_or : (o p : Option (List ℕ)) → is_some o ≡ true → is_some (or_else o p) ≡ true
some_or None p h = absurd (cc)
some_or (Some x) p h = refl

outputs_more : (row : Option ℕ) (m : Mark) (marks : List Mark) → is_begun m ≡ false → has_row_outputs row marks ≡ true → has_row_outputs row (m ∷ marks) ≡ true
outputs_more None m marks e h = refl
outputs_more (Some row) m marks e h =
    subst (λ (ms : List Mark). is_some (oldest (mark_brings (row % 65536)) ms) ≡ true) (sym (phase_more m marks e))
    (some_or (kept row marks) (mark_brings (row % 65536) m) h)

pub passed_list : (job : Job) (marks : List Mark) → is_by_list job.task ≡ true → length job.list ≤ settings_answered marks → is_passed job marks ≡ true
passed_list job marks e h =
    ap (λ (b : Bool). if b then nat_le (length job.list) (settings_answered marks) else (if is_by_end job.task then list_any acks_change (this_phase marks) else (is_reached job.task marks && has_row_outputs (task_row job.task) marks))) e
    ∙ le-leb (length job.list) (settings_answered marks) h

pub passed_end : (job : Job) (marks : List Mark) → is_by_list job.task ≡ false → is_by_end job.task ≡ true → list_any acks_change (this_phase marks) ≡ true → is_passed job marks ≡ true
passed_end job marks e f h =
    ap (λ (b : Bool). if b then nat_le (length job.list) (settings_answered marks) else (if is_by_end job.task then list_any acks_change (this_phase marks) else (is_reached job.task marks && has_row_outputs (task_row job.task) marks))) e
    ∙ ap (λ (b : Bool). if b then list_any acks_change (this_phase marks) else (is_reached job.task marks && has_row_outputs (task_row job.task) marks)) f
    ∙ h

pub passed_more : (job : Job) (m : Mark) (marks : List Mark) → is_begun m ≡ false → is_passed job marks ≡ true → is_passed job (m ∷ marks) ≡ true
passed_more job m marks e h = by (is_by_list job.task) (is_by_end job.task) h
  where
    by : (by_list by_end : Bool)
        → (if by_list then nat_le (length job.list) (settings_answered marks) else (if by_end then list_any acks_change (this_phase marks) else (is_reached job.task marks && has_row_outputs (task_row job.task) marks))) ≡ true
        → (if by_list then nat_le (length job.list) (settings_answered (m ∷ marks)) else (if by_end then list_any acks_change (this_phase (m ∷ marks)) else (is_reached job.task (m ∷ marks) && has_row_outputs (task_row job.task) (m ∷ marks)))) ≡ true
    by true by_end h =
        let f : length job.list ≤ settings_answered marks = leb-true (length job.list) (settings_answered marks) h in
        let g : settings_answered marks ≤ settings_answered (m ∷ marks) = configured_more m marks e in
        le-leb (length job.list) (settings_answered (m ∷ marks)) (omega (arith, f, g))
    by false true h = any_more acks_change m marks e h
    by false false h =
        let p = and_parts (is_reached job.task marks) (has_row_outputs (task_row job.task) marks) h in
        and_from (is_reached job.task (m ∷ marks)) (has_row_outputs (task_row job.task) (m ∷ marks)) (named_more (target_of job.task) m marks e p.0) (outputs_more (task_row job.task) m marks e p.1)

-- ---- a task that is done has no passing state to go through

and_not : (x r h : Bool) → (r && h) ≡ true → (x && not r) ≡ false
and_not true true h e = refl
and_not true false h e = absurd (cc)
and_not false r h e = refl

pub no_passing : (task : Task) (list : List Cfg) (state : ℕ) (marks : List Mark) → is_passed (record { task = task; list = list }) marks ≡ true → (is_state (passing_of task) state && not (is_reached task marks)) ≡ false
no_passing (tasks.Register uuid) list state marks h = refl
no_passing tasks.Setup list state marks h = refl
no_passing tasks.Prepare list state marks h = and_not _ (is_reached tasks.Prepare marks) _ h
no_passing tasks.Configure list state marks h = and_not _ (is_reached tasks.Configure marks) _ h
no_passing tasks.Initialize list state marks h = and_not _ (is_reached tasks.Initialize marks) _ h
no_passing (tasks.FirstOutputs row) list state marks h = and_not _ (is_reached (tasks.FirstOutputs row) marks) (has_row_outputs (Some row) marks) h
no_passing tasks.Run list state marks h = and_not _ (is_reached tasks.Run marks) _ h
no_passing (tasks.Step k) list state marks h = and_not _ (is_reached (tasks.Step k) marks) _ h
no_passing (tasks.Outputs k row) list state marks h = and_not _ (is_reached (tasks.Outputs k row) marks) (has_row_outputs (Some row) marks) h
no_passing tasks.Stop list state marks h = and_not _ (is_reached tasks.Stop marks) _ h
no_passing tasks.Reset list state marks h = refl
no_passing tasks.Adjust list state marks h = refl
no_passing tasks.Deregister list state marks h = refl
