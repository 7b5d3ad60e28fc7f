-- One conversation in one phase: when it has passed, and what it asks then.
use Rattle.std.proofs.Common.{◌≡◌, ℕ, ◌+◌, ◌≤◌, Bool, true, false, if◌then◌else◌, Option, Some, None, List, ◌∷◌, length, refl, sym, ap, ◌∙◌, arith}
use Rattle.std.specs.Prelude.{◌%◌, ◌&&◌, ◌||◌, nat_le, is_some}
use Rattle.std.specs.List.{list_any}
use Rattle.std.proofs.lemmas.Bool.{leb-true, le-leb, and_parts}
use Rattle.dcp_types.specs.Codes.{state_code}
use Rattle.dcp_types.specs.declared.states.State.{State}
use Rattle.master_spec.specs.declared.causes.Cause.{Cause}
use Rattle.master_spec.specs.declared.causes.Verdict.TheVariants as verdicts
use Rattle.master_spec.specs.Jobs.{Job}
use Rattle.master_spec.specs.Tasks.{is_by_list, is_by_end, target_of, task_row}
use Rattle.master_spec.specs.Marks.{Mark, Begun, Asked, Again, Answered, Hinted, Brought, Turned, Ended, acks_change, acks_configuration, cause_of, count, has_row_outputs, is_named_by, is_passed, is_reached, job_of, mark_brings, names, oldest, or_else, settings_answered, this_phase, verdict_by, verdict_of}
use Rattle.master_spec.specs.Course.{is_settled_as}

-- ---- the marks of a phase
-- a mark that begins no phase
abbrev pub IsLater : Mark → Type 0
IsLater (Begun job) = ⊥
IsLater (Asked request) = Unit {0}
IsLater Again = Unit {0}
IsLater (Answered request answer) = Unit {0}
IsLater Hinted = Unit {0}
IsLater (Brought number payload) = Unit {0}
IsLater (Turned settled) = Unit {0}
IsLater (Ended cause) = Unit {0}

-- and brings no answer and no outputs
abbrev pub IsSilent : Mark → Type 0
IsSilent (Begun job) = ⊥
IsSilent (Asked request) = Unit {0}
IsSilent Again = Unit {0}
IsSilent (Answered request answer) = ⊥
IsSilent Hinted = Unit {0}
IsSilent (Brought number payload) = ⊥
IsSilent (Turned settled) = Unit {0}
IsSilent (Ended cause) = Unit {0}

pub this_more : (m : Mark) (ms : List Mark) → IsLater m → this_phase (m ∷ ms) ≡ m ∷ this_phase ms
this_more (Begun job) ms l = absurd l
this_more (Asked request) ms l = refl
this_more Again ms l = refl
this_more (Answered request answer) ms l = refl
this_more Hinted ms l = refl
this_more (Brought number payload) ms l = refl
this_more (Turned settled) ms l = refl
this_more (Ended cause) ms l = refl

-- ---- whether a phase has passed, by its marks
abbrev pub named_in : Option State → List Mark → Bool
named_in None ph = false
named_in (Some state) ph = list_any (names (state_code state)) ph

abbrev pub rows_in : Option ℕ → List Mark → Bool
rows_in None ph = true
rows_in (Some row) ph = is_some (oldest (mark_brings (row % 65536)) ph)

abbrev pub passed_in : Job → List Mark → Bool
passed_in job ph =
    if is_by_list job.task then nat_le (length job.list) (count acks_configuration ph)
    else if is_by_end job.task then list_any acks_change ph
    else (named_in (target_of job.task) ph && rows_in (task_row job.task) ph)

named_is : (o : Option State) (ms : List Mark) → is_named_by o ms ≡ named_in o (this_phase ms)
named_is None ms = refl
named_is (Some state) ms = refl

rows_are : (o : Option ℕ) (ms : List Mark) → has_row_outputs o ms ≡ rows_in o (this_phase ms)
rows_are None ms = refl
rows_are (Some row) ms = refl

pub reached_is : (job : Job) (ms : List Mark) → is_reached job.task ms ≡ named_in (target_of job.task) (this_phase ms)
reached_is job ms = named_is (target_of job.task) ms

pub passed_is : (job : Job) (ms : List Mark) → is_passed job ms ≡ passed_in job (this_phase ms)
passed_is job ms =
    ap (λ (b : Bool). if is_by_list job.task then nat_le (length job.list) (settings_answered ms) else if is_by_end job.task then list_any acks_change (this_phase ms) else (b && has_row_outputs (task_row job.task) ms)) (reached_is job ms)
    ∙ ap (λ (b : Bool). if is_by_list job.task then nat_le (length job.list) (settings_answered ms) else if is_by_end job.task then list_any acks_change (this_phase ms) else (named_in (target_of job.task) (this_phase ms) && b)) (rows_are (task_row job.task) ms)

-- ---- one more mark
or_right : (a b : Bool) → b ≡ true → (a || b) ≡ true
or_right true b h = refl
or_right false b h = h

count_more : (b : Bool) (n : ℕ) → n ≤ (if b then n + 1 else n)
count_more true n = omega arith
count_more false n = omega arith

named_more : (o : Option State) (m : Mark) (ph : List Mark) → named_in o ph ≡ true → named_in o (m ∷ ph) ≡ true
named_more None m ph h = h
named_more (Some state) m ph h = or_right (names (state_code state) m) (list_any (names (state_code state)) ph) h

some_more : (o p : Option (List ℕ)) → is_some o ≡ true → is_some (or_else o p) ≡ true
some_more None p h = absurd cc
some_more (Some x) p h = refl

rows_more : (o : Option ℕ) (m : Mark) (ph : List Mark) → rows_in o ph ≡ true → rows_in o (m ∷ ph) ≡ true
rows_more None m ph h = h
rows_more (Some row) m ph h = some_more (oldest (mark_brings (row % 65536)) ph) (mark_brings (row % 65536) m) h

both : (a b : Bool) → a ≡ true → b ≡ true → (a && b) ≡ true
both true b h k = k
both false b h k = absurd cc

passed_in_more : (job : Job) (m : Mark) (ph : List Mark) → passed_in job ph ≡ true → passed_in job (m ∷ ph) ≡ true
passed_in_more job m ph h = by (is_by_list job.task) (is_by_end job.task) h
  where
    by : (a b : Bool) → (if a then nat_le (length job.list) (count acks_configuration ph) else if b then list_any acks_change ph else (named_in (target_of job.task) ph && rows_in (task_row job.task) ph)) ≡ true
        → (if a then nat_le (length job.list) (count acks_configuration (m ∷ ph)) else if b then list_any acks_change (m ∷ ph) else (named_in (target_of job.task) (m ∷ ph) && rows_in (task_row job.task) (m ∷ ph))) ≡ true
    by true b h = let x = leb-true (length job.list) (count acks_configuration ph) h in let y = count_more (acks_configuration m) (count acks_configuration ph) in le-leb (length job.list) (count acks_configuration (m ∷ ph)) (omega (arith, x, y))
    by false true h = or_right (acks_change m) (list_any acks_change ph) h
    by false false h =
        let p = and_parts (named_in (target_of job.task) ph) (rows_in (task_row job.task) ph) h in
        both (named_in (target_of job.task) (m ∷ ph)) (rows_in (task_row job.task) (m ∷ ph)) (named_more (target_of job.task) m ph p.0) (rows_more (task_row job.task) m ph p.1)

pub passed_more : (job : Job) (m : Mark) (ms : List Mark) → IsLater m → is_passed job ms ≡ true → is_passed job (m ∷ ms) ≡ true
passed_more job m ms l h = passed_is job (m ∷ ms) ∙ ap (passed_in job) (this_more m ms l) ∙ passed_in_more job m (this_phase ms) (sym (passed_is job ms) ∙ h)

pub reached_more : (job : Job) (m : Mark) (ms : List Mark) → IsLater m → is_reached job.task ms ≡ true → is_reached job.task (m ∷ ms) ≡ true
reached_more job m ms l h = reached_is job (m ∷ ms) ∙ ap (named_in (target_of job.task)) (this_more m ms l) ∙ named_more (target_of job.task) m (this_phase ms) (sym (reached_is job ms) ∙ h)

-- ---- a silent one
abbrev pub SilentHere : Mark → Type 0
SilentHere m = (acks_configuration m ≡ false) × (acks_change m ≡ false) × ((code : ℕ) → names code m ≡ false) × ((row : ℕ) → mark_brings row m ≡ None)

silent_here : (m : Mark) → IsSilent m → SilentHere m
silent_here (Begun job) s = absurd s
silent_here (Asked request) s = (refl, refl, (λ code. refl), (λ row. refl))
silent_here Again s = (refl, refl, (λ code. refl), (λ row. refl))
silent_here (Answered request answer) s = absurd s
silent_here Hinted s = (refl, refl, (λ code. refl), (λ row. refl))
silent_here (Brought number payload) s = absurd s
silent_here (Turned settled) s = (refl, refl, (λ code. refl), (λ row. refl))
silent_here (Ended cause) s = (refl, refl, (λ code. refl), (λ row. refl))

silent_later : (m : Mark) → IsSilent m → IsLater m
silent_later (Begun job) s = s
silent_later (Asked request) s = tt
silent_later Again s = tt
silent_later (Answered request answer) s = tt
silent_later Hinted s = tt
silent_later (Brought number payload) s = tt
silent_later (Turned settled) s = tt
silent_later (Ended cause) s = tt

named_silent : (o : Option State) (m : Mark) (ph : List Mark) → ((code : ℕ) → names code m ≡ false) → named_in o (m ∷ ph) ≡ named_in o ph
named_silent None m ph h = refl
named_silent (Some state) m ph h = ap (λ (b : Bool). b || list_any (names (state_code state)) ph) (h (state_code state))

or_none : (o : Option (List ℕ)) → or_else o None ≡ o
or_none None = refl
or_none (Some x) = refl

rows_silent : (o : Option ℕ) (m : Mark) (ph : List Mark) → ((row : ℕ) → mark_brings row m ≡ None) → rows_in o (m ∷ ph) ≡ rows_in o ph
rows_silent None m ph h = refl
rows_silent (Some row) m ph h = ap (λ (x : Option (List ℕ)). is_some (or_else (oldest (mark_brings (row % 65536)) ph) x)) (h (row % 65536)) ∙ ap is_some (or_none (oldest (mark_brings (row % 65536)) ph))

passed_in_silent : (job : Job) (m : Mark) (ph : List Mark) → SilentHere m → passed_in job (m ∷ ph) ≡ passed_in job ph
passed_in_silent job m ph s = by (is_by_list job.task) (is_by_end job.task)
  where
    by : (a b : Bool) → (if a then nat_le (length job.list) (count acks_configuration (m ∷ ph)) else if b then list_any acks_change (m ∷ ph) else (named_in (target_of job.task) (m ∷ ph) && rows_in (task_row job.task) (m ∷ ph)))
        ≡ (if a then nat_le (length job.list) (count acks_configuration ph) else if b then list_any acks_change ph else (named_in (target_of job.task) ph && rows_in (task_row job.task) ph))
    by true b = ap (λ (t : Bool). nat_le (length job.list) (if t then count acks_configuration ph + 1 else count acks_configuration ph)) s.0
    by false true = ap (λ (t : Bool). t || list_any acks_change ph) s.1
    by false false =
        ap (λ (t : Bool). t && rows_in (task_row job.task) (m ∷ ph)) (named_silent (target_of job.task) m ph s.2) ∙ ap (λ (t : Bool). named_in (target_of job.task) ph && t) (rows_silent (task_row job.task) m ph s.3)

pub passed_silent : (job : Job) (m : Mark) (ms : List Mark) → IsSilent m → is_passed job (m ∷ ms) ≡ is_passed job ms
passed_silent job m ms s = passed_is job (m ∷ ms) ∙ ap (passed_in job) (this_more m ms (silent_later m s)) ∙ passed_in_silent job m (this_phase ms) (silent_here m s) ∙ sym (passed_is job ms)

pub reached_silent : (job : Job) (m : Mark) (ms : List Mark) → IsSilent m → is_reached job.task (m ∷ ms) ≡ is_reached job.task ms
reached_silent job m ms s = reached_is job (m ∷ ms) ∙ ap (named_in (target_of job.task)) (this_more m ms (silent_later m s)) ∙ named_silent (target_of job.task) m (this_phase ms) (silent_here m s).2 ∙ sym (reached_is job ms)

-- outputs name no state
pub reached_brought : (job : Job) (number : ℕ) (payload : List ℕ) (ms : List Mark) → is_reached job.task (Brought number payload ∷ ms) ≡ is_reached job.task ms
reached_brought job number payload ms = reached_is job (Brought number payload ∷ ms) ∙ named_silent (target_of job.task) (Brought number payload) (this_phase ms) (λ code. refl) ∙ sym (reached_is job ms)

-- ---- how it stands
pub passed_verdict : (ms : List Mark) (job : Job) → cause_of ms ≡ None → job_of ms ≡ Some job → is_settled_as (verdict_of ms) ≡ true → is_passed job ms ≡ true
passed_verdict ms job c j h = by (is_passed job ms) refl (ap (λ (o : Option Cause). is_settled_as (verdict_by o (job_of ms) ms)) (sym c) ∙ h)
  where
    by : (b : Bool) → is_passed job ms ≡ b → is_settled_as (verdict_by None (job_of ms) ms) ≡ true → b ≡ true
    by true e z = refl
    by false e z =
        let y : is_settled_as verdicts.Going ≡ true = ap (λ (b : Bool). is_settled_as (if b then verdicts.Passed else verdicts.Going)) (sym e) ∙ ap (λ (o : Option Job). is_settled_as (verdict_by None o ms)) (sym j) ∙ z in
        let x : false ≡ true = y in cc

pub settled_passed : (ms : List Mark) (job : Job) → job_of ms ≡ Some job → is_passed job ms ≡ true → is_settled_as (verdict_of ms) ≡ true
settled_passed ms job j p = by (cause_of ms)
  where
    by : (c : Option Cause) → is_settled_as (verdict_by c (job_of ms) ms) ≡ true
    by (Some cause) = refl
    by None = ap (λ (o : Option Job). is_settled_as (verdict_by None o ms)) j ∙ ap (λ (b : Bool). is_settled_as (if b then verdicts.Passed else verdicts.Going)) p

pub settled_ended : (ms : List Mark) (cause : Cause) → cause_of ms ≡ Some cause → is_settled_as (verdict_of ms) ≡ true
settled_ended ms cause c = ap (λ (o : Option Cause). is_settled_as (verdict_by o (job_of ms) ms)) c
