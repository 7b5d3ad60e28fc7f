-- The requests of a phase that has passed, the oldest first, each with the phase in which it stands.
use Rattle.std.proofs.Common.{◌≡◌, ℕ, ◌+◌, ◌%◌, ◌<◌, ◌≤◌, ◌⊎◌, inl, inr, Bool, true, false, if◌then◌else◌, Option, Some, None, List, [], ◌∷◌, ◌++◌, length, refl, sym, ap, ◌∙◌, subst, arith}
use Rattle.std.specs.Prelude.{◌==◌, ◌&&◌, is_some, nat_le}
use Rattle.std.specs.List.{list_any}
use Rattle.std.proofs.lemmas.Bool.{eqb-true, and_parts}
use Rattle.dcp_types.specs.Codes.{state_code}
use Rattle.dcp_types.specs.declared.limits.Limits.{Limits}
use Rattle.dcp_types.specs.declared.states.State.{State}
use Rattle.dcp_ends.specs.declared.entries.LogEntry.{LogEntry}
use Rattle.master_spec.specs.declared.requests.Request.{Request}
use Rattle.master_spec.specs.declared.requests.Answer.{Answer}
use Rattle.master_spec.specs.declared.requests.Answer.TheVariants.{Ack, StateAck}
use Rattle.master_spec.specs.declared.setups.Slave.{Slave}
use Rattle.master_spec.specs.declared.setups.Setup.{Setup}
use Rattle.master_spec.specs.declared.tasks.Task.{Task}
use Rattle.master_spec.specs.declared.tasks.Task.TheVariants as tasks
use Rattle.master_spec.specs.Tasks.{is_by_list, is_by_end, target_of, task_row}
use Rattle.master_spec.specs.Jobs.{Job, asked_by}
use Rattle.master_spec.specs.Marks.{Mark, Begun, Asked, Again, Answered, Hinted, Brought, Turned, Ended, acks_change, mark_brings, or_else, this_phase, settings_answered, kept, count, is_begun, is_reached, has_row_outputs, is_passed, open_in, open_request}
use Rattle.master_spec.specs.Requests.{Asking, Decision, is_state_request, is_state_question, is_step, is_acked, acked, decided_by}
use Rattle.master_spec.specs.Exchanged.{Brings, IsDecided}
use Rattle.master_log_laws.specs.Asking.Legal.{AreLegal}
use Rattle.master_log_laws.specs.Index.Index.{Placed, marks_of, again_at, decided_at}
use Rattle.master_log_laws.specs.Index.Dates.{phase_before, next_after, next_place, IsDated, AreDated}
use Rattle.master_log_laws.proofs.Phases.Now.{now_by, now, IsOf}
use Rattle.master_log_laws.proofs.Phases.Mains.{AreMains, AreQuestions}
use Rattle.master_log_laws.proofs.Phases.Stage.{Stage, idling, main_open, question_open, trying, mains_done, state_told, mains_acked, more_questions}
use Rattle.master_log_laws.proofs.Phases.Tags.{tried_not_passed}
use Rattle.master_log_laws.proofs.Finish.Lists.{Every, every_map, In}
use Rattle.master_log_laws.proofs.Finish.Codes.{task_code}

-- ---- what a passed phase shows
-- a question that was answered by the state
pub record Named (setup : Setup) (log : List LogEntry) (state : State) (p : ℕ) (questions : List Asking) : Type 0 where
  pub question : Asking
  pub place : ℕ
  pub within : In question questions
  pub asks : is_state_question question ≡ true
  pub told : IsDecided question place (StateAck (state_code state))
  pub told_in : phase_before setup log place ≡ p

-- steps that were refused, the one request of the job, which is acknowledged, and questions asked after that
pub record Single (setup : Setup) (log : List LogEntry) (job : Job) (p : ℕ) (seg : List Asking) : Type 0 where
  pub tries : List Asking
  pub main : Asking
  pub questions : List Asking
  pub is : seg ≡ tries ++ (main ∷ questions)
  pub refused : Every (λ a. (is_step a ≡ true) × (is_acked a ≡ false)) tries
  pub place : ℕ
  pub done : IsDecided main place Ack
  pub done_in : phase_before setup log place ≡ p
  pub first_in : phase_before setup log main.first ≡ p
  pub code_is : main.code ≡ task_code job.task
  pub of : (r : Request) → asked_by job ≡ r ∷ [] → IsOf r main
  pub asks : Every (λ a. is_state_request a ≡ false) questions
  pub later : Every (λ a. place < a.first) questions
  pub named : (state : State) → target_of job.task ≡ Some state → is_by_end job.task ≡ false → Named setup log state p questions

pub record Came (setup : Setup) (log : List LogEntry) (slave : Slave) (row p : ℕ) : Type 0 where
  pub place : ℕ
  pub brings : Brings setup log slave (row % 65536) place
  pub came_in : phase_before setup log place ≡ p

abbrev pub HasCode : Job → Asking → Type 0
HasCode job a = is_state_request a ≡ true → a.code ≡ task_code job.task

pub record Segment (setup : Setup) (log : List LogEntry) (slave : Slave) (job : Job) (p : ℕ) (seg : List Asking) : Type 0 where
  pub first_in : Every (λ a. phase_before setup log a.first ≡ p) seg
  pub codes : Every (HasCode job) seg
  pub came : (row : ℕ) → task_row job.task ≡ Some row → Came setup log slave row p
  pub shape : ((task_code job.task ≡ 0) × Every (λ a. is_state_request a ≡ false) seg) ⊎ Single setup log job p seg

-- ---- all main requests are acknowledged, and the questions are newer
pub record Whole (job : Job) (bs : List Asking) : Type 0 where
  pub qs : List Asking
  pub ms : List Asking
  pub is : bs ≡ qs ++ ms
  pub questions : AreQuestions qs
  pub mains : AreMains job ms
  pub full : acked ms ≡ length (asked_by job)

pub whole : (limits : Limits) (js : List Job) (job : Job) (xs : List Placed) → AreLegal limits js (marks_of xs) → Stage job (marks_of xs) (now xs) → is_passed job (marks_of xs) ≡ true → open_request (marks_of xs) ≡ None → Whole job (now xs)
whole limits js job xs l (idling q e a) p o = record { qs = []; ms = []; is = e; questions = tt; mains = tt; full = sym (ap length a) }
whole limits js job xs l (main_open r q k) p o = let z : Some r ≡ None = ap open_in (sym q) ∙ o in absurd cc
whole limits js job xs l (question_open r q k) p o = let z : Some r ≡ None = ap open_in (sym q) ∙ o in absurd cc
whole limits js job xs l (trying r code q h k) p o = absurd (tried_not_passed limits js job xs r code l h k p)
whole limits js job xs l (mains_done r q k w) p o = record { qs = []; ms = now xs; is = refl; questions = tt; mains = (mains_acked job r (now xs) k).0; full = w }
whole limits js job xs l (state_told s q k h) p o = record { qs = k.newest ∷ k.qs; ms = k.ms; is = k.is; questions = more_questions job _ _ (now xs) k; mains = k.mains; full = k.whole }

-- ---- the phases and the order of the requests of a phase
abbrev pub DecidedIn : Setup → List LogEntry → ℕ → Asking → Type 0
DecidedIn setup log p a = (d : Decision) → a.decision ≡ Some d → phase_before setup log d.place ≡ p

abbrev pub InPhase : Setup → List LogEntry → ℕ → Asking → Type 0
InPhase setup log p a = (phase_before setup log a.first ≡ p) × DecidedIn setup log p a

pub decided_place : (setup : Setup) (log : List LogEntry) (p : ℕ) (a : Asking) (place : ℕ) (answer : Answer) → InPhase setup log p a → IsDecided a place answer → phase_before setup log place ≡ p
decided_place setup log p a place answer h d = h.1 (record { place = place; answer = answer }) d

abbrev pub DoneBefore : ℕ → Asking → Type 0
DoneBefore n a = (d : Decision) → a.decision ≡ Some d → d.place < n

abbrev pub Sorted : List Asking → Type 0
Sorted [] = Unit {0}
Sorted (b ∷ bs) = Every (DoneBefore b.first) bs × Sorted bs

undecided : (P : Decision → Type 0) (o : Option Decision) → o ≡ None → (d : Decision) → o ≡ Some d → P d
undecided P o e d f = absurd (no (sym e ∙ f))
  where
    no : None ≡ Some d → ⊥
    no z = cc

abbrev decided_with : Option Decision → ℕ → Answer → Option Decision
decided_with o n x = decided_by o (record { place = n; answer = x })

abbrev pub place_of : Option Decision → ℕ
place_of None = 0
place_of (Some d) = d.place

decided_or : (P : ℕ → Type 0) (o : Option Decision) (n : ℕ) (x : Answer) → ((d : Decision) → o ≡ Some d → P d.place) → P n → (d : Decision) → decided_with o n x ≡ Some d → P d.place
decided_or P None n x f p d e = let z : n ≡ d.place = ap place_of e in subst P z p
decided_or P (Some c) n x f p d e = f d e

phase_again : (setup : Setup) (log : List LogEntry) (p n : ℕ) (bs : List Asking) → Every (InPhase setup log p) bs → Every (InPhase setup log p) (again_at n bs)
phase_again setup log p n [] e = tt
phase_again setup log p n (b ∷ bs) e = e

phase_decided : (setup : Setup) (log : List LogEntry) (p n : ℕ) (x : Answer) (bs : List Asking) → phase_before setup log n ≡ p → Every (InPhase setup log p) bs → Every (InPhase setup log p) (decided_at n x bs)
phase_decided setup log p n x [] h e = tt
phase_decided setup log p n x (b ∷ bs) h e = (((e.0).0, decided_or (λ i. phase_before setup log i ≡ p) b.decision n x (e.0).1 h), e.1)

pub in_phase : (setup : Setup) (slave : Slave) (log : List LogEntry) (xs : List Placed) → AreDated setup slave log xs → Every (InPhase setup log (count is_begun (marks_of xs))) (now xs)
in_phase setup slave log [] d = tt
in_phase setup slave log (x ∷ xs) d = by x.mark d.0 (in_phase setup slave log xs d.1)
  where
    p : ℕ
    p = count is_begun (marks_of xs)

    by : (m : Mark) → IsDated setup slave log x.place m xs → Every (InPhase setup log p) (now xs) → Every (InPhase setup log (count is_begun (m ∷ marks_of xs))) (now_by x.place m (marks_of xs) (now xs))
    by (Begun j) w e = tt
    by (Asked r) w e = ((w.phase, undecided (λ d. phase_before setup log d.place ≡ p) None refl), e)
    by Again w e = phase_again setup log p x.place (now xs) e
    by (Answered r a) w e = phase_decided setup log p x.place a (now xs) w.phase e
    by Hinted w e = e
    by (Brought n q) w e = e
    by (Turned t) w e = e
    by (Ended cause) w e = e

before_more : (n m : ℕ) (bs : List Asking) → n ≤ m → Every (DoneBefore n) bs → Every (DoneBefore m) bs
before_more n m bs h e = every_map (DoneBefore n) (DoneBefore m) bs (λ a f d g. more (f d g)) e
  where
    more : {i : ℕ} → i < n → i < m
    more k = omega (arith, k, h)

before_again : (n i : ℕ) (bs : List Asking) → Every (DoneBefore n) bs → Every (DoneBefore n) (again_at i bs)
before_again n i [] e = tt
before_again n i (b ∷ bs) e = e

before_decided : (n i : ℕ) (x : Answer) (bs : List Asking) → i < n → Every (DoneBefore n) bs → Every (DoneBefore n) (decided_at i x bs)
before_decided n i x [] h e = tt
before_decided n i x (b ∷ bs) h e = (decided_or (λ k. k < n) b.decision i x e.0 h, e.1)

sorted_again : (i : ℕ) (bs : List Asking) → Sorted bs → Sorted (again_at i bs)
sorted_again i [] s = tt
sorted_again i (b ∷ bs) s = s

sorted_decided : (i : ℕ) (x : Answer) (bs : List Asking) → Sorted bs → Sorted (decided_at i x bs)
sorted_decided i x [] s = tt
sorted_decided i x (b ∷ bs) s = s

pub sorted : (setup : Setup) (slave : Slave) (log : List LogEntry) (xs : List Placed) → AreDated setup slave log xs → Every (DoneBefore (next_place xs)) (now xs) × Sorted (now xs)
sorted setup slave log [] d = (tt, tt)
sorted setup slave log (x ∷ xs) d = by x.mark d.0 (sorted setup slave log xs d.1)
  where
    n : ℕ
    n = next_place xs

    by : (m : Mark) → IsDated setup slave log x.place m xs → Every (DoneBefore n) (now xs) × Sorted (now xs) → Every (DoneBefore (next_after x.place m n)) (now_by x.place m (marks_of xs) (now xs)) × Sorted (now_by x.place m (marks_of xs) (now xs))
    by (Begun j) w e = (tt, tt)
    by (Asked r) w e =
        let l = w.later in
        ((undecided (λ d. d.place < x.place + 1) None refl, before_more n (x.place + 1) (now xs) (omega (arith, l)) e.0), (before_more n x.place (now xs) l e.0, e.1))
    by Again w e = let l = w.later in (before_again (x.place + 1) x.place (now xs) (before_more n (x.place + 1) (now xs) (omega (arith, l)) e.0), sorted_again x.place (now xs) e.1)
    by (Answered r a) w e = let l = w.later in (before_decided (x.place + 1) x.place a (now xs) (omega arith) (before_more n (x.place + 1) (now xs) (omega (arith, l)) e.0), sorted_decided x.place a (now xs) e.1)
    by Hinted w e = let l = w.later in (before_more n (x.place + 1) (now xs) (omega (arith, l)) e.0, e.1)
    by (Brought i q) w e = let l = w.later in (before_more n (x.place + 1) (now xs) (omega (arith, l)) e.0, e.1)
    by (Turned t) w e = (before_more n x.place (now xs) w.later e.0, e.1)
    by (Ended cause) w e = e

-- ---- outputs that are kept came in the phase
or_cases : (o p : Option (List ℕ)) → is_some (or_else o p) ≡ true → (is_some o ≡ true) ⊎ (is_some p ≡ true)
or_cases None p h = inr h
or_cases (Some x) p h = inl refl

or_none : (o : Option (List ℕ)) → is_some (or_else o None) ≡ true → is_some o ≡ true
or_none None h = h
or_none (Some x) h = refl

brings_number : (n number : ℕ) (p : List ℕ) → is_some (mark_brings n (Brought number p)) ≡ true → number ≡ n
brings_number n number p h = by (number == n) refl h
  where
    by : (b : Bool) → (number == n) ≡ b → is_some (if b then Some p else None) ≡ true → number ≡ n
    by true e h = eqb-true number n e
    by false e h = absurd cc

pub kept_in : (setup : Setup) (slave : Slave) (log : List LogEntry) (row : ℕ) (xs : List Placed) → AreDated setup slave log xs → is_some (kept row (marks_of xs)) ≡ true → Came setup log slave row (count is_begun (marks_of xs))
kept_in setup slave log row [] d h = absurd cc
kept_in setup slave log row (x ∷ xs) d h = by x.mark d.0 h (λ z. kept_in setup slave log row xs d.1 z)
  where
    p : ℕ
    p = count is_begun (marks_of xs)

    here : (number : ℕ) (q : List ℕ) → IsDated setup slave log x.place (Brought number q) xs → (is_some (kept row (marks_of xs)) ≡ true) ⊎ (is_some (mark_brings (row % 65536) (Brought number q)) ≡ true) → (is_some (kept row (marks_of xs)) ≡ true → Came setup log slave row p) → Came setup log slave row p
    here number q w (inl h) f = f h
    here number q w (inr h) f = let P : ℕ → Type 0 = λ n. Brings setup log slave n x.place in record { place = x.place; brings = subst P (brings_number (row % 65536) number q h) w.brings; came_in = w.phase }

    by : (m : Mark) → IsDated setup slave log x.place m xs → is_some (kept row (m ∷ marks_of xs)) ≡ true → (is_some (kept row (marks_of xs)) ≡ true → Came setup log slave row p) → Came setup log slave row (count is_begun (m ∷ marks_of xs))
    by (Begun j) w h f = absurd cc
    by (Asked r) w h f = f (or_none (kept row (marks_of xs)) h)
    by Again w h f = f (or_none (kept row (marks_of xs)) h)
    by (Answered r a) w h f = f (or_none (kept row (marks_of xs)) h)
    by Hinted w h f = f (or_none (kept row (marks_of xs)) h)
    by (Brought number q) w h f = here number q w (or_cases (kept row (marks_of xs)) (mark_brings (row % 65536) (Brought number q)) h) f
    by (Turned t) w h f = f (or_none (kept row (marks_of xs)) h)
    by (Ended cause) w h f = f (or_none (kept row (marks_of xs)) h)

row_task : (task : Task) (row : ℕ) → task_row task ≡ Some row → (is_by_list task ≡ false) × (is_by_end task ≡ false)
row_task (tasks.Register uuid) row e = (refl, refl)
row_task tasks.Setup row e = absurd cc
row_task tasks.Prepare row e = (refl, refl)
row_task tasks.Configure row e = (refl, refl)
row_task tasks.Initialize row e = (refl, refl)
row_task (tasks.FirstOutputs r) row e = (refl, refl)
row_task tasks.Run row e = (refl, refl)
row_task (tasks.Step k) row e = (refl, refl)
row_task (tasks.Outputs k r) row e = (refl, refl)
row_task tasks.Stop row e = (refl, refl)
row_task tasks.Reset row e = (refl, refl)
row_task tasks.Adjust row e = absurd cc
row_task tasks.Deregister row e = absurd cc

pub passed_outputs : (job : Job) (marks : List Mark) (row : ℕ) → task_row job.task ≡ Some row → is_passed job marks ≡ true → is_some (kept row marks) ≡ true
passed_outputs job marks row e h = let t = row_task job.task row e in ap (λ (o : Option ℕ). has_row_outputs o marks) (sym e) ∙ by (is_by_list job.task) (is_by_end job.task) t.0 t.1 h
  where
    by : (a b : Bool) → a ≡ false → b ≡ false → (if a then nat_le (length job.list) (settings_answered marks) else if b then list_any acks_change (this_phase marks) else (is_reached job.task marks && has_row_outputs (task_row job.task) marks)) ≡ true → has_row_outputs (task_row job.task) marks ≡ true
    by true b f g h = absurd cc
    by false true f g h = absurd cc
    by false false f g h = (and_parts (is_reached job.task marks) (has_row_outputs (task_row job.task) marks) h).1
