-- The last request to a slave, and those before it in its phase.
use Rattle.std.proofs.Common.{◌≡◌, ℕ, zero, suc, ◌+◌, ◌%◌, Bool, true, false, if◌then◌else◌, inl, inr, Option, Some, List, [], ◌∷◌, ◌++◌, length, refl, sym, ap, ◌∙◌, subst, arith}
use Rattle.std.specs.Prelude.{cond, ◌==◌, ◌&&◌, ◌||◌, nat_le, nat_lt, count_by, slice_get, find, filter}
use Rattle.std.proofs.lemmas.Bool.{eqb-true}
use Rattle.std.proofs.lemmas.List.Sums.{sum_by-cons}
use Rattle.pdu_layout.specs.declared.messages.Cfg.{Cfg}
use Rattle.master_spec.specs.declared.requests.Request.{Request}
use Rattle.master_spec.specs.declared.requests.Request.TheVariants.{Change}
use Rattle.master_spec.specs.declared.requests.Answer.{Answer}
use Rattle.master_spec.specs.declared.tasks.Task.{Task}
use Rattle.master_spec.specs.declared.tasks.Task.TheVariants as tasks
use Rattle.master_spec.specs.Tasks.{asks_step, is_by_list}
use Rattle.master_spec.specs.Jobs.{Job, asked_by}
use Rattle.master_spec.specs.Marks.{Mark, Begun, Asked, Again, Answered, Hinted, Brought, Turned, Ended, asked, refuses_inputs, newest_number}
use Rattle.master_spec.specs.Requests.{Asking, Decision, is_main, is_step, is_state_request, is_configuration, is_acked, acked, phase_at, phase_reached, of_phase}
use Rattle.master_spec.specs.Shown.{IsMissing}
use Rattle.master_log_laws.specs.Index.Index.{Placed, marks_of, askings_told_by, askings_told, again_at, decided_at}
use Rattle.master_log_laws.specs.Index.Late.{IsLate, AreLate}
use Rattle.master_log_laws.proofs.Index.Index.{number_next}
use Rattle.master_log_laws.proofs.Phases.Mains.{of_main, of_step, acked_more, one_if, acked_yes, IsTried, AreMains, AreQuestions, Asks, by_list, by_one, job_asks}
use Rattle.master_log_laws.proofs.Phases.Counts.{counts, is_as}
use Rattle.master_log_laws.proofs.Phases.Tags.{Exactly, AtMost, of_phase_now, of_phase_before, one_off, list_off}

pub record Lasts (js : List Job) (p n : ℕ) (cs : List Asking) (b : Asking) (rest : List Asking) : Type 0 where
  pub newest : Asking
  pub old : List Asking
  pub late : IsLate n newest b
  pub of : of_phase js (p + 1) cs ≡ newest ∷ (rest ++ old)
  pub questions : AreQuestions old

pub lasts : (js : List Job) (p n : ℕ) (cs bs before : List Asking) (b : Asking) (rest : List Asking) → bs ≡ b ∷ rest → Exactly js (p + 1) bs before → AtMost js p before → AreLate n cs (bs ++ before) → Lasts js p n cs b rest
lasts js p n cs bs before b rest e x a l = by cs (subst P e l)
  where
    P : List Asking → Type 0
    P z = AreLate n cs (z ++ before)

    Q : List Asking → Type 0
    Q z = Exactly js (p + 1) z before

    whole : of_phase js (p + 1) (b ∷ (rest ++ before)) ≡ b ∷ (rest ++ of_phase js (p + 1) before)
    whole = of_phase_now js (p + 1) (b ∷ rest) before (subst Q e x)

    same_rest : (y : Asking) (ys zs : List Asking) → y ∷ ys ≡ y ∷ zs → ys ≡ zs
    same_rest y ys zs h = cc

    by : (cs : List Asking) → AreLate n cs (b ∷ (rest ++ before)) → Lasts js p n cs b rest
    by [] k = absurd k
    by (c ∷ more) k = record { newest = c; old = of_phase js (p + 1) before; late = k.0; of = ap (λ (z : List Asking). of_phase js (p + 1) (c ∷ z)) k.1 ∙ two (is_main b && nat_lt (phase_at js (acked (rest ++ before))) (p + 1)) refl whole; questions = of_phase_before js p before a }
      where
        main_same : is_main c ≡ is_main b
        main_same = ap (λ (m : ℕ). (nat_le 1 m && nat_le m 10) || (nat_le 32 m && nat_le m 43)) (k.0).code

        two : (t : Bool) → (is_main b && nat_lt (phase_at js (acked (rest ++ before))) (p + 1)) ≡ t → (if t then [] else b ∷ of_phase js (p + 1) (rest ++ before)) ≡ b ∷ (rest ++ of_phase js (p + 1) before)
            → of_phase js (p + 1) (c ∷ (rest ++ before)) ≡ c ∷ (rest ++ of_phase js (p + 1) before)
        two true f h = absurd cc
        two false f h =
            ap (λ (t : Bool). if t && nat_lt (phase_at js (acked (rest ++ before))) (p + 1) then [] else c ∷ of_phase js (p + 1) (rest ++ before)) main_same
            ∙ ap (λ (t : Bool). if t then [] else c ∷ of_phase js (p + 1) (rest ++ before)) f
            ∙ ap (λ (z : List Asking). c ∷ z) (same_rest b (of_phase js (p + 1) (rest ++ before)) (rest ++ of_phase js (p + 1) before) h)

-- the phase that is reached is that of those told
pub reached_late : (js : List Job) (n : ℕ) (cs bs : List Asking) → AreLate n cs bs → phase_reached js cs ≡ phase_reached js bs
reached_late js n [] [] l = refl
reached_late js n [] (b ∷ bs) l = absurd l
reached_late js n (c ∷ cs) [] l = absurd l
reached_late js n (c ∷ cs) (b ∷ bs) l =
    ap (λ (m : ℕ). if (nat_le 1 m && nat_le m 10) || (nat_le 32 m && nat_le m 43) then phase_at js (acked cs) else phase_reached js cs) (l.0).code
    ∙ ap (λ (z : List Asking). if is_main b then phase_at js (acked z) else phase_reached js z) l.1

-- the newest request has the newest number
pub number_at : (xs : List Placed) (b : Asking) (bs : List Asking) → askings_told xs ≡ b ∷ bs → b.number ≡ newest_number (marks_of xs)
number_at [] b bs e = absurd cc
number_at (x ∷ xs) b bs e = by x.mark e (λ c cs z. number_at xs c cs z)
  where
    again : (bs' : List Asking) → again_at x.place bs' ≡ b ∷ bs → ((c : Asking) (cs : List Asking) → bs' ≡ c ∷ cs → c.number ≡ newest_number (marks_of xs)) → b.number ≡ newest_number (marks_of xs)
    again [] z f = absurd cc
    again (c ∷ cs) z f = let y : c.number ≡ b.number = cc in sym y ∙ f c cs refl

    decided : (a : Answer) (bs' : List Asking) → decided_at x.place a bs' ≡ b ∷ bs → ((c : Asking) (cs : List Asking) → bs' ≡ c ∷ cs → c.number ≡ newest_number (marks_of xs)) → b.number ≡ newest_number (marks_of xs)
    decided a [] z f = absurd cc
    decided a (c ∷ cs) z f = let y : c.number ≡ b.number = cc in sym y ∙ f c cs refl

    by : (m : Mark) → askings_told_by x.place m (marks_of xs) (askings_told xs) ≡ b ∷ bs → ((c : Asking) (cs : List Asking) → askings_told xs ≡ c ∷ cs → c.number ≡ newest_number (marks_of xs)) → b.number ≡ newest_number (m ∷ marks_of xs)
    by (Asked r) z f = let y : asked (marks_of xs) % 65536 ≡ b.number = cc in sym y ∙ number_next (asked (marks_of xs))
    by Again z f = again (askings_told xs) z f
    by (Answered r a) z f = decided a (askings_told xs) z f
    by (Begun j) z f = f b bs z
    by Hinted z f = f b bs z
    by (Brought n p) z f = f b bs z
    by (Turned t) z f = f b bs z
    by (Ended c) z f = f b bs z

-- ---- of one request
pub one_request : (job : Job) (n : ℕ) (r : Request) → is_by_list job.task ≡ false → slice_get (asked_by job) n ≡ Some r → asked_by job ≡ r ∷ []
one_request job n r l e = by (job_asks job)
  where
    clash : false ≡ true → ⊥
    clash z = cc

    slot : (q : Request) (n : ℕ) → slice_get (q ∷ []) n ≡ Some r → q ≡ r
    slot q zero z = cc
    slot q (suc n) z = absurd cc

    by : Asks job → asked_by job ≡ r ∷ []
    by (by_list m a) = absurd (clash (sym l ∙ m))
    by (by_one s b m a) = a ∙ ap (λ (q : Request). q ∷ []) (slot (Change s b) n (ap (λ (rs : List Request). slice_get rs n) (sym a) ∙ e))

pub only_request : (job : Job) (r q : Request) (n : ℕ) → asked_by job ≡ r ∷ [] → slice_get (asked_by job) n ≡ Some q → r ≡ q
only_request job r q n a e = by n (ap (λ (rs : List Request). slice_get rs n) (sym a) ∙ e)
  where
    by : (n : ℕ) → slice_get (r ∷ []) n ≡ Some q → r ≡ q
    by zero z = cc
    by (suc n) z = absurd cc

-- ---- steps that were refused because inputs were missing
abbrev pub AreMissing : List Asking → Type 0
AreMissing [] = Unit {0}
AreMissing (b ∷ bs) = ((is_step b ≡ true) × IsMissing b) × AreMissing bs

pub all_missing : (job : Job) (r : Request) (ms : List Asking) → asked_by job ≡ r ∷ [] → asks_step r ≡ true → AreMains job ms → acked ms ≡ 0 → AreMissing ms
all_missing job r [] a s m z = tt
all_missing job r (b ∷ ms) a s m z = by (m.1).0 (λ w. all_missing job r ms a s (m.1).1 w)
  where
    step_is : is_step b ≡ true
    step_is = of_step (m.0).request b (m.0).of ∙ ap asks_step (sym (only_request job r (m.0).request (acked ms) a (m.0).slot)) ∙ s

    by : IsTried b → (acked ms ≡ 0 → AreMissing ms) → AreMissing (b ∷ ms)
    by (inl k) f =
        let e = acked_yes b ms (of_main (m.0).request b (m.0).of ∙ (m.0).main) k in
        absurd (omega (arith, e, z))
    by (inr k) f = ((step_is, k.0), f (less z))
      where
        less : acked (b ∷ ms) ≡ 0 → acked ms ≡ 0
        less z = let e = acked_more b ms in omega (arith, e, z)

-- a question is no step
no_step : (b : Asking) → is_main b ≡ false → is_step b ≡ false
no_step b e = by (is_step b) refl
  where
    clash : true ≡ false → ⊥
    clash z = cc

    by : (t : Bool) → is_step b ≡ t → t ≡ false
    by true f = absurd (clash (sym (ap (λ (m : ℕ). (nat_le 1 m && nat_le m 10) || (nat_le 32 m && nat_le m 43)) (eqb-true b.code 7 f)) ∙ e))
    by false f = refl

filter_questions : (old : List Asking) → AreQuestions old → filter is_step old ≡ []
filter_questions [] q = refl
filter_questions (b ∷ old) q = ap (λ (t : Bool). cond t (b ∷ filter is_step old) (filter is_step old)) (no_step b q.0) ∙ filter_questions old q.1

pub filter_steps : (ms old : List Asking) → AreMissing ms → AreQuestions old → filter is_step (ms ++ old) ≡ ms
filter_steps [] old m q = filter_questions old q
filter_steps (b ∷ ms) old m q = ap (λ (t : Bool). cond t (b ∷ filter is_step (ms ++ old)) (filter is_step (ms ++ old))) (m.0).0 ∙ ap (λ (z : List Asking). b ∷ z) (filter_steps ms old m.1 q)

pub missing_at : (ms : List Asking) (i : ℕ) (a : Asking) → AreMissing ms → slice_get ms i ≡ Some a → IsMissing a
missing_at [] i a m e = absurd cc
missing_at (b ∷ ms) zero a m e = let z : b ≡ a = cc in subst IsMissing z (m.0).1
missing_at (b ∷ ms) (suc i) a m e = missing_at ms i a m.1 e

pub count_missing : (ms : List Asking) → AreMissing ms → count_by (counts (λ n. n == 7) refuses_inputs) ms ≡ length ms
count_missing [] m = refl
count_missing (b ∷ ms) m =
    let k = (m.0).1 in
    let e = sum_by-cons (λ (a : Asking). if counts (λ n. n == 7) refuses_inputs a then 1 else 0) b ms in
    let f : counts (λ n. n == 7) refuses_inputs b ≡ true = ap (λ (t : Bool). t && is_as refuses_inputs b.decision) (m.0).0 ∙ ap (λ (o : Option Decision). is_as refuses_inputs o) k.2 ∙ k.3 in
    let g : one_if (counts (λ n. n == 7) refuses_inputs b) ≡ 1 = ap one_if f in
    let h = count_missing ms m.1 in
    omega (arith, e, g, h)

-- a job that asks for a step
pub record IsStepJob (task : Task) : Type 0 where
  pub k : ℕ
  pub is : task ≡ tasks.Step k

pub step_job : (task : Task) (list : List Cfg) (n : ℕ) (r : Request) → asks_step r ≡ true → slice_get (asked_by (record { task = task; list = list })) n ≡ Some r → IsStepJob task
step_job (tasks.Register uuid) list n r h e = absurd (one_off _ r n e h refl)
step_job tasks.Setup list n r h e = absurd (list_off list n r e h)
step_job tasks.Prepare list n r h e = absurd (one_off _ r n e h refl)
step_job tasks.Configure list n r h e = absurd (one_off _ r n e h refl)
step_job tasks.Initialize list n r h e = absurd (one_off _ r n e h refl)
step_job (tasks.FirstOutputs row) list n r h e = absurd (one_off _ r n e h refl)
step_job tasks.Run list n r h e = absurd (one_off _ r n e h refl)
step_job (tasks.Step k) list n r h e = record { k = k; is = refl }
step_job (tasks.Outputs k row) list n r h e = absurd (one_off _ r n e h refl)
step_job tasks.Stop list n r h e = absurd (one_off _ r n e h refl)
step_job tasks.Reset list n r h e = absurd (one_off _ r n e h refl)
step_job tasks.Adjust list n r h e = absurd (list_off list n r e h)
step_job tasks.Deregister list n r h e = absurd (one_off _ r n e h refl)

-- ---- the acknowledged request of the phase
abbrev pub is_acked_change : Asking → Bool
is_acked_change a = is_state_request a && is_acked a

question_change : (b : Asking) → is_main b ≡ false → is_acked_change b ≡ false
question_change b e = by (is_state_request b) refl
  where
    clash : true ≡ false → ⊥
    clash z = cc

    by : (t : Bool) → is_state_request b ≡ t → (t && is_acked b) ≡ false
    by true f = absurd (clash (sym (ap (λ (x : Bool). x || is_configuration b) f) ∙ e))
    by false f = refl

pub find_questions : (qs xs : List Asking) → AreQuestions qs → find is_acked_change (qs ++ xs) ≡ find is_acked_change xs
find_questions [] xs q = refl
find_questions (b ∷ qs) xs q = ap (λ (t : Bool). cond t (Some b) (find is_acked_change (qs ++ xs))) (question_change b q.0) ∙ find_questions qs xs q.1
