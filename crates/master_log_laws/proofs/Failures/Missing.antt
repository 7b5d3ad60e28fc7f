-- What the log shows of a slave whose outputs did not come.
use Rattle.std.proofs.Common.{◌≡◌, ℕ, ◌+◌, ◌%◌, ◌<◌, ◌≤◌, Bool, true, false, if◌then◌else◌, ◌⊎◌, inl, inr, Option, Some, None, List, [], ◌∷◌, ◌++◌, length, refl, sym, ap, ◌∙◌, subst, arith, append_assoc}
use Rattle.std.specs.Prelude.{cond, ◌==◌, ◌&&◌, ◌||◌, is_some, nat_le, count_by, find}
use Rattle.std.specs.List.{list_any}
use Rattle.std.proofs.lemmas.Bool.{leb-true, le-leb, eqb-true, eq-eqb}
use Rattle.std.proofs.lemmas.List.Sums.{sum_by-cons}
use Rattle.dcp_types.specs.declared.limits.Limits.{Limits}
use Rattle.dcp_types.specs.declared.states.State.{State}
use Rattle.dcp_types.specs.declared.states.State.TheVariants as states
use Rattle.pdu_layout.specs.declared.messages.Cfg.{Cfg}
use Rattle.pdu_layout.specs.declared.messages.Stc.TheVariants as stc
use Rattle.dcp_ends.specs.declared.entries.LogEntry.{LogEntry}
use Rattle.master_spec.specs.declared.requests.Request.{Request}
use Rattle.master_spec.specs.declared.requests.Request.TheVariants.{Change, Configure, AskState, AskError}
use Rattle.master_spec.specs.declared.requests.Answer.{Answer}
use Rattle.master_spec.specs.declared.requests.Answer.TheVariants.{Ack, Nack, StateAck, ErrorAck, LogAck}
use Rattle.master_spec.specs.declared.requests.Latest.{Latest}
use Rattle.master_spec.specs.declared.requests.Latest.TheVariants as latests
use Rattle.master_spec.specs.declared.reactions.Reaction.TheVariants.{Repeat}
use Rattle.master_spec.specs.declared.reactions.Awaited.TheVariants.{TheState, TheOutputs, TheOthers}
use Rattle.master_spec.specs.declared.tasks.Task.{Task}
use Rattle.master_spec.specs.declared.tasks.Task.TheVariants as tasks
use Rattle.master_spec.specs.declared.setups.Slave.{Slave}
use Rattle.master_spec.specs.declared.setups.Setup.{Setup}
use Rattle.master_spec.specs.Tasks.{is_by_list, is_by_end, target_of, task_row, task_step}
use Rattle.master_spec.specs.Jobs.{Job, asked_by}
use Rattle.master_spec.specs.Marks.{open_request, Mark, Begun, Asked, Again, Answered, Hinted, Brought, Turned, Ended, acks_change, mark_brings, or_else, oldest, is_answer, turns_since, this_phase, latest, settings_answered, kept, is_reached, has_row_outputs, is_passed}
use Rattle.master_spec.specs.Conversation.{is_state, awaited_after_state, awaited_after, awaited_by}
use Rattle.master_spec.specs.Requests.{Asking, Decision, decided_by, turns_before, turns_between, is_main, is_configuration, is_outputs, is_state_question, is_ack, is_acked_by, is_acked, acked}
use Rattle.master_spec.specs.Exchanged.{Brings}
use Rattle.master_spec.specs.Shown.{names_target, MissesOutputs}
use Rattle.master_log_laws.specs.Asking.Legal.{Does, IsLegal, AreLegal}
use Rattle.master_log_laws.specs.Index.Index.{Placed, at, marks_of, code_of, again_at, decided_at}
use Rattle.master_log_laws.specs.Index.Late.{IsLate}
use Rattle.master_log_laws.specs.Index.Dates.{clock, next_after, next_place, IsLaterMark, IsDated, AreDated, IsBroughtBy, IsBroughtAt}
use Rattle.master_log_laws.proofs.Index.Events.{repeats_open}
use Rattle.master_log_laws.proofs.Phases.Now.{now_by, now, past_by, past, Linked, linked, open_latest}
use Rattle.master_log_laws.proofs.Phases.Mains.{one_if, of_main, AreMains, AreQuestions, Asks, by_list, by_one, job_asks, mains_by_list, length_map}
use Rattle.master_log_laws.proofs.Phases.Counts.{conf_code, counts, is_as, names_it, configured_now, reached_now}
use Rattle.master_log_laws.proofs.Phases.Stage.{Question}
use Rattle.master_log_laws.proofs.Failures.Turns.{turns_rise, newest_if, newest, turns_to}
use Rattle.master_log_laws.proofs.Failures.Silences.{answers_in_phases}
use Rattle.master_log_laws.proofs.Failures.Lasts.{only_request}

clash : true ≡ false → ⊥
clash z = cc

abbrev place_some : Option Decision → ℕ
place_some None = 0
place_some (Some d) = d.place

abbrev IsOther : Mark → Type 0
IsOther (Brought n p) = ⊥
IsOther m = Unit {0}

not_brought : (m : Mark) (number : ℕ) (p : List ℕ) → IsOther m → m ≡ Brought number p → ⊥
not_brought m number p o e = let P : Mark → Type 0 = λ x. IsOther x in subst P e o

-- ---- where the newest request was answered
pub answer_place : (limits : Limits) (js : List Job) (xs : List Placed) (b : Asking) (rest : List Asking) (d : Decision) → AreLegal limits js (marks_of xs) → now xs ≡ b ∷ rest → b.decision ≡ Some d → newest is_answer xs ≡ Some d.place
answer_place limits js [] b rest d l e h = absurd cc
answer_place limits js (x ∷ xs) b rest d l e h = by x.mark l.0 (linked limits js xs l.1) e (λ z. answer_place limits js xs b rest d l.1 z h)
  where
    none : (q : Asking) → q.decision ≡ None → q.decision ≡ Some d → ⊥
    none q f g = let z : None ≡ Some d = sym f ∙ g in cc

    repeated : (ms : List Mark) → Does limits ms Repeat → (r : Request) × (open_request ms ≡ Some r)
    repeated [] k = absurd k
    repeated (m ∷ ms) k = repeats_open limits m ms k

    again : (os : List Asking) (r : Request) → Linked (latests.Asked r) os → again_at x.place os ≡ b ∷ rest → ⊥
    again [] r k z = k
    again (c ∷ cs) r k z = let q : c.decision ≡ b.decision = cc in none b (sym q ∙ k.1) h

    answered : (os : List Asking) (r : Request) (a : Answer) → Linked (latests.Asked r) os → decided_at x.place a os ≡ b ∷ rest → Some x.place ≡ Some d.place
    answered [] r a k z = absurd k
    answered (c ∷ cs) r a k z =
        let q : decided_by c.decision (record { place = x.place; answer = a }) ≡ b.decision = cc in
        let v : Some (record { place = x.place; answer = a }) ≡ Some d = sym (ap (λ (o : Option Decision). decided_by o (record { place = x.place; answer = a })) k.1) ∙ q ∙ h in
        ap (λ (i : ℕ). Some i) (ap place_some v)

    by : (m : Mark) → IsLegal limits js m (marks_of xs) → Linked (latest (marks_of xs)) (now xs) → now_by x.place m (marks_of xs) (now xs) ≡ b ∷ rest → (now xs ≡ b ∷ rest → newest is_answer xs ≡ Some d.place) → newest_if (is_answer m) x.place (newest is_answer xs) ≡ Some d.place
    by (Begun j) k w z f = absurd cc
    by (Asked r) k w z f = let q : None ≡ b.decision = cc in absurd (none b (sym q) h)
    by Again k w z f =
        let o = repeated (marks_of xs) k in
        let P : Latest → Type 0 = λ y. Linked y (now xs) in
        absurd (again (now xs) o.0 (subst P (open_latest (latest (marks_of xs)) o.0 o.1) w) z)
    by (Answered r a) k w z f = let P : Latest → Type 0 = λ y. Linked y (now xs) in answered (now xs) r a (subst P (open_latest (latest (marks_of xs)) r k.1) w) z
    by Hinted k w z f = f z
    by (Brought n p) k w z f = f z
    by (Turned t) k w z f = f z
    by (Ended cause) k w z f = f z

-- ---- what was brought, and when
pub brought_below : (setup : Setup) (slave : Slave) (log : List LogEntry) (number i : ℕ) (xs : List Placed) → AreDated setup slave log xs → IsBroughtAt number i xs → i < next_place xs
brought_below setup slave log number i [] d b = absurd b
brought_below setup slave log number i (x ∷ xs) d (inl b) = here x.mark (b.1).1
  where
    here : (m : Mark) → m ≡ Brought number (b.1).0 → i < next_after x.place m (next_place xs)
    here (Brought n p) e = let f = b.0 in omega (arith, f)
    here (Begun j) e = absurd cc
    here (Asked r) e = absurd cc
    here Again e = absurd cc
    here (Answered r a) e = absurd cc
    here Hinted e = absurd cc
    here (Turned t) e = absurd cc
    here (Ended cause) e = absurd cc
brought_below setup slave log number i (x ∷ xs) d (inr b) = let h = brought_below setup slave log number i xs d.1 b in next_more x.mark (d.0).later h
  where
    next_more : (m : Mark) → IsLaterMark x.place m (next_place xs) → i < next_place xs → i < next_after x.place m (next_place xs)
    next_more (Begun j) l h = omega (arith, l, h)
    next_more (Asked r) l h = omega (arith, l, h)
    next_more Again l h = omega (arith, l, h)
    next_more (Answered r a) l h = omega (arith, l, h)
    next_more Hinted l h = omega (arith, l, h)
    next_more (Brought n p) l h = omega (arith, l, h)
    next_more (Turned t) l h = omega (arith, l, h)
    next_more (Ended cause) l h = h

pub next_rises : (setup : Setup) (slave : Slave) (log : List LogEntry) (x : Placed) (xs : List Placed) → IsDated setup slave log x.place x.mark xs → next_place xs ≤ next_place (x ∷ xs)
next_rises setup slave log x xs d = by x.mark d.later
  where
    by : (m : Mark) → IsLaterMark x.place m (next_place xs) → next_place xs ≤ next_after x.place m (next_place xs)
    by (Begun j) l = l
    by (Asked r) l = omega (arith, l)
    by Again l = omega (arith, l)
    by (Answered r a) l = omega (arith, l)
    by Hinted l = omega (arith, l)
    by (Brought n p) l = omega (arith, l)
    by (Turned t) l = l
    by (Ended cause) l = omega arith

pub past_below : (setup : Setup) (slave : Slave) (log : List LogEntry) (xs : List Placed) → AreDated setup slave log xs → next_place (past xs) ≤ next_place xs
past_below setup slave log [] d = omega arith
past_below setup slave log (x ∷ xs) d = by x.mark (next_rises setup slave log x xs d.0) (past_below setup slave log xs d.1)
  where
    more : next_place xs ≤ next_place (x ∷ xs) → next_place (past xs) ≤ next_place xs → next_place (past xs) ≤ next_place (x ∷ xs)
    more a b = omega (arith, a, b)

    by : (m : Mark) → next_place xs ≤ next_place (x ∷ xs) → next_place (past xs) ≤ next_place xs → next_place (past_by m xs (past xs)) ≤ next_place (x ∷ xs)
    by (Begun j) a b = a
    by (Asked r) a b = more a b
    by Again a b = more a b
    by (Answered r v) a b = more a b
    by Hinted a b = more a b
    by (Brought n p) a b = more a b
    by (Turned t) a b = more a b
    by (Ended cause) a b = more a b

pub past_dated : (setup : Setup) (slave : Slave) (log : List LogEntry) (xs : List Placed) → AreDated setup slave log xs → AreDated setup slave log (past xs)
past_dated setup slave log [] d = tt
past_dated setup slave log (x ∷ xs) d = by x.mark (past_dated setup slave log xs d.1)
  where
    by : (m : Mark) → AreDated setup slave log (past xs) → AreDated setup slave log (past_by m xs (past xs))
    by (Begun j) h = d.1
    by (Asked r) h = h
    by Again h = h
    by (Answered r a) h = h
    by Hinted h = h
    by (Brought n p) h = h
    by (Turned t) h = h
    by (Ended cause) h = h

-- the requests of the phase were first sent after all that was before it
abbrev pub AllFrom : ℕ → List Asking → Type 0
AllFrom n [] = Unit {0}
AllFrom n (b ∷ bs) = (n ≤ b.first) × AllFrom n bs

from_again : (n i : ℕ) (bs : List Asking) → AllFrom n bs → AllFrom n (again_at i bs)
from_again n i [] a = tt
from_again n i (b ∷ bs) a = a

from_decided : (n i : ℕ) (x : Answer) (bs : List Asking) → AllFrom n bs → AllFrom n (decided_at i x bs)
from_decided n i x [] a = tt
from_decided n i x (b ∷ bs) a = a

pub all_from : (setup : Setup) (slave : Slave) (log : List LogEntry) (xs : List Placed) → AreDated setup slave log xs → AllFrom (next_place (past xs)) (now xs)
all_from setup slave log [] d = tt
all_from setup slave log (x ∷ xs) d = by x.mark d.0 (all_from setup slave log xs d.1)
  where
    by : (m : Mark) → IsDated setup slave log x.place m xs → AllFrom (next_place (past xs)) (now xs) → AllFrom (next_place (past_by m xs (past xs))) (now_by x.place m (marks_of xs) (now xs))
    by (Begun j) w a = tt
    by (Asked r) w a = let p = past_below setup slave log xs d.1 in let l = w.later in (omega (arith, p, l), a)
    by Again w a = from_again (next_place (past xs)) x.place (now xs) a
    by (Answered r v) w a = from_decided (next_place (past xs)) x.place v (now xs) a
    by Hinted w a = a
    by (Brought n p) w a = a
    by (Turned t) w a = a
    by (Ended cause) w a = a

pub from_right : (n : ℕ) (bs cs : List Asking) → AllFrom n (bs ++ cs) → AllFrom n cs
from_right n [] cs a = a
from_right n (b ∷ bs) cs a = from_right n bs cs a.1

-- outputs that were not kept in this phase came before it
or_none : (o p : Option (List ℕ)) → is_some (or_else o p) ≡ false → (is_some o ≡ false) × (is_some p ≡ false)
or_none None None e = (refl, refl)
or_none None (Some x) e = absurd cc
or_none (Some x) p e = absurd cc

pub brought_past : (row i : ℕ) (xs : List Placed) → is_some (kept row (marks_of xs)) ≡ false → IsBroughtAt (row % 65536) i xs → IsBroughtAt (row % 65536) i (past xs)
brought_past row i [] k b = absurd b
brought_past row i (x ∷ xs) k b = by x.mark k b (λ z y. brought_past row i xs z y)
  where
    n : ℕ
    n = row % 65536

    off : (m : Mark) → ((number : ℕ) (p : List ℕ) → m ≡ Brought number p → ⊥) → IsBroughtBy n i x.place m ⊎ IsBroughtAt n i xs → IsBroughtAt n i xs
    off m f (inl b) = absurd (f n (b.1).0 (b.1).1)
    off m f (inr b) = b

    tail : (m : Mark) → is_some (or_else (oldest (mark_brings n) (this_phase (marks_of xs))) (mark_brings n m)) ≡ false → is_some (kept row (marks_of xs)) ≡ false
    tail m k = (or_none (kept row (marks_of xs)) (mark_brings n m) k).0

    by : (m : Mark) → is_some (kept row (m ∷ marks_of xs)) ≡ false → IsBroughtBy n i x.place m ⊎ IsBroughtAt n i xs → (is_some (kept row (marks_of xs)) ≡ false → IsBroughtAt n i xs → IsBroughtAt n i (past xs)) → IsBroughtAt n i (past_by m xs (past xs))
    by (Begun j) k b f = off (Begun j) (λ number p e. not_brought (Begun j) number p tt e) b
    by (Asked r) k b f = f (tail (Asked r) k) (off (Asked r) (λ number p e. not_brought (Asked r) number p tt e) b)
    by Again k b f = f (tail Again k) (off Again (λ number p e. not_brought Again number p tt e) b)
    by (Answered r a) k b f = f (tail (Answered r a) k) (off (Answered r a) (λ number p e. not_brought (Answered r a) number p tt e) b)
    by Hinted k b f = f (tail Hinted k) (off Hinted (λ number p e. not_brought Hinted number p tt e) b)
    by (Turned t) k b f = f (tail (Turned t) k) (off (Turned t) (λ number p e. not_brought (Turned t) number p tt e) b)
    by (Ended cause) k b f = f (tail (Ended cause) k) (off (Ended cause) (λ number p e. not_brought (Ended cause) number p tt e) b)
    by (Brought number p) k (inl b) f =
        let e : number ≡ n = let z = (b.1).1 in cc in
        let g : mark_brings n (Brought number p) ≡ Some p = ap (λ (t : Bool). if t then Some p else None) (eq-eqb number n e) in
        absurd (clash (sym (ap (λ (o : Option (List ℕ)). is_some o) g) ∙ (or_none (kept row (marks_of xs)) (mark_brings n (Brought number p)) k).1))
    by (Brought number p) k (inr b) f = f (tail (Brought number p) k) b

-- ---- a conversation that waits for outputs
pub record AwaitsOutputs (job : Job) (l : Latest) (marks : List Mark) : Type 0 where
  pub state : ℕ
  pub latest_is : l ≡ latests.Answered AskState (StateAck state)
  pub target : is_state (target_of job.task) state ≡ true
  pub unpassed : is_passed job marks ≡ false

outputs_state : (t : Option State) (s : ℕ) (passed : Bool) → awaited_after_state t s passed ≡ TheOutputs → (is_state t s ≡ true) × (passed ≡ false)
outputs_state t s passed h = by passed (is_state t s) h
  where
    by : (a b : Bool) → (if a then TheOthers else if b then TheOutputs else TheState) ≡ TheOutputs → (b ≡ true) × (a ≡ false)
    by true b z = absurd cc
    by false true z = (refl, refl)
    by false false z = absurd cc

outputs_after : (job : Job) (r : Request) (a : Answer) (marks : List Mark) → awaited_after (target_of job.task) r a (is_passed job marks) ≡ TheOutputs → AwaitsOutputs job (latests.Answered r a) marks
outputs_after job AskState (StateAck s) marks h = let z = outputs_state (target_of job.task) s (is_passed job marks) h in record { state = s; latest_is = refl; target = z.0; unpassed = z.1 }
outputs_after job (Change s body) (Nack code) marks h = absurd cc
outputs_after job (Change s body) Ack marks h = absurd (by (is_passed job marks) h)
  where
    by : (b : Bool) → (if b then TheOthers else TheState) ≡ TheOutputs → ⊥
    by true z = cc
    by false z = cc
outputs_after job (Change s body) (StateAck c) marks h = absurd cc
outputs_after job (Change s body) (ErrorAck c) marks h = absurd cc
outputs_after job (Change s body) LogAck marks h = absurd cc
outputs_after job AskState Ack marks h = absurd cc
outputs_after job AskState (Nack code) marks h = absurd cc
outputs_after job AskState (ErrorAck code) marks h = absurd cc
outputs_after job AskState LogAck marks h = absurd cc
outputs_after job (Configure body) a marks h = absurd cc
outputs_after job AskError a marks h = absurd cc

pub outputs_latest : (job : Job) (l : Latest) (marks : List Mark) → awaited_by job l marks ≡ TheOutputs → AwaitsOutputs job l marks
outputs_latest job latests.Nothing marks h = absurd cc
outputs_latest job (latests.Asked r) marks h = absurd cc
outputs_latest job (latests.Answered r a) marks h = outputs_after job r a marks h

-- ---- the job of one that waits for outputs has a row
-- of a list that is acknowledged whole nothing is waited for
no_conf : (b : Asking) → is_main b ≡ false → conf_code b.code ≡ false
no_conf b e = by (conf_code b.code) refl
  where
    or_right : (x y : Bool) → y ≡ true → (x || y) ≡ true
    or_right true y h = refl
    or_right false y h = h

    by : (t : Bool) → conf_code b.code ≡ t → t ≡ false
    by true f = absurd (clash (sym (or_right (nat_le 1 b.code && nat_le b.code 10) (conf_code b.code) f) ∙ e))
    by false f = refl

count_conf : (b : Asking) (bs : List Asking) → is_main b ≡ false → count_by (counts conf_code is_ack) (b ∷ bs) ≡ count_by (counts conf_code is_ack) bs
count_conf b bs e =
    let f = sum_by-cons (λ (a : Asking). if counts conf_code is_ack a then 1 else 0) b bs in
    let g : one_if (counts conf_code is_ack b) ≡ 0 = ap (λ (t : Bool). one_if (t && is_as is_ack b.decision)) (no_conf b e) in
    omega (arith, f, g)

questions_conf : (qs ms : List Asking) → AreQuestions qs → count_by (counts conf_code is_ack) (qs ++ ms) ≡ count_by (counts conf_code is_ack) ms
questions_conf [] ms q = refl
questions_conf (b ∷ qs) ms q = count_conf b (qs ++ ms) q.0 ∙ questions_conf qs ms q.1

same_conf : (bs : List Asking) → count_by (counts conf_code is_ack) bs ≡ count_by (λ a. is_configuration a && is_acked a) bs
same_conf [] = refl
same_conf (b ∷ bs) =
    sum_by-cons (λ (a : Asking). if counts conf_code is_ack a then 1 else 0) b bs
    ∙ ap (λ (t : Bool). (if t then 1 else 0) + count_by (counts conf_code is_ack) bs) (ap (λ (t : Bool). conf_code b.code && t) (two b.decision))
    ∙ ap (λ (n : ℕ). (if is_configuration b && is_acked b then 1 else 0) + n) (same_conf bs)
    ∙ sym (sum_by-cons (λ (a : Asking). if is_configuration a && is_acked a then 1 else 0) b bs)
  where
    two : (o : Option Decision) → is_as is_ack o ≡ is_acked_by o
    two None = refl
    two (Some d) = refl

pub question_configured : (limits : Limits) (js : List Job) (job : Job) (xs : List Placed) (r : Request) (d : Option Answer) → AreLegal limits js (marks_of xs) → is_by_list job.task ≡ true → Question job r d (now xs) → is_passed job (marks_of xs) ≡ true
question_configured limits js job xs r d l b k =
    let e = configured_now limits js xs l ∙ ap (count_by (counts conf_code is_ack)) k.is ∙ questions_conf (k.newest ∷ k.qs) k.ms (of_main r k.newest k.of ∙ k.asks, k.questions) ∙ same_conf k.ms ∙ sym (mains_by_list job k.ms b k.mains) in
    let w = k.whole in
    let n : length (asked_by job) ≡ length job.list = listed (job_asks job) in
    ap (λ (t : Bool). if t then nat_le (length job.list) (settings_answered (marks_of xs)) else if is_by_end job.task then list_any acks_change (this_phase (marks_of xs)) else (is_reached job.task (marks_of xs) && has_row_outputs (task_row job.task) (marks_of xs))) b
    ∙ le-leb (length job.list) (settings_answered (marks_of xs)) (omega (arith, e, w, n))
  where
    listed : Asks job → length (asked_by job) ≡ length job.list
    listed (by_list f a) = ap length a ∙ length_map job.list
    listed (by_one s body f a) = absurd (clash (sym b ∙ f))

pub target_reached : (limits : Limits) (js : List Job) (job : Job) (xs : List Placed) (s : ℕ) → AreLegal limits js (marks_of xs) → Question job AskState (Some (StateAck s)) (now xs) → is_state (target_of job.task) s ≡ true → is_reached job.task (marks_of xs) ≡ true
target_reached limits js job xs s l k t =
    reached_now job.task limits js xs l ∙ ap (list_any (names_it job.task)) k.is
    ∙ ap (λ (b : Bool). b || list_any (names_it job.task) (k.qs ++ k.ms)) (ap (λ (o : Option Decision). is_state_question k.newest && names_target job.task o) (k.decided).1 ∙ ap (λ (b : Bool). b && is_state (target_of job.task) s) (ap (λ (n : ℕ). n == 128) (k.of).0) ∙ t)

end_target : (task : Task) (s : ℕ) → is_state (target_of task) s ≡ true → is_by_end task ≡ false
end_target (tasks.Register uuid) s e = refl
end_target tasks.Setup s e = refl
end_target tasks.Prepare s e = refl
end_target tasks.Configure s e = refl
end_target tasks.Initialize s e = refl
end_target (tasks.FirstOutputs row) s e = refl
end_target tasks.Run s e = refl
end_target (tasks.Step k) s e = refl
end_target (tasks.Outputs k row) s e = refl
end_target tasks.Stop s e = refl
end_target tasks.Reset s e = refl
end_target tasks.Adjust s e = refl
end_target tasks.Deregister s e = absurd cc

-- it has a row, and its outputs are not there
pub record LacksOutputs (job : Job) (marks : List Mark) : Type 0 where
  pub row : ℕ
  pub row_is : task_row job.task ≡ Some row
  pub not_kept : is_some (kept row marks) ≡ false

pub lacks_outputs : (limits : Limits) (js : List Job) (job : Job) (xs : List Placed) (s : ℕ) → AreLegal limits js (marks_of xs) → Question job AskState (Some (StateAck s)) (now xs) → is_state (target_of job.task) s ≡ true → is_passed job (marks_of xs) ≡ false → LacksOutputs job (marks_of xs)
lacks_outputs limits js job xs s l k t u = by (is_by_list job.task) (is_by_end job.task) (is_reached job.task (marks_of xs)) refl (end_target job.task s t) (target_reached limits js job xs s l k t) u
  where
    row_lacks : (o : Option ℕ) → task_row job.task ≡ o → has_row_outputs o (marks_of xs) ≡ false → LacksOutputs job (marks_of xs)
    row_lacks None e h = absurd cc
    row_lacks (Some row) e h = record { row = row; row_is = e; not_kept = h }

    by : (a b c : Bool) → is_by_list job.task ≡ a → b ≡ false → c ≡ true → (if a then nat_le (length job.list) (settings_answered (marks_of xs)) else if b then list_any acks_change (this_phase (marks_of xs)) else (c && has_row_outputs (task_row job.task) (marks_of xs))) ≡ false → LacksOutputs job (marks_of xs)
    by true b c e f g h = absurd (clash (sym (question_configured limits js job xs AskState (Some (StateAck s)) l e k) ∙ u))
    by false true c e f g h = absurd cc
    by false false false e f g h = absurd cc
    by false false true e f g h = row_lacks (task_row job.task) refl h

-- ---- the request for the outputs
pub outputs_request : (task : Task) (list : List Cfg) (row : ℕ) → task_row task ≡ Some row → (s : State) × (asked_by (record { task = task; list = list }) ≡ Change s stc.SendOutputs ∷ [])
outputs_request (tasks.Register uuid) list row e = absurd cc
outputs_request tasks.Setup list row e = absurd cc
outputs_request tasks.Prepare list row e = absurd cc
outputs_request tasks.Configure list row e = absurd cc
outputs_request tasks.Initialize list row e = absurd cc
outputs_request (tasks.FirstOutputs r) list row e = (states.Initialized, refl)
outputs_request tasks.Run list row e = absurd cc
outputs_request (tasks.Step k) list row e = absurd cc
outputs_request (tasks.Outputs k r) list row e = (states.Computed, refl)
outputs_request tasks.Stop list row e = absurd cc
outputs_request tasks.Reset list row e = absurd cc
outputs_request tasks.Adjust list row e = absurd cc
outputs_request tasks.Deregister list row e = absurd cc

no_outputs : (b : Asking) → is_main b ≡ false → is_outputs b ≡ false
no_outputs b e = by (is_outputs b) refl
  where
    by : (t : Bool) → is_outputs b ≡ t → t ≡ false
    by true f = absurd (clash (sym (ap (λ (m : ℕ). (nat_le 1 m && nat_le m 10) || (nat_le 32 m && nat_le m 43)) (eqb-true b.code 8 f)) ∙ e))
    by false f = refl

pub find_past : (qs xs : List Asking) → AreQuestions qs → find is_outputs (qs ++ xs) ≡ find is_outputs xs
find_past [] xs q = refl
find_past (b ∷ qs) xs q = ap (λ (t : Bool). cond t (Some b) (find is_outputs (qs ++ xs))) (no_outputs b q.0) ∙ find_past qs xs q.1

-- the newest main request of a job with outputs asks for them
pub record FoundOutputs (ms old : List Asking) : Type 0 where
  pub request : Asking
  pub more : List Asking
  pub is : ms ≡ request ∷ more
  pub found : find is_outputs (ms ++ old) ≡ Some request

pub found_outputs : (job : Job) (row : ℕ) (ms old : List Asking) → task_row job.task ≡ Some row → AreMains job ms → acked ms ≡ length (asked_by job) → FoundOutputs ms old
found_outputs job row [] old e m w =
    let o = outputs_request job.task job.list row e in
    let z : length (asked_by job) ≡ 1 = ap length o.1 in
    let y : acked [] ≡ 0 = refl in
    absurd (omega (arith, w, z, y))
found_outputs job row (b ∷ ms) old e m w =
    let o = outputs_request job.task job.list row e in
    let same = only_request job (Change o.0 stc.SendOutputs) (m.0).request (acked ms) o.1 (m.0).slot in
    let k : is_outputs b ≡ true = ap (λ (n : ℕ). n == 8) (((m.0).of).0 ∙ ap code_of (sym same)) in
    record { request = b; more = ms; is = refl; found = ap (λ (t : Bool). cond t (Some b) (find is_outputs (ms ++ old))) k }

-- ---- the log shows that they did not come
pub misses_outputs : (setup : Setup) (slave : Slave) (log : List LogEntry) (js : List Job) (job : Job) (n : ℕ) (t : Bool) (ws : List Placed) (c : Asking) (old : List Asking) (k : ℕ)
    → AreLegal setup.limits js (Turned t ∷ marks_of ws) → AreDated setup slave log (at n (Turned t) ∷ ws) → (w : AwaitsOutputs job (latest (marks_of ws)) (Turned t ∷ marks_of ws)) → (q : Question job AskState (Some (StateAck w.state)) (now ws))
    → IsLate n c q.newest → task_step job.task ≡ k → nat_le setup.limits.data_turns (turns_since is_answer (Turned t ∷ marks_of ws)) ≡ true
    → ((number i : ℕ) → Brings setup log slave number i → IsBroughtAt number i ws ⊎ (n ≤ i))
    → MissesOutputs setup log slave job.task c ((q.qs ++ q.ms) ++ old) k
misses_outputs setup slave log js job n t ws c old k l d w q late step long came =
    record {
      row = lack.row;
      row_is = lack.row_is;
      step = step;
      asks_state = ap (λ (i : ℕ). i == 128) (late.code ∙ (q.of).0);
      place = (q.decided).0;
      state = w.state;
      told = late.kept (record { place = (q.decided).0; answer = StateAck w.state }) (q.decided).1;
      target = w.target;
      turns = after_it (length log) (d.0).below;
      request = f.request;
      request_is = ap (find is_outputs) (append_assoc q.qs q.ms old) ∙ find_past q.qs (q.ms ++ old) q.questions ∙ f.found;
      missing = λ i h b. missing i h (came (lack.row % 65536) i b);
    }
  where
    lack : LacksOutputs job (Turned t ∷ marks_of ws)
    lack = lacks_outputs setup.limits js job (at n (Turned t) ∷ ws) w.state l q w.target w.unpassed

    f : FoundOutputs q.ms old
    f = found_outputs job lack.row q.ms old lack.row_is q.mains q.whole

    decided_at_place : newest is_answer (at n (Turned t) ∷ ws) ≡ Some (q.decided).0
    decided_at_place = answer_place setup.limits js (at n (Turned t) ∷ ws) q.newest (q.qs ++ q.ms) (record { place = (q.decided).0; answer = StateAck w.state }) l q.is (q.decided).1

    after_it : (i : ℕ) → n ≤ i → setup.limits.data_turns ≤ turns_between setup.address log (q.decided).0 i
    after_it i h =
        let a = turns_rise setup.address log n i h in
        let b : turns_before setup.address log n ≡ clock (Turned t ∷ marks_of ws) = (d.0).turns in
        let e = turns_to setup slave log setup.limits js is_answer (at n (Turned t) ∷ ws) (q.decided).0 (answers_in_phases setup.limits js) l d decided_at_place in
        let g = leb-true setup.limits.data_turns (turns_since is_answer (Turned t ∷ marks_of ws)) long in
        omega (arith, a, b, e, g)

    from : next_place (past ws) ≤ (f.request).first
    from =
        let a = all_from setup slave log ws d.1 in
        let P : List Asking → Type 0 = λ z. AllFrom (next_place (past ws)) z in
        let b = from_right (next_place (past ws)) (q.newest ∷ q.qs) q.ms (subst P q.is a) in
        (subst P f.is b).0

    past_dates : AreDated setup slave log (past ws)
    past_dates = past_dated setup slave log ws d.1

    missing : (i : ℕ) → (f.request).first < i → IsBroughtAt (lack.row % 65536) i ws ⊎ (n ≤ i) → setup.limits.data_turns ≤ turns_between setup.address log (q.decided).0 i
    missing i h (inr g) = after_it i g
    missing i h (inl g) =
        let a = brought_past lack.row i ws (or_none (kept lack.row (marks_of ws)) (mark_brings (lack.row % 65536) (Turned t)) lack.not_kept).0 g in
        let b = brought_below setup slave log (lack.row % 65536) i (past ws) past_dates a in
        let e = from in
        absurd (omega (arith, b, e, h))
