-- Where a conversation stands in its phase, by the requests of the phase.
use Rattle.std.proofs.Common.{◌≡◌, ℕ, ◌+◌, Bool, true, false, if◌then◌else◌, ◌⊎◌, inl, inr, Option, Some, None, List, [], ◌∷◌, ◌++◌, length, refl, sym, ap, ◌∙◌, subst}
use Rattle.std.specs.Prelude.{◌&&◌, count_by, slice_get}
use Rattle.std.proofs.lemmas.Bool.{and_parts}
use Rattle.std.proofs.lemmas.List.Sums.{sum_by-cons}
use Rattle.dcp_types.specs.declared.limits.Limits.{Limits}
use Rattle.dcp_types.specs.declared.states.State.{State}
use Rattle.master_spec.specs.declared.requests.Request.{Request}
use Rattle.master_spec.specs.declared.requests.Request.TheVariants.{Change, Configure, AskState, AskError}
use Rattle.master_spec.specs.declared.requests.Answer.{Answer}
use Rattle.master_spec.specs.declared.requests.Answer.TheVariants.{Ack, Nack, StateAck}
use Rattle.master_spec.specs.declared.requests.Latest.TheVariants as latests
use Rattle.master_spec.specs.Tasks.{is_by_list, asks_step, target_of, passing_of}
use Rattle.master_spec.specs.Jobs.{Job, asked_by}
use Rattle.master_spec.specs.Marks.{Mark, Begun, Asked, Again, Answered, Hinted, Brought, Turned, Ended, is_missing, latest, job_of, cause_of, settings_answered, is_named_by, is_reached}
use Rattle.master_spec.specs.Conversation.{is_state, is_error}
use Rattle.master_spec.specs.Requests.{Asking, Decision, decided_by, is_main, is_step, is_state_question, is_configuration, is_ack, is_acked_by, is_acked, acked}
use Rattle.master_spec.specs.Exchanged.{IsDecided}
use Rattle.master_log_laws.specs.Asking.Legal.{AreLegal}
use Rattle.master_log_laws.specs.Index.Index.{Placed, marks_of, first_at, decided_at}
use Rattle.master_log_laws.proofs.Phases.Now.{now_by, now, IsOf, IsDecidedBy}
use Rattle.master_log_laws.proofs.Phases.Mains.{is_main_request, of_main, of_step, acked_yes, unacked, is_acked_of, AreMains, AreQuestions, asked_main, mains_by_list}
use Rattle.master_log_laws.proofs.Phases.Counts.{conf_code, is_as, counts, configured_now}

-- a main request is the newest
pub record Main (job : Job) (r : Request) (d : Option Answer) (bs : List Asking) : Type 0 where
  pub newest : Asking
  pub ms : List Asking
  pub is : bs ≡ newest ∷ ms
  pub of : IsOf r newest
  pub decided : IsDecidedBy d newest
  pub slot : slice_get (asked_by job) (acked ms) ≡ Some r
  pub mains : AreMains job ms

-- an error question stands right after the answer that named an error state
pub record IsAfterError (qs : List Asking) : Type 0 where
  pub question : Asking
  pub rest : List Asking
  pub is : qs ≡ question ∷ rest
  pub asked_state : is_state_question question ≡ true
  pub state : ℕ
  pub place : ℕ
  pub named : IsDecided question place (StateAck state)
  pub error : is_error state ≡ true

abbrev pub IsAfter : Request → List Asking → Type 0
IsAfter AskError qs = IsAfterError qs
IsAfter AskState qs = Unit {0}
IsAfter (Change state body) qs = Unit {0}
IsAfter (Configure body) qs = Unit {0}

-- a question is the newest, and all main requests are acknowledged
pub record Question (job : Job) (r : Request) (d : Option Answer) (bs : List Asking) : Type 0 where
  pub newest : Asking
  pub qs : List Asking
  pub ms : List Asking
  pub is : bs ≡ newest ∷ (qs ++ ms)
  pub of : IsOf r newest
  pub decided : IsDecidedBy d newest
  pub asks : is_main_request r ≡ false
  pub questions : AreQuestions qs
  pub mains : AreMains job ms
  pub whole : acked ms ≡ length (asked_by job)
  pub after : IsAfter r qs

-- the state told is the target, or the passing state while the target has not been named
abbrev pub IsHome : Job → List Mark → ℕ → Type 0
IsHome job marks s = (is_state (target_of job.task) s ≡ true) ⊎ ((is_state (passing_of job.task) s ≡ true) × (is_reached job.task marks ≡ false))

pub data Stage (job : Job) (marks : List Mark) (bs : List Asking) : Type 0 where
  idling : latest marks ≡ latests.Nothing → bs ≡ [] → asked_by job ≡ [] → Stage job marks bs
  main_open : (r : Request) → latest marks ≡ latests.Asked r → Main job r None bs → Stage job marks bs
  question_open : (r : Request) → latest marks ≡ latests.Asked r → Question job r None bs → Stage job marks bs
  trying : (r : Request) (code : ℕ) → latest marks ≡ latests.Answered r (Nack code) → (is_missing code && asks_step r) ≡ true → Main job r (Some (Nack code)) bs → Stage job marks bs
  mains_done : (r : Request) → latest marks ≡ latests.Answered r Ack → Main job r (Some Ack) bs → acked bs ≡ length (asked_by job) → Stage job marks bs
  state_told : (s : ℕ) → latest marks ≡ latests.Answered AskState (StateAck s) → Question job AskState (Some (StateAck s)) bs → IsHome job marks s → Stage job marks bs

-- ---- marks that leave it as it is
abbrev pub IsQuiet : Mark → Type 0
IsQuiet Hinted = Unit {0}
IsQuiet (Brought number payload) = Unit {0}
IsQuiet (Turned settled) = Unit {0}
IsQuiet (Begun job) = ⊥
IsQuiet (Asked request) = ⊥
IsQuiet Again = ⊥
IsQuiet (Answered request answer) = ⊥
IsQuiet (Ended cause) = ⊥

pub quiet_latest : (m : Mark) (marks : List Mark) → IsQuiet m → latest (m ∷ marks) ≡ latest marks
quiet_latest Hinted marks q = refl
quiet_latest (Brought number payload) marks q = refl
quiet_latest (Turned settled) marks q = refl
quiet_latest (Begun job) marks q = absurd q
quiet_latest (Asked request) marks q = absurd q
quiet_latest Again marks q = absurd q
quiet_latest (Answered request answer) marks q = absurd q
quiet_latest (Ended cause) marks q = absurd q

pub named_quiet : (t : Option State) (m : Mark) (marks : List Mark) → IsQuiet m → is_named_by t (m ∷ marks) ≡ is_named_by t marks
named_quiet None m marks q = refl
named_quiet (Some state) Hinted marks q = refl
named_quiet (Some state) (Brought number payload) marks q = refl
named_quiet (Some state) (Turned settled) marks q = refl
named_quiet (Some state) (Begun job) marks q = absurd q
named_quiet (Some state) (Asked request) marks q = absurd q
named_quiet (Some state) Again marks q = absurd q
named_quiet (Some state) (Answered request answer) marks q = absurd q
named_quiet (Some state) (Ended cause) marks q = absurd q

pub quiet_now : (n : ℕ) (m : Mark) (marks : List Mark) (bs : List Asking) → IsQuiet m → now_by n m marks bs ≡ bs
quiet_now n Hinted marks bs q = refl
quiet_now n (Brought number payload) marks bs q = refl
quiet_now n (Turned settled) marks bs q = refl
quiet_now n (Begun job) marks bs q = absurd q
quiet_now n (Asked request) marks bs q = absurd q
quiet_now n Again marks bs q = absurd q
quiet_now n (Answered request answer) marks bs q = absurd q
quiet_now n (Ended cause) marks bs q = absurd q

pub quiet_job : (m : Mark) (marks : List Mark) → IsQuiet m → job_of (m ∷ marks) ≡ job_of marks
quiet_job Hinted marks q = refl
quiet_job (Brought number payload) marks q = refl
quiet_job (Turned settled) marks q = refl
quiet_job (Begun job) marks q = absurd q
quiet_job (Asked request) marks q = absurd q
quiet_job Again marks q = absurd q
quiet_job (Answered request answer) marks q = absurd q
quiet_job (Ended cause) marks q = absurd q

pub quiet_cause : (m : Mark) (marks : List Mark) → IsQuiet m → cause_of (m ∷ marks) ≡ cause_of marks
quiet_cause Hinted marks q = refl
quiet_cause (Brought number payload) marks q = refl
quiet_cause (Turned settled) marks q = refl
quiet_cause (Begun job) marks q = absurd q
quiet_cause (Asked request) marks q = absurd q
quiet_cause Again marks q = absurd q
quiet_cause (Answered request answer) marks q = absurd q
quiet_cause (Ended cause) marks q = absurd q

pub quiet_stage : (job : Job) (m : Mark) (marks : List Mark) (bs : List Asking) → IsQuiet m → Stage job marks bs → Stage job (m ∷ marks) bs
quiet_stage job m marks bs q (idling l e a) = idling (quiet_latest m marks q ∙ l) e a
quiet_stage job m marks bs q (main_open r l k) = main_open r (quiet_latest m marks q ∙ l) k
quiet_stage job m marks bs q (question_open r l k) = question_open r (quiet_latest m marks q ∙ l) k
quiet_stage job m marks bs q (trying r code l h k) = trying r code (quiet_latest m marks q ∙ l) h k
quiet_stage job m marks bs q (mains_done r l k w) = mains_done r (quiet_latest m marks q ∙ l) k w
quiet_stage job m marks bs q (state_told s l k h) = state_told s (quiet_latest m marks q ∙ l) k (home h)
  where
    home : IsHome job marks s → IsHome job (m ∷ marks) s
    home (inl h) = inl h
    home (inr h) = inr (h.0, named_quiet (target_of job.task) m marks q ∙ h.1)

-- ---- an answer
abbrev pub main_decided : (job : Job) (n : ℕ) (r : Request) (a : Answer) (bs : List Asking) → Main job r None bs → Main job r (Some a) (decided_at n a bs)
main_decided job n r a bs k =
    let new : Asking = record { code = k.newest.code; number = k.newest.number; more = k.newest.more; first = k.newest.first; repeats = k.newest.repeats; decision = Some (record { place = n; answer = a }) } in
    record {
      newest = new;
      ms = k.ms;
      is = ap (decided_at n a) k.is ∙ ap (λ (o : Option Decision). record { code = k.newest.code; number = k.newest.number; more = k.newest.more; first = k.newest.first; repeats = k.newest.repeats; decision = decided_by o (record { place = n; answer = a }) } ∷ k.ms) k.decided;
      of = k.of;
      decided = (n, refl);
      slot = k.slot;
      mains = k.mains;
    }

abbrev pub question_decided : (job : Job) (n : ℕ) (r : Request) (a : Answer) (bs : List Asking) → Question job r None bs → Question job r (Some a) (decided_at n a bs)
question_decided job n r a bs k =
    let new : Asking = record { code = k.newest.code; number = k.newest.number; more = k.newest.more; first = k.newest.first; repeats = k.newest.repeats; decision = Some (record { place = n; answer = a }) } in
    record {
      newest = new;
      qs = k.qs;
      ms = k.ms;
      is = ap (decided_at n a) k.is ∙ ap (λ (o : Option Decision). record { code = k.newest.code; number = k.newest.number; more = k.newest.more; first = k.newest.first; repeats = k.newest.repeats; decision = decided_by o (record { place = n; answer = a }) } ∷ (k.qs ++ k.ms)) k.decided;
      of = k.of;
      decided = (n, refl);
      asks = k.asks;
      questions = k.questions;
      mains = k.mains;
      whole = k.whole;
      after = k.after;
    }

-- the newest main request takes its place among the mains
main_is : (job : Job) (r : Request) (d : Option Answer) (bs : List Asking) (k : Main job r d bs) → is_main k.newest ≡ true
main_is job r d bs k = of_main r k.newest k.of ∙ asked_main job (acked k.ms) r k.slot

pub mains_acked : (job : Job) (r : Request) (bs : List Asking) (k : Main job r (Some Ack) bs) → AreMains job bs × (acked bs ≡ acked k.ms + 1)
mains_acked job r bs k =
    let yes = is_acked_of Ack k.newest k.decided in
    let m : AreMains job (k.newest ∷ k.ms) = (record { request = r; of = k.of; main = asked_main job (acked k.ms) r k.slot; slot = k.slot }, (inl yes, k.mains)) in
    let P : List Asking → Type 0 = λ z. AreMains job z × (acked z ≡ acked k.ms + 1) in
    subst P (sym k.is) (m, acked_yes k.newest k.ms (main_is job r (Some Ack) bs k) yes)

pub mains_missing : (job : Job) (r : Request) (code : ℕ) (bs : List Asking) (k : Main job r (Some (Nack code)) bs) → (is_missing code && asks_step r) ≡ true → AreMains job bs × (acked bs ≡ acked k.ms)
mains_missing job r code bs k h =
    let p = and_parts (is_missing code) (asks_step r) h in
    let step : is_step k.newest ≡ true = of_step r k.newest k.of ∙ p.1 in
    let m : AreMains job (k.newest ∷ k.ms) = (record { request = r; of = k.of; main = asked_main job (acked k.ms) r k.slot; slot = k.slot }, (inr (((k.decided).0, code, (k.decided).1, p.0), step), k.mains)) in
    let P : List Asking → Type 0 = λ z. AreMains job z × (acked z ≡ acked k.ms) in
    subst P (sym k.is) (m, unacked (Some (Nack code)) k.newest k.ms k.decided other)
  where
    other : Some (Nack code) ≡ Some Ack → ⊥
    other z = cc

-- how many configurations are acknowledged
pub by_list_count : (limits : Limits) (js : List Job) (job : Job) (xs : List Placed) → AreLegal limits js (marks_of xs) → is_by_list job.task ≡ true → AreMains job (now xs) → settings_answered (marks_of xs) ≡ acked (now xs)
by_list_count limits js job xs l b m = configured_now limits js xs l ∙ same (now xs) ∙ sym (mains_by_list job (now xs) b m)
  where
    one : (a : Asking) → (conf_code a.code && is_as is_ack a.decision) ≡ (is_configuration a && is_acked a)
    one a = ap (λ (t : Bool). conf_code a.code && t) (two a.decision)
      where
        two : (o : Option Decision) → is_as is_ack o ≡ is_acked_by o
        two None = refl
        two (Some d) = refl

    same : (bs : List Asking) → count_by (counts conf_code is_ack) bs ≡ count_by (λ a. is_configuration a && is_acked a) bs
    same [] = refl
    same (b ∷ bs) =
        sum_by-cons (λ (a : Asking). if counts conf_code is_ack a then 1 else 0) b bs
        ∙ ap (λ (t : Bool). (if t then 1 else 0) + count_by (counts conf_code is_ack) bs) (one b)
        ∙ ap (λ (n : ℕ). (if is_configuration b && is_acked b then 1 else 0) + n) (same bs)
        ∙ sym (sum_by-cons (λ (a : Asking). if is_configuration a && is_acked a then 1 else 0) b bs)

-- ---- a new request
pub new_question : (job : Job) (n q : ℕ) (bs : List Asking) → (qs ms : List Asking) → bs ≡ qs ++ ms → AreQuestions qs → AreMains job ms → acked ms ≡ length (asked_by job) → Question job AskState None (first_at n q AskState ∷ bs)
new_question job n q bs qs ms e a m w =
    record { newest = first_at n q AskState; qs = qs; ms = ms; is = ap (λ (z : List Asking). first_at n q AskState ∷ z) e; of = (refl, refl); decided = refl; asks = refl; questions = a; mains = m; whole = w; after = tt }

pub new_main : (job : Job) (n q : ℕ) (r : Request) (bs : List Asking) → AreMains job bs → slice_get (asked_by job) (acked bs) ≡ Some r → Main job r None (first_at n q r ∷ bs)
new_main job n q r bs m e = record { newest = first_at n q r; ms = bs; is = refl; of = (refl, refl); decided = refl; slot = e; mains = m }

-- the questions of a phase, with the newest
pub more_questions : (job : Job) (r : Request) (d : Option Answer) (bs : List Asking) (k : Question job r d bs) → AreQuestions (k.newest ∷ k.qs)
more_questions job r d bs k = (of_main r k.newest k.of ∙ k.asks, k.questions)
