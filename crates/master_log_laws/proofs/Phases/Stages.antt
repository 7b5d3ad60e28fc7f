-- Each conversation stands at a stage of its phase.
use Rattle.std.proofs.Common.{◌≡◌, ℕ, zero, suc, ◌%◌, ◌≤◌, Bool, true, false, if◌then◌else◌, ◌⊎◌, inl, inr, Option, Some, None, List, [], ◌∷◌, map, length, refl, sym, ap, ◌∙◌, subst, arith}
use Rattle.std.specs.Prelude.{◌==◌, ◌&&◌, ◌||◌, slice_get}
use Rattle.std.proofs.lemmas.Bool.{and_parts}
use Rattle.dcp_types.specs.declared.limits.Limits.{Limits}
use Rattle.dcp_types.specs.declared.states.State.{State}
use Rattle.pdu_layout.specs.declared.messages.Cfg.{Cfg}
use Rattle.pdu_layout.specs.declared.messages.Stc.{Stc}
use Rattle.master_spec.specs.declared.requests.Request.{Request}
use Rattle.master_spec.specs.declared.requests.Request.TheVariants.{Change, Configure, AskState, AskError}
use Rattle.master_spec.specs.declared.requests.Answer.{Answer}
use Rattle.master_spec.specs.declared.requests.Answer.TheVariants.{Ack, Nack, StateAck, ErrorAck, LogAck}
use Rattle.master_spec.specs.declared.requests.Latest.{Latest}
use Rattle.master_spec.specs.declared.requests.Latest.TheVariants as latests
use Rattle.master_spec.specs.declared.reactions.Reaction.TheVariants.{Wait, Ask, Repeat}
use Rattle.master_spec.specs.declared.reactions.Awaited.TheVariants.{TheAnswer, TheState, TheInputs, TheOutputs, TheOthers}
use Rattle.master_spec.specs.Tasks.{asks_step, target_of}
use Rattle.master_spec.specs.Jobs.{Job, asked_by}
use Rattle.master_spec.specs.Marks.{Mark, Begun, Asked, Again, Answered, Hinted, Brought, Turned, Ended, asked, is_missing, latest, open_request, job_of, cause_of, settings_answered, is_named_by, is_passed}
use Rattle.master_spec.specs.Conversation.{is_state, is_error, on_answer, on_mark, awaited, awaited_by, awaited_after, awaited_after_state, reaction}
use Rattle.master_spec.specs.Requests.{Asking, acked}
use Rattle.master_log_laws.specs.Asking.Legal.{Rests, AreLegal}
use Rattle.master_log_laws.proofs.Asking.Legal.{IsOwn, own_rests}
use Rattle.master_log_laws.specs.Index.Index.{Placed, at, marks_of, first_at, again_at, decided_at}
use Rattle.master_log_laws.proofs.Index.Events.{repeats_open}
use Rattle.master_log_laws.proofs.Phases.Now.{now_by, now, IsDecidedBy, open_latest}
use Rattle.master_log_laws.proofs.Phases.Inverse.{reacts, first_asks, first_waits, list_asks, list_waits, ack_asks, nack_asks, nack_waits, state_asks, IsHomeward, state_waits, hint_asks, turn_asks}
use Rattle.master_log_laws.proofs.Phases.Mains.{acked_more, is_main_request, AreMains, asked_main, change_slot, list_slot, slot_below, map_slot, length_map}
use Rattle.master_log_laws.proofs.Phases.Stage.{Main, Question, IsHome, Stage, idling, main_open, question_open, trying, mains_done, state_told, IsQuiet, quiet_stage, main_decided, question_decided, mains_acked, mains_missing, by_list_count, new_question, new_main, more_questions}

get_none : {A : Type 0} → (xs : List A) (i : ℕ) → slice_get xs i ≡ None → length xs ≤ i
get_none [] i e = omega arith
get_none (x ∷ xs) zero e = absurd cc
get_none (x ∷ xs) (suc i) e = let h = get_none xs i e in omega (arith, h)

-- ---- the open request
pub open_stage : (job : Job) (marks : List Mark) (bs : List Asking) (r : Request) → latest marks ≡ latests.Asked r → Stage job marks bs → Main job r None bs ⊎ Question job r None bs
open_stage job marks bs r e (idling l b a) = absurd (clash (sym l ∙ e))
  where
    clash : latests.Nothing ≡ latests.Asked r → ⊥
    clash z = cc
open_stage job marks bs r e (main_open q l k) = let z : latests.Asked q ≡ latests.Asked r = sym l ∙ e in let y : q ≡ r = cc in let P : Request → Type 0 = λ x. Main job x None bs in inl (subst P y k)
open_stage job marks bs r e (question_open q l k) = let z : latests.Asked q ≡ latests.Asked r = sym l ∙ e in let y : q ≡ r = cc in let P : Request → Type 0 = λ x. Question job x None bs in inr (subst P y k)
open_stage job marks bs r e (trying q code l h k) = absurd (clash (sym l ∙ e))
  where
    clash : latests.Answered q (Nack code) ≡ latests.Asked r → ⊥
    clash z = cc
open_stage job marks bs r e (mains_done q l k w) = absurd (clash (sym l ∙ e))
  where
    clash : latests.Answered q Ack ≡ latests.Asked r → ⊥
    clash z = cc
open_stage job marks bs r e (state_told s l k h) = absurd (clash (sym l ∙ e))
  where
    clash : latests.Answered AskState (StateAck s) ≡ latests.Asked r → ⊥
    clash z = cc

module _ (limits : Limits) (js : List Job) (job : Job) (n : ℕ) (xs : List Placed) where
  abbrev Old : List Mark
  Old = marks_of xs

  abbrev New : Request → Answer → List Placed
  New r a = at n (Answered r a) ∷ xs

  -- the list after an acknowledgement
  list_acked : (body : Cfg) → AreLegal limits js (marks_of (New (Configure body) Ack)) → (k : Main job (Configure body) None (now xs))
      → AreMains job (now (New (Configure body) Ack)) × ((settings_answered (marks_of (New (Configure body) Ack)) ≡ acked (now (New (Configure body) Ack))) × ((acked (now (New (Configure body) Ack)) ≤ length (asked_by job)) × (asked_by job ≡ map Configure job.list)))
  list_acked body l k =
      let m = mains_acked job (Configure body) (now (New (Configure body) Ack)) (main_decided job n (Configure body) Ack (now xs) k) in
      let s = list_slot job (acked k.ms) body k.slot in
      let c = by_list_count limits js job (New (Configure body) Ack) l s.1 m.0 in
      let b = slot_below job (acked k.ms) (Configure body) k.slot in
      let e = m.1 in
      (m.0, (c, (omega (arith, b, e), s.0)))

  change_acked : (s : State) (body : Stc) (k : Main job (Change s body) None (now xs)) → AreMains job (now (New (Change s body) Ack)) × (acked (now (New (Change s body) Ack)) ≡ length (asked_by job))
  change_acked s body k =
      let m = mains_acked job (Change s body) (now (New (Change s body) Ack)) (main_decided job n (Change s body) Ack (now xs) k) in
      let c = change_slot job (acked k.ms) s body k.slot in
      let e = m.1 in
      let f = c.0 in
      let g = (c.1).0 in
      (m.0, omega (arith, e, f, g))

  no_main : (r : Request) (d : _) → Main job r d (now xs) → is_main_request r ≡ false → ⊥
  no_main r d k f = clash (sym (asked_main job (acked k.ms) r k.slot) ∙ f)
    where
      clash : true ≡ false → ⊥
      clash z = cc

  refused_twice : (r : Request) (code : ℕ) → asks_step r ≡ false → (is_missing code && asks_step r) ≡ true → ⊥
  refused_twice r code f h = clash (sym (and_parts (is_missing code) (asks_step r) h).1 ∙ f)
    where
      clash : true ≡ false → ⊥
      clash z = cc

  -- ---- an answer that leaves nothing to be done
  main_rests : (r : Request) (a : Answer) → AreLegal limits js (marks_of (New r a)) → Main job r None (now xs) → on_answer limits job r a Old (Answered r a ∷ Old) ≡ Wait → Stage job (marks_of (New r a)) (now (New r a))
  main_rests r (Nack code) l k e = trying r code refl (nack_waits limits job r code (Answered r (Nack code) ∷ Old) e).0 (main_decided job n r (Nack code) (now xs) k)
  main_rests (Configure body) Ack l k e =
      let z = list_acked body l k in
      let long = get_none job.list (settings_answered (marks_of (New (Configure body) Ack))) (list_waits (slice_get job.list (settings_answered (marks_of (New (Configure body) Ack)))) e) in
      let c = (z.1).0 in
      let b = ((z.1).1).0 in
      let g : length (asked_by job) ≡ length job.list = ap length ((z.1).1).1 ∙ length_map job.list in
      mains_done (Configure body) refl (main_decided job n (Configure body) Ack (now xs) k) (omega (arith, long, c, b, g))
  main_rests (Change s body) Ack l k e = mains_done (Change s body) refl (main_decided job n (Change s body) Ack (now xs) k) (change_acked s body k).1
  main_rests (Configure body) (StateAck s) l k e = absurd cc
  main_rests (Configure body) (ErrorAck code) l k e = absurd cc
  main_rests (Configure body) LogAck l k e = absurd cc
  main_rests (Change t body) (StateAck s) l k e = absurd cc
  main_rests (Change t body) (ErrorAck code) l k e = absurd cc
  main_rests (Change t body) LogAck l k e = absurd cc
  main_rests AskState a l k e = absurd (no_main AskState None k refl)
  main_rests AskError a l k e = absurd (no_main AskError None k refl)

  named_new : (t : Option State) (s : ℕ) → is_state t s ≡ false → is_named_by t Old ≡ false → is_named_by t (Answered AskState (StateAck s) ∷ Old) ≡ false
  named_new None s e f = refl
  named_new (Some t) s e f = ap (λ (b : Bool). b || is_named_by (Some t) Old) e ∙ f

  home : (s : ℕ) → IsHomeward job s Old → IsHome job (Answered AskState (StateAck s) ∷ Old) s
  home s (inl h) = inl h
  home s (inr h) = inr (h.0, named_new (target_of job.task) s (h.1).1 (h.1).0)

  question_rests : (r : Request) (a : Answer) → Question job r None (now xs) → on_answer limits job r a Old (Answered r a ∷ Old) ≡ Wait → Stage job (marks_of (New r a)) (now (New r a))
  question_rests AskState (StateAck s) k e = state_told s refl (question_decided job n AskState (StateAck s) (now xs) k) (home s (state_waits limits job s Old (Answered AskState (StateAck s) ∷ Old) e))
  question_rests AskState (Nack code) k e = absurd (refused_twice AskState code refl (nack_waits limits job AskState code (Answered AskState (Nack code) ∷ Old) e).0)
  question_rests AskState Ack k e = absurd cc
  question_rests AskState (ErrorAck code) k e = absurd cc
  question_rests AskState LogAck k e = absurd cc
  question_rests AskError (Nack code) k e = absurd (refused_twice AskError code refl (nack_waits limits job AskError code (Answered AskError (Nack code) ∷ Old) e).0)
  question_rests AskError Ack k e = absurd cc
  question_rests AskError (StateAck s) k e = absurd cc
  question_rests AskError (ErrorAck code) k e = absurd cc
  question_rests AskError LogAck k e = absurd cc
  question_rests (Change s body) a k e = absurd (clash k.asks)
    where
      clash : true ≡ false → ⊥
      clash z = cc
  question_rests (Configure body) a k e = absurd (clash k.asks)
    where
      clash : true ≡ false → ⊥
      clash z = cc

  -- ---- an answer on which something is asked
  abbrev Next : Request → Request → Answer → ℕ → ℕ → Type 0
  Next q r a m number = Stage job (Asked q ∷ marks_of (New r a)) (first_at m number q ∷ now (New r a))

  main_asks : (r : Request) (a : Answer) (q : Request) (m number : ℕ) → AreLegal limits js (marks_of (New r a)) → Main job r None (now xs) → on_answer limits job r a Old (Answered r a ∷ Old) ≡ Ask q → Next q r a m number
  main_asks r (Nack code) q m number l k e = absurd (nack_asks limits job r code (Answered r (Nack code) ∷ Old) q e)
  main_asks (Configure body) Ack q m number l k e =
      let z = list_acked body l k in
      let y = list_asks (slice_get job.list (settings_answered (marks_of (New (Configure body) Ack)))) q e in
      let f : slice_get job.list (acked (now (New (Configure body) Ack))) ≡ Some y.0 = ap (slice_get job.list) (sym (z.1).0) ∙ (y.1).0 in
      let g : slice_get (asked_by job) (acked (now (New (Configure body) Ack))) ≡ Some q =
      ap (λ (rs : List Request). slice_get rs (acked (now (New (Configure body) Ack)))) ((z.1).1).1 ∙ map_slot job.list (acked (now (New (Configure body) Ack))) y.0 f ∙ ap (λ (x : Request). Some x) (sym (y.1).1) in
      main_open q refl (new_main job m number q (now (New (Configure body) Ack)) z.0 g)
  main_asks (Change s body) Ack q m number l k e =
      let z = change_acked s body k in
      let P : Request → Type 0 = λ x. Next x (Change s body) Ack m number in
      subst P (sym (ack_asks job (Answered (Change s body) Ack ∷ Old) q e)) (question_open AskState refl (new_question job m number (now (New (Change s body) Ack)) [] (now (New (Change s body) Ack)) refl tt z.0 z.1))
  main_asks (Configure body) (StateAck s) q m number l k e = absurd cc
  main_asks (Configure body) (ErrorAck code) q m number l k e = absurd cc
  main_asks (Configure body) LogAck q m number l k e = absurd cc
  main_asks (Change t body) (StateAck s) q m number l k e = absurd cc
  main_asks (Change t body) (ErrorAck code) q m number l k e = absurd cc
  main_asks (Change t body) LogAck q m number l k e = absurd cc
  main_asks AskState a q m number l k e = absurd (no_main AskState None k refl)
  main_asks AskError a q m number l k e = absurd (no_main AskError None k refl)

  state_next : (s : ℕ) (q : Request) (m number : ℕ) → Question job AskState None (now xs) → ((q ≡ AskError) × (is_error s ≡ true)) ⊎ (q ≡ AskState) → Next q AskState (StateAck s) m number
  state_next s q m number k (inl h) =
      let d = question_decided job n AskState (StateAck s) (now xs) k in
      let P : Request → Type 0 = λ x. Next x AskState (StateAck s) m number in
      subst P (sym h.0) (question_open AskError refl (record {
        newest = first_at m number AskError;
        qs = d.newest ∷ d.qs;
        ms = d.ms;
        is = ap (λ (z : List Asking). first_at m number AskError ∷ z) d.is;
        of = (refl, refl);
        decided = refl;
        asks = refl;
        questions = more_questions job AskState (Some (StateAck s)) (now (New AskState (StateAck s))) d;
        mains = d.mains;
        whole = d.whole;
        after = record { question = d.newest; rest = d.qs; is = refl; asked_state = ap (λ (c : ℕ). c == 128) (d.of).0; state = s; place = (d.decided).0; named = (d.decided).1; error = h.1 };
      }))
  state_next s q m number k (inr h) =
      let d = question_decided job n AskState (StateAck s) (now xs) k in
      let P : Request → Type 0 = λ x. Next x AskState (StateAck s) m number in
      subst P (sym h) (question_open AskState refl (new_question job m number (now (New AskState (StateAck s))) (d.newest ∷ d.qs) d.ms d.is (more_questions job AskState (Some (StateAck s)) (now (New AskState (StateAck s))) d) d.mains d.whole))

  question_asks : (r : Request) (a : Answer) (q : Request) (m number : ℕ) → Question job r None (now xs) → on_answer limits job r a Old (Answered r a ∷ Old) ≡ Ask q → Next q r a m number
  question_asks AskState (StateAck s) q m number k e = state_next s q m number k (state_asks limits job s Old (Answered AskState (StateAck s) ∷ Old) q e)
  question_asks r (Nack code) q m number k e = absurd (nack_asks limits job r code (Answered r (Nack code) ∷ Old) q e)
  question_asks AskState Ack q m number k e = absurd cc
  question_asks AskState (ErrorAck code) q m number k e = absurd cc
  question_asks AskState LogAck q m number k e = absurd cc
  question_asks AskError Ack q m number k e = absurd cc
  question_asks AskError (StateAck s) q m number k e = absurd cc
  question_asks AskError (ErrorAck code) q m number k e = absurd cc
  question_asks AskError LogAck q m number k e = absurd cc
  question_asks (Change s body) a q m number k e = absurd (clash k.asks)
    where
      clash : true ≡ false → ⊥
      clash z = cc
  question_asks (Configure body) a q m number k e = absurd (clash k.asks)
    where
      clash : true ≡ false → ⊥
      clash z = cc

-- ---- a turn or a notice
pub record AwaitsInputs (l : Latest) (q : Request) : Type 0 where
  pub state : State
  pub body : Stc
  pub code : ℕ
  pub latest_is : l ≡ latests.Answered (Change state body) (Nack code)
  pub request_is : q ≡ Change state body

inputs_state : (t : Option State) (s : ℕ) (passed : Bool) (q : Request) → awaited_after_state t s passed ≡ TheInputs q → ⊥
inputs_state t s passed q h = by passed (is_state t s) h
  where
    by : (a b : Bool) → (if a then TheOthers else if b then TheOutputs else TheState) ≡ TheInputs q → ⊥
    by true b z = cc
    by false true z = cc
    by false false z = cc

inputs_after : (t : Option State) (r : Request) (a : Answer) (passed : Bool) (q : Request) → awaited_after t r a passed ≡ TheInputs q → AwaitsInputs (latests.Answered r a) q
inputs_after t (Change s body) (Nack code) passed q h = let z : Change s body ≡ q = cc in record { state = s; body = body; code = code; latest_is = refl; request_is = sym z }
inputs_after t (Change s body) Ack true q h = absurd cc
inputs_after t (Change s body) Ack false q h = absurd cc
inputs_after t (Change s body) (StateAck c) passed q h = absurd cc
inputs_after t (Change s body) (ErrorAck c) passed q h = absurd cc
inputs_after t (Change s body) LogAck passed q h = absurd cc
inputs_after t AskState (StateAck s) passed q h = absurd (inputs_state t s passed q h)
inputs_after t AskState Ack passed q h = absurd cc
inputs_after t AskState (Nack code) passed q h = absurd cc
inputs_after t AskState (ErrorAck code) passed q h = absurd cc
inputs_after t AskState LogAck passed q h = absurd cc
inputs_after t (Configure body) a passed q h = absurd cc
inputs_after t AskError a passed q h = absurd cc

inputs_latest : (job : Job) (l : Latest) (marks : List Mark) (q : Request) → awaited_by job l marks ≡ TheInputs q → AwaitsInputs l q
inputs_latest job latests.Nothing marks q h = absurd cc
inputs_latest job (latests.Asked r) marks q h = absurd cc
inputs_latest job (latests.Answered r a) marks q h = inputs_after (target_of job.task) r a (is_passed job marks) q h

again_acked : (n : ℕ) (bs : List Asking) → acked (again_at n bs) ≡ acked bs
again_acked n [] = refl
again_acked n (b ∷ bs) = acked_more (record { code = b.code; number = b.number; more = b.more; first = b.first; repeats = n ∷ b.repeats; decision = b.decision }) bs ∙ sym (acked_more b bs)

abbrev pub IsCalm : Job → List Mark → Request → Type 0
IsCalm job marks q = (awaited job marks ≡ TheInputs q) ⊎ ((q ≡ AskState) × ((awaited job marks ≡ TheState) ⊎ (awaited job marks ≡ TheOthers)))

pub quiet_asks : (limits : Limits) (job : Job) (m : Mark) (older : List Mark) (q : Request) → IsQuiet m → on_mark limits job m older (m ∷ older) ≡ Ask q → IsCalm job (m ∷ older) q
quiet_asks limits job Hinted older q k e = let z = hint_asks (awaited job (Hinted ∷ older)) q e in inr (z.0, inl z.1)
quiet_asks limits job (Turned settled) older q k e = turn_asks limits job (awaited job (Turned settled ∷ older)) settled (Turned settled ∷ older) q e
quiet_asks limits job (Brought number payload) older q k e = absurd cc
quiet_asks limits job (Begun j) older q k e = absurd k
quiet_asks limits job (Asked r) older q k e = absurd k
quiet_asks limits job Again older q k e = absurd k
quiet_asks limits job (Answered r a) older q k e = absurd k
quiet_asks limits job (Ended cause) older q k e = absurd k

calm_asks : (job : Job) (marks : List Mark) (bs : List Asking) (q : Request) (m number : ℕ) → Stage job marks bs → IsCalm job marks q → Stage job (Asked q ∷ marks) (first_at m number q ∷ bs)
calm_asks job marks bs q m number s (inr c) = let P : Request → Type 0 = λ x. Stage job (Asked x ∷ marks) (first_at m number x ∷ bs) in subst P (sym c.0) (by s c.1)
  where
    answer : (r : Request) → latest marks ≡ latests.Asked r → awaited job marks ≡ TheAnswer
    answer r l = ap (λ (x : Latest). awaited_by job x marks) l

    clash : (awaited job marks ≡ TheState) ⊎ (awaited job marks ≡ TheOthers) → awaited job marks ≡ TheAnswer → ⊥
    clash (inl z) e = let y : TheState ≡ TheAnswer = sym z ∙ e in cc
    clash (inr z) e = let y : TheOthers ≡ TheAnswer = sym z ∙ e in cc

    inputs : (st : State) (body : Stc) (code : ℕ) → latest marks ≡ latests.Answered (Change st body) (Nack code) → (awaited job marks ≡ TheState) ⊎ (awaited job marks ≡ TheOthers) → ⊥
    inputs st body code l (inl z) = let e : awaited job marks ≡ TheInputs (Change st body) = ap (λ (x : Latest). awaited_by job x marks) l in let y : TheState ≡ TheInputs (Change st body) = sym z ∙ e in cc
    inputs st body code l (inr z) = let e : awaited job marks ≡ TheInputs (Change st body) = ap (λ (x : Latest). awaited_by job x marks) l in let y : TheOthers ≡ TheInputs (Change st body) = sym z ∙ e in cc

    steps : (r : Request) (code : ℕ) → latest marks ≡ latests.Answered r (Nack code) → (is_missing code && asks_step r) ≡ true → (awaited job marks ≡ TheState) ⊎ (awaited job marks ≡ TheOthers) → ⊥
    steps (Change st body) code l h a = inputs st body code l a
    steps (Configure body) code l h a = let z : false ≡ true = (and_parts (is_missing code) false h).1 in cc
    steps AskState code l h a = let z : false ≡ true = (and_parts (is_missing code) false h).1 in cc
    steps AskError code l h a = let z : false ≡ true = (and_parts (is_missing code) false h).1 in cc

    by : Stage job marks bs → (awaited job marks ≡ TheState) ⊎ (awaited job marks ≡ TheOthers) → Stage job (Asked AskState ∷ marks) (first_at m number AskState ∷ bs)
    by (idling l e a) w = question_open AskState refl (new_question job m number bs [] [] e tt tt (sym (ap length a)))
    by (main_open r l k) w = absurd (clash w (answer r l))
    by (question_open r l k) w = absurd (clash w (answer r l))
    by (trying r code l h k) w = absurd (steps r code l h w)
    by (mains_done r l k n) w = question_open AskState refl (new_question job m number bs [] bs refl tt (mains_acked job r bs k).0 n)
    by (state_told s l k h) w = question_open AskState refl (new_question job m number bs (k.newest ∷ k.qs) k.ms k.is (more_questions job AskState (Some (StateAck s)) bs k) k.mains k.whole)
calm_asks job marks bs q m number s (inl c) = by s (inputs_latest job (latest marks) marks q c)
  where
    off : (l : Latest) → latest marks ≡ l → (k : AwaitsInputs (latest marks) q) → latests.Answered (Change k.state k.body) (Nack k.code) ≡ l
    off l e k = sym k.latest_is ∙ e

    by : Stage job marks bs → AwaitsInputs (latest marks) q → Stage job (Asked q ∷ marks) (first_at m number q ∷ bs)
    by (idling l e a) w = let z = off latests.Nothing l w in absurd cc
    by (main_open r l k) w = let z = off (latests.Asked r) l w in absurd cc
    by (question_open r l k) w = let z = off (latests.Asked r) l w in absurd cc
    by (trying r code l h k) w =
        let z = off (latests.Answered r (Nack code)) l w in
        let y : Change w.state w.body ≡ r = cc in
        let same : r ≡ q = sym y ∙ sym w.request_is in
        let mm = mains_missing job r code bs k h in
        let slot : slice_get (asked_by job) (acked bs) ≡ Some q = ap (slice_get (asked_by job)) mm.1 ∙ k.slot ∙ ap (λ (x : Request). Some x) same in
        main_open q refl (new_main job m number q bs mm.0 slot)
    by (mains_done r l k n) w = let z = off (latests.Answered r Ack) l w in absurd cc
    by (state_told s l k h) w = let z = off (latests.Answered AskState (StateAck s)) l w in absurd cc

-- ---- the newest request again
pub again_stage : (job : Job) (marks : List Mark) (bs : List Asking) (n : ℕ) → Stage job marks bs → Stage job (Again ∷ marks) (again_at n bs)
again_stage job marks bs n (idling l e a) = idling l (ap (again_at n) e) a
again_stage job marks bs n (main_open r l k) = main_open r l (main_again r None k)
  where
    main_again : (r : Request) (d : Option Answer) (k : Main job r d bs) → Main job r d (again_at n bs)
    main_again r d k = record {
      newest = record { code = k.newest.code; number = k.newest.number; more = k.newest.more; first = k.newest.first; repeats = n ∷ k.newest.repeats; decision = k.newest.decision };
      ms = k.ms;
      is = ap (again_at n) k.is;
      of = k.of;
      decided = decided_same d k.decided;
      slot = k.slot;
      mains = k.mains;
    }
      where
        decided_same : (d : Option Answer) → IsDecidedBy d k.newest → IsDecidedBy d (record { code = k.newest.code; number = k.newest.number; more = k.newest.more; first = k.newest.first; repeats = n ∷ k.newest.repeats; decision = k.newest.decision })
        decided_same None h = h
        decided_same (Some a) h = h
again_stage job marks bs n (question_open r l k) = question_open r l (record {
  newest = record { code = k.newest.code; number = k.newest.number; more = k.newest.more; first = k.newest.first; repeats = n ∷ k.newest.repeats; decision = k.newest.decision };
  qs = k.qs;
  ms = k.ms;
  is = ap (again_at n) k.is;
  of = k.of;
  decided = k.decided;
  asks = k.asks;
  questions = k.questions;
  mains = k.mains;
  whole = k.whole;
  after = k.after;
})
again_stage job marks bs n (trying r code l h k) = trying r code l h (record {
  newest = record { code = k.newest.code; number = k.newest.number; more = k.newest.more; first = k.newest.first; repeats = n ∷ k.newest.repeats; decision = k.newest.decision };
  ms = k.ms;
  is = ap (again_at n) k.is;
  of = k.of;
  decided = k.decided;
  slot = k.slot;
  mains = k.mains;
})
again_stage job marks bs n (mains_done r l k w) = mains_done r l (record {
  newest = record { code = k.newest.code; number = k.newest.number; more = k.newest.more; first = k.newest.first; repeats = n ∷ k.newest.repeats; decision = k.newest.decision };
  ms = k.ms;
  is = ap (again_at n) k.is;
  of = k.of;
  decided = k.decided;
  slot = k.slot;
  mains = k.mains;
}) (again_acked n bs ∙ w)
again_stage job marks bs n (state_told s l k h) = state_told s l (record {
  newest = record { code = k.newest.code; number = k.newest.number; more = k.newest.more; first = k.newest.first; repeats = n ∷ k.newest.repeats; decision = k.newest.decision };
  qs = k.qs;
  ms = k.ms;
  is = ap (again_at n) k.is;
  of = k.of;
  decided = k.decided;
  asks = k.asks;
  questions = k.questions;
  mains = k.mains;
  whole = k.whole;
  after = k.after;
}) (home h)
  where
    again_named : (t : Option State) → is_named_by t (Again ∷ marks) ≡ is_named_by t marks
    again_named None = refl
    again_named (Some t) = refl

    home : IsHome job marks s → IsHome job (Again ∷ marks) s
    home (inl h) = inl h
    home (inr h) = inr (h.0, again_named (target_of job.task) ∙ h.1)

-- ---- all stages
abbrev Staged : Limits → List Job → List Placed → Type 0
Staged limits js xs = Rests limits (marks_of xs) → cause_of (marks_of xs) ≡ None → (job : Job) → job_of (marks_of xs) ≡ Some job → Stage job (marks_of xs) (now xs)

same_job : (j job : Job) → Some j ≡ Some job → j ≡ job
same_job j job e = cc

-- a mark from outside, or a turn, on which nothing follows
rests_stage : (limits : Limits) (js : List Job) (n : ℕ) (m : Mark) (xs : List Placed) → (IsOwn m → ⊥) → AreLegal limits js (m ∷ marks_of xs) → reaction limits m (marks_of xs) ≡ Wait → cause_of (m ∷ marks_of xs) ≡ None → (job : Job) → job_of (m ∷ marks_of xs) ≡ Some job
    → Staged limits js xs → Stage job (m ∷ marks_of xs) (now_by n m (marks_of xs) (now xs))
rests_stage limits js n (Begun j) xs o l r c job e s =
    let z = sym (reacts limits (Begun j) (marks_of xs) job c e) ∙ r in
    let P : Job → Type 0 = λ x. Stage x (Begun j ∷ marks_of xs) [] in
    subst P (same_job j job e) (idling refl refl (first_waits (asked_by j) z))
rests_stage limits js n (Answered q a) xs o l r c job e s =
    let z = sym (reacts limits (Answered q a) (marks_of xs) job c e) ∙ r in
    by (open_stage job (marks_of xs) (now xs) q (open_latest (latest (marks_of xs)) q (l.0).1) (s (l.0).0 c job e)) z
  where
    by : Main job q None (now xs) ⊎ Question job q None (now xs) → on_answer limits job q a (marks_of xs) (Answered q a ∷ marks_of xs) ≡ Wait → Stage job (Answered q a ∷ marks_of xs) (decided_at n a (now xs))
    by (inl k) z = main_rests limits js job n xs q a l k z
    by (inr k) z = question_rests limits js job n xs q a k z
rests_stage limits js n Hinted xs o l r c job e s = quiet_stage job Hinted (marks_of xs) (now xs) tt (s l.0 c job e)
rests_stage limits js n (Brought number payload) xs o l r c job e s = quiet_stage job (Brought number payload) (marks_of xs) (now xs) tt (s l.0 c job e)
rests_stage limits js n (Turned settled) xs o l r c job e s = quiet_stage job (Turned settled) (marks_of xs) (now xs) tt (s l.0 c job e)
rests_stage limits js n (Asked q) xs o l r c job e s = absurd (o tt)
rests_stage limits js n Again xs o l r c job e s = absurd (o tt)
rests_stage limits js n (Ended cause) xs o l r c job e s = absurd (o tt)

not_asked : (limits : Limits) (m : Mark) (marks : List Mark) (q : Request) → IsOwn m → reaction limits m marks ≡ Ask q → ⊥
not_asked limits m marks q o e = clash (sym (own_rests limits m marks o) ∙ e)
  where
    clash : Wait ≡ Ask q → ⊥
    clash z = cc

-- a mark on which something is asked
asks_stage : (limits : Limits) (js : List Job) (n m number : ℕ) (y : Mark) (ys : List Placed) (q : Request) → AreLegal limits js (y ∷ marks_of ys) → reaction limits y (marks_of ys) ≡ Ask q → cause_of (y ∷ marks_of ys) ≡ None → (job : Job) → job_of (y ∷ marks_of ys) ≡ Some job
    → Staged limits js ys → Stage job (Asked q ∷ y ∷ marks_of ys) (first_at m number q ∷ now_by n y (marks_of ys) (now ys))
asks_stage limits js n m number (Begun j) ys q l r c job e s =
    let z = first_asks (asked_by j) q (sym (reacts limits (Begun j) (marks_of ys) job c e) ∙ r) in
    let P : Job → Type 0 = λ x. Stage x (Asked q ∷ Begun j ∷ marks_of ys) (first_at m number q ∷ []) in
    subst P (same_job j job e) (main_open q refl (new_main j m number q [] tt (ap (λ (rs : List Request). slice_get rs 0) z.1)))
asks_stage limits js n m number (Answered r a) ys q l h c job e s =
    let z = sym (reacts limits (Answered r a) (marks_of ys) job c e) ∙ h in
    by (open_stage job (marks_of ys) (now ys) r (open_latest (latest (marks_of ys)) r (l.0).1) (s (l.0).0 c job e)) z
  where
    by : Main job r None (now ys) ⊎ Question job r None (now ys) → on_answer limits job r a (marks_of ys) (Answered r a ∷ marks_of ys) ≡ Ask q → Stage job (Asked q ∷ Answered r a ∷ marks_of ys) (first_at m number q ∷ decided_at n a (now ys))
    by (inl k) z = main_asks limits js job n ys r a q m number l k z
    by (inr k) z = question_asks limits js job n ys r a q m number k z
asks_stage limits js n m number Hinted ys q l h c job e s =
    calm_asks job (Hinted ∷ marks_of ys) (now ys) q m number (quiet_stage job Hinted (marks_of ys) (now ys) tt (s l.0 c job e)) (quiet_asks limits job Hinted (marks_of ys) q tt (sym (reacts limits Hinted (marks_of ys) job c e) ∙ h))
asks_stage limits js n m number (Brought k p) ys q l h c job e s =
    calm_asks job (Brought k p ∷ marks_of ys) (now ys) q m number (quiet_stage job (Brought k p) (marks_of ys) (now ys) tt (s l.0 c job e)) (quiet_asks limits job (Brought k p) (marks_of ys) q tt (sym (reacts limits (Brought k p) (marks_of ys) job c e) ∙ h))
asks_stage limits js n m number (Turned t) ys q l h c job e s =
    calm_asks job (Turned t ∷ marks_of ys) (now ys) q m number (quiet_stage job (Turned t) (marks_of ys) (now ys) tt (s l.0 c job e)) (quiet_asks limits job (Turned t) (marks_of ys) q tt (sym (reacts limits (Turned t) (marks_of ys) job c e) ∙ h))
asks_stage limits js n m number (Asked r) ys q l h c job e s = absurd (not_asked limits (Asked r) (marks_of ys) q tt h)
asks_stage limits js n m number Again ys q l h c job e s = absurd (not_asked limits Again (marks_of ys) q tt h)
asks_stage limits js n m number (Ended cause) ys q l h c job e s = absurd (not_asked limits (Ended cause) (marks_of ys) q tt h)

-- a mark on which the newest request is repeated
repeats_stage : (limits : Limits) (js : List Job) (n m : ℕ) (y : Mark) (ys : List Placed) → AreLegal limits js (y ∷ marks_of ys) → reaction limits y (marks_of ys) ≡ Repeat → cause_of (y ∷ marks_of ys) ≡ None → (job : Job) → job_of (y ∷ marks_of ys) ≡ Some job
    → Staged limits js ys → Stage job (Again ∷ y ∷ marks_of ys) (again_at m (now_by n y (marks_of ys) (now ys)))
repeats_stage limits js n m y ys l h c job e s = by y l (repeats_open limits y (marks_of ys) h) c e h
  where
    closed : (r : Request) → None ≡ Some r → ⊥
    closed r z = cc

    own : (y : Mark) → IsOwn y → reaction limits y (marks_of ys) ≡ Repeat → ⊥
    own y o z = clash (sym (own_rests limits y (marks_of ys) o) ∙ z)
      where
        clash : Wait ≡ Repeat → ⊥
        clash z = cc

    by : (y : Mark) → AreLegal limits js (y ∷ marks_of ys) → (r : Request) × (open_request (y ∷ marks_of ys) ≡ Some r) → cause_of (y ∷ marks_of ys) ≡ None → job_of (y ∷ marks_of ys) ≡ Some job → reaction limits y (marks_of ys) ≡ Repeat
        → Stage job (Again ∷ y ∷ marks_of ys) (again_at m (now_by n y (marks_of ys) (now ys)))
    by (Begun j) l o c e h = absurd (closed o.0 o.1)
    by (Answered r a) l o c e h = absurd (closed o.0 o.1)
    by Hinted l o c e h = again_stage job (Hinted ∷ marks_of ys) (now ys) m (quiet_stage job Hinted (marks_of ys) (now ys) tt (s l.0 c job e))
    by (Brought k p) l o c e h = again_stage job (Brought k p ∷ marks_of ys) (now ys) m (quiet_stage job (Brought k p) (marks_of ys) (now ys) tt (s l.0 c job e))
    by (Turned t) l o c e h = again_stage job (Turned t ∷ marks_of ys) (now ys) m (quiet_stage job (Turned t) (marks_of ys) (now ys) tt (s l.0 c job e))
    by (Asked r) l o c e h = absurd (own (Asked r) tt h)
    by Again l o c e h = absurd (own Again tt h)
    by (Ended cause) l o c e h = absurd (own (Ended cause) tt h)

-- where nothing follows, the conversation stands at a stage of its job
pub stage : (limits : Limits) (js : List Job) (xs : List Placed) → AreLegal limits js (marks_of xs) → Staged limits js xs
stage limits js [] l r c job e = absurd (clash e)
  where
    clash : None ≡ Some job → ⊥
    clash z = cc
stage limits js (x ∷ []) l r c job e = by x.mark l r c e (λ r c job e. stage limits js [] tt r c job e)
  where
    by : (m : Mark) → AreLegal limits js (m ∷ []) → reaction limits m [] ≡ Wait → cause_of (m ∷ []) ≡ None → job_of (m ∷ []) ≡ Some job → Staged limits js [] → Stage job (m ∷ []) (now_by x.place m [] [])
    by (Begun j) l r c e s = rests_stage limits js x.place (Begun j) [] (λ z. z) l r c job e s
    by (Asked q) l r c e s = absurd l.0
    by Again l r c e s = absurd l.0
    by (Answered q a) l r c e s = rests_stage limits js x.place (Answered q a) [] (λ z. z) l r c job e s
    by Hinted l r c e s = rests_stage limits js x.place Hinted [] (λ z. z) l r c job e s
    by (Brought k p) l r c e s = rests_stage limits js x.place (Brought k p) [] (λ z. z) l r c job e s
    by (Turned t) l r c e s = rests_stage limits js x.place (Turned t) [] (λ z. z) l r c job e s
    by (Ended cause) l r c e s = absurd l.0
stage limits js (x ∷ y ∷ ys) l r c job e = by x.mark l r c e (λ r c job e. stage limits js (y ∷ ys) l.1 r c job e) (λ r c job e. stage limits js ys (l.1).1 r c job e)
  where
    by : (m : Mark) → AreLegal limits js (m ∷ y.mark ∷ marks_of ys) → reaction limits m (y.mark ∷ marks_of ys) ≡ Wait → cause_of (m ∷ y.mark ∷ marks_of ys) ≡ None → job_of (m ∷ y.mark ∷ marks_of ys) ≡ Some job
        → Staged limits js (y ∷ ys) → Staged limits js ys → Stage job (m ∷ y.mark ∷ marks_of ys) (now_by x.place m (y.mark ∷ marks_of ys) (now (y ∷ ys)))
    by (Begun j) l r c e s t = rests_stage limits js x.place (Begun j) (y ∷ ys) (λ z. z) l r c job e s
    by (Asked q) l r c e s t = asks_stage limits js y.place x.place (asked (y.mark ∷ marks_of ys) % 65536) y.mark ys q l.1 l.0 c job e t
    by Again l r c e s t = repeats_stage limits js y.place x.place y.mark ys l.1 l.0 c job e t
    by (Answered q a) l r c e s t = rests_stage limits js x.place (Answered q a) (y ∷ ys) (λ z. z) l r c job e s
    by Hinted l r c e s t = rests_stage limits js x.place Hinted (y ∷ ys) (λ z. z) l r c job e s
    by (Brought k p) l r c e s t = rests_stage limits js x.place (Brought k p) (y ∷ ys) (λ z. z) l r c job e s
    by (Turned h) l r c e s t = rests_stage limits js x.place (Turned h) (y ∷ ys) (λ z. z) l r c job e s
    by (Ended cause) l r c e s t = absurd (clash c)
      where
        clash : Some cause ≡ None → ⊥
        clash z = cc
