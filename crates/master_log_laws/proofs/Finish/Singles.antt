-- What the marks of a phase that has passed tell, as a segment of requests.
use Rattle.std.proofs.Common.{◌≡◌, ℕ, zero, suc, ◌<◌, ◌⊎◌, inl, inr, Bool, true, false, Option, Some, None, List, [], ◌∷◌, ◌++◌, map, reverse, length, refl, sym, ap, ◌∙◌, subst, arith}
use Rattle.std.specs.Prelude.{◌&&◌, ◌||◌, nat_le, slice_get}
use Rattle.std.specs.List.{list_any}
use Rattle.std.proofs.lemmas.List.{append_assoc, reverse-append}
use Rattle.std.proofs.lemmas.Bool.{eqb-true, and_parts}
use Rattle.dcp_types.specs.Codes.{state_code}
use Rattle.dcp_types.specs.declared.states.State.{State}
use Rattle.pdu_layout.specs.declared.messages.Stc.{Stc}
use Rattle.pdu_layout.specs.declared.messages.Cfg.{Cfg}
use Rattle.dcp_ends.specs.declared.entries.LogEntry.{LogEntry}
use Rattle.master_spec.specs.declared.requests.Request.{Request}
use Rattle.master_spec.specs.declared.requests.Request.TheVariants.{Change, Configure}
use Rattle.master_spec.specs.declared.requests.Answer.{Answer}
use Rattle.master_spec.specs.declared.requests.Answer.TheVariants.{Ack, Nack, StateAck, ErrorAck, LogAck}
use Rattle.master_spec.specs.declared.setups.Slave.{Slave}
use Rattle.master_spec.specs.declared.setups.Setup.{Setup}
use Rattle.master_spec.specs.declared.tasks.Task.{Task}
use Rattle.master_spec.specs.Tasks.{is_by_list, is_by_end, target_of}
use Rattle.master_spec.specs.Jobs.{Job, asked_by}
use Rattle.master_spec.specs.Marks.{count, is_begun, is_passed, job_of, cause_of, open_request}
use Rattle.master_spec.specs.Conversation.{is_state}
use Rattle.master_spec.specs.Requests.{Asking, Decision, is_main, is_state_request, is_state_question, is_step, is_acked, is_acked_by, acked}
use Rattle.master_spec.specs.Exchanged.{IsDecided}
use Rattle.master_spec.specs.Shown.{names_in, names_target, IsMissing}
use Rattle.master_log_laws.specs.Asking.Legal.{Rests, AreLegal}
use Rattle.master_log_laws.specs.Index.Index.{Placed, marks_of, code_of, more_of}
use Rattle.master_log_laws.specs.Index.Dates.{phase_before, AreDated}
use Rattle.master_log_laws.proofs.Phases.Now.{now, IsOf}
use Rattle.master_log_laws.proofs.Phases.Mains.{of_main, acked_yes, acked_no, AreMains, AreQuestions, slot_below}
use Rattle.master_log_laws.proofs.Phases.Counts.{names_it, reached_now}
use Rattle.master_log_laws.proofs.Phases.Stages.{stage}
use Rattle.master_log_laws.proofs.Phases.Tags.{mains_name, passed_reached}
use Rattle.master_log_laws.proofs.Failures.Lasts.{only_request}
use Rattle.master_log_laws.proofs.Failures.Places.{acked_decision}
use Rattle.master_log_laws.proofs.Finish.Lists.{Every, every_map, every_append, every_left, every_right, every_reverse, in_reverse, every_in, any_in, any_left}
use Rattle.master_log_laws.proofs.Finish.Codes.{task_code, Form, listed, single, job_form, conf_off, state_test, clash, and_right}
use Rattle.master_log_laws.proofs.Finish.Segments.{Named, Single, HasCode, Segment, Whole, whole, InPhase, in_phase, decided_place, DoneBefore, Sorted, sorted, kept_in, passed_outputs}

-- ---- codes
abbrev IsOther : Asking → Type 0
IsOther a = is_state_request a ≡ false

abbrev CodeIs : ℕ → Asking → Type 0
CodeIs c a = a.code ≡ c

questions_other : (qs : List Asking) → AreQuestions qs → Every IsOther qs
questions_other [] a = tt
questions_other (b ∷ qs) a = (left (is_state_request b) (nat_le 32 b.code && nat_le b.code 43) a.0, questions_other qs a.1)
  where
    left : (x y : Bool) → (x || y) ≡ false → x ≡ false
    left true y h = absurd cc
    left false y h = refl

mains_code : (job : Job) (r : Request) (ms : List Asking) → asked_by job ≡ r ∷ [] → AreMains job ms → Every (CodeIs (code_of r)) ms
mains_code job r [] a m = tt
mains_code job r (b ∷ ms) a m = (((m.0).of).0 ∙ ap code_of (sym (only_request job r (m.0).request (acked ms) a (m.0).slot)), mains_code job r ms a (m.1).1)

mapped : (list : List Cfg) (n : ℕ) (r : Request) → slice_get (map Configure list) n ≡ Some r → state_test (code_of r) ≡ false
mapped [] n r e = absurd cc
mapped (body ∷ list) zero r e = let z : Configure body ≡ r = cc in ap (λ (q : Request). state_test (code_of q)) (sym z) ∙ conf_off body
mapped (body ∷ list) (suc n) r e = mapped list n r e

mains_other : (job : Job) (ms : List Asking) → asked_by job ≡ map Configure job.list → AreMains job ms → Every IsOther ms
mains_other job [] a m = tt
mains_other job (b ∷ ms) a m =
    (ap state_test ((m.0).of).0 ∙ mapped job.list (acked ms) (m.0).request (ap (λ (rs : List Request). slice_get rs (acked ms)) (sym a) ∙ (m.0).slot), mains_other job ms a (m.1).1)

other_codes : (job : Job) (bs : List Asking) → Every IsOther bs → Every (HasCode job) bs
other_codes job bs e = every_map IsOther (HasCode job) bs (λ a f g. absurd (clash (sym g ∙ f))) e

-- ---- one acknowledged main, and refused steps before it
abbrev IsRefused : Asking → Type 0
IsRefused a = (is_step a ≡ true) × (is_acked a ≡ false)

missing_acked : (b : Asking) → IsMissing b → is_acked b ≡ false
missing_acked b m = ap (λ (o : Option Decision). is_acked_by o) m.2

refused_all : (job : Job) (ms : List Asking) → AreMains job ms → acked ms ≡ 0 → Every IsRefused ms
refused_all job [] m z = tt
refused_all job (b ∷ ms) m z = by (m.1).0 (λ y. refused_all job ms (m.1).1 y)
  where
    by : ((is_acked b ≡ true) ⊎ (IsMissing b × (is_step b ≡ true))) → (acked ms ≡ 0 → Every IsRefused ms) → Every IsRefused (b ∷ ms)
    by (inl k) f = let y = acked_yes b ms (of_main (m.0).request b (m.0).of ∙ (m.0).main) k in absurd (omega (arith, y, z))
    by (inr k) f =
        let u = missing_acked b k.0 in
        let y = acked_no b ms (and_right (is_main b) (is_acked b) u) in
        ((k.1, u), f (sym y ∙ z))

record OneMain (job : Job) (ms : List Asking) : Type 0 where
  pub main : Asking
  pub tries : List Asking
  pub is : ms ≡ main ∷ tries
  pub acked_is : is_acked main ≡ true
  pub refused : Every IsRefused tries

one_main : (job : Job) (r : Request) (ms : List Asking) → asked_by job ≡ r ∷ [] → AreMains job ms → acked ms ≡ 1 → OneMain job ms
one_main job r [] a m h = let z : acked [] ≡ 0 = refl in absurd (omega (arith, h, z))
one_main job r (b ∷ ts) a m h = by (m.1).0
  where
    none : acked ts ≡ 0
    none = let k = slot_below job (acked ts) (m.0).request (m.0).slot in let n : length (asked_by job) ≡ 1 = ap length a in omega (arith, k, n)

    by : ((is_acked b ≡ true) ⊎ (IsMissing b × (is_step b ≡ true))) → OneMain job (b ∷ ts)
    by (inl k) = record { main = b; tries = ts; is = refl; acked_is = k; refused = refused_all job ts (m.1).1 none }
    by (inr k) = let y = acked_no b ts (and_right (is_main b) (is_acked b) (missing_acked b k.0)) in absurd (omega (arith, y, h, none))

-- what is decided before the questions
later_than : (d : Decision) (main : Asking) (qs ts : List Asking) → main.decision ≡ Some d → Sorted (qs ++ (main ∷ ts)) → Every (λ a. d.place < a.first) qs
later_than d main [] ts e s = tt
later_than d main (q ∷ qs) ts e s = ((every_right (DoneBefore q.first) qs (main ∷ ts) s.0).0 d e, later_than d main qs ts e s.1)

turned_over : (main : Asking) (qs ts : List Asking) → reverse (qs ++ (main ∷ ts)) ≡ reverse ts ++ (main ∷ reverse qs)
turned_over main qs ts =
    reverse-append qs (main ∷ ts) ∙ ap (λ (z : List Asking). z ++ reverse qs) (reverse-append (main ∷ []) ts) ∙ append_assoc (reverse ts) (main ∷ []) (reverse qs)

-- ---- the state was named by a question
names_question : (task : Task) (state : State) (a : Asking) → target_of task ≡ Some state → names_it task a ≡ true → (is_state_question a ≡ true) × ((place : ℕ) × IsDecided a place (StateAck (state_code state)))
names_question task state a t h = let p = and_parts (is_state_question a) (names_target task a.decision) h in (p.0, by a.decision refl p.1)
  where
    two : (d : Decision) (x : Answer) → d.answer ≡ x → a.decision ≡ Some d → names_in task x ≡ true → (place : ℕ) × IsDecided a place (StateAck (state_code state))
    two d (StateAck s) e f k =
        let z : s ≡ state_code state = eqb-true s (state_code state) (ap (λ (o : Option State). is_state o s) (sym t) ∙ k) in
        (d.place, f ∙ ap (λ (x : Answer). Some (record { place = d.place; answer = x })) (e ∙ ap (λ (n : ℕ). StateAck n) z))
    two d Ack e f k = absurd cc
    two d (Nack code) e f k = absurd cc
    two d (ErrorAck c) e f k = absurd cc
    two d LogAck e f k = absurd cc

    by : (o : Option Decision) → a.decision ≡ o → names_target task o ≡ true → (place : ℕ) × IsDecided a place (StateAck (state_code state))
    by None e k = absurd cc
    by (Some d) e k = two d d.answer refl e k

module _ (setup : Setup) (slave : Slave) (log : List LogEntry) (js : List Job) (xs : List Placed) (l : AreLegal setup.limits js (marks_of xs)) (d : AreDated setup slave log xs) (r : Rests setup.limits (marks_of xs)) (c : cause_of (marks_of xs) ≡ None) (job : Job) (e : job_of (marks_of xs) ≡ Some job) (passed : is_passed job (marks_of xs) ≡ true) (free : open_request (marks_of xs) ≡ None) where
  all : Whole job (now xs)
  all = whole setup.limits js job xs l (stage setup.limits js xs l r c job e) passed free

  abbrev phase : ℕ
  phase = count is_begun (marks_of xs)

  phases_in : Every (InPhase setup log phase) (all.qs ++ all.ms)
  phases_in = let P : List Asking → Type 0 = λ z. Every (InPhase setup log phase) z in subst P all.is (in_phase setup slave log xs d)

  order : Sorted (all.qs ++ all.ms)
  order = let P : List Asking → Type 0 = λ z. Sorted z in subst P all.is (sorted setup slave log xs d).1

  named_by : (state : State) → target_of job.task ≡ Some state → is_by_list job.task ≡ false → is_by_end job.task ≡ false → Named setup log state phase (reverse all.qs)
  named_by state t b n =
      let f = names_it job.task in
      let y : list_any f (all.qs ++ all.ms) ≡ true = ap (list_any f) (sym all.is) ∙ sym (reached_now job.task setup.limits js xs l) ∙ passed_reached job (marks_of xs) b n passed in
      let k = any_in f all.qs (any_left f all.qs all.ms (mains_name job job.task all.ms all.mains) y) in
      let q = names_question job.task state k.0 t (k.1).1 in
      let w = every_in (InPhase setup log phase) k.0 all.qs (every_left (InPhase setup log phase) all.qs all.ms phases_in) (k.1).0 in
      record { question = k.0; place = (q.1).0; within = in_reverse k.0 all.qs (k.1).0; asks = q.0; told = (q.1).1; told_in = decided_place setup log phase k.0 (q.1).0 (StateAck (state_code state)) w (q.1).1 }

  back : (P : Asking → Type 0) → Every P (all.qs ++ all.ms) → Every P (reverse (now xs))
  back P h = let Q : List Asking → Type 0 = λ z. Every P (reverse z) in subst Q (sym all.is) (every_reverse P (all.qs ++ all.ms) h)

  single_of : (state : State) (body : Stc) → is_by_list job.task ≡ false → asked_by job ≡ Change state body ∷ [] → code_of (Change state body) ≡ task_code job.task → Single setup log job phase (reverse (now xs))
  single_of state body b a q =
      let n : length (asked_by job) ≡ 1 = ap length a in
      let o = one_main job (Change state body) all.ms a all.mains (all.full ∙ n) in
      let y = acked_decision o.main o.acked_is in
      let P : List Asking → Type 0 = λ z. Every (InPhase setup log phase) z in
      let Q : List Asking → Type 0 = λ z. Sorted (all.qs ++ z) in
      let R : List Asking → Type 0 = λ z. AreMains job z in
      let m = subst R o.is all.mains in
      let w = (subst P o.is (every_right (InPhase setup log phase) all.qs all.ms phases_in)).0 in
      record {
        tries = reverse o.tries;
        main = o.main;
        questions = reverse all.qs;
        is = ap reverse (all.is ∙ ap (λ (z : List Asking). all.qs ++ z) o.is) ∙ turned_over o.main all.qs o.tries;
        refused = every_reverse IsRefused o.tries o.refused;
        place = y.0;
        done = y.1;
        done_in = decided_place setup log phase o.main y.0 Ack w y.1;
        first_in = w.0;
        code_is = (mains_code job (Change state body) (o.main ∷ o.tries) a m).0 ∙ q;
        of = λ r f. of_only o.main r f (m.0).request (acked o.tries) (m.0).slot (m.0).of;
        asks = every_reverse IsOther all.qs (questions_other all.qs all.questions);
        later = every_reverse (λ a. y.0 < a.first) all.qs (later_than (record { place = y.0; answer = Ack }) o.main all.qs o.tries y.1 (subst Q o.is order));
        named = λ state t n. named_by state t b n;
      }
    where
      of_only : (main : Asking) (r : Request) → asked_by job ≡ r ∷ [] → (request : Request) (n : ℕ) → slice_get (asked_by job) n ≡ Some request → IsOf request main → IsOf r main
      of_only main r f request n s i = (i.0 ∙ ap code_of (sym z), i.1 ∙ ap more_of (sym z))
        where
          z : r ≡ request
          z = only_request job r request n f s

  pub segment : Segment setup log slave job phase (reverse (now xs))
  segment = by (job_form job)
    where
      P : Asking → Type 0
      P a = InPhase setup log phase a

      Q : Asking → Type 0
      Q a = phase_before setup log a.first ≡ phase

      firsts : Every Q (reverse (now xs))
      firsts = back Q (every_map P Q (all.qs ++ all.ms) (λ a h. h.0) phases_in)

      qs_other : Every IsOther all.qs
      qs_other = questions_other all.qs all.questions

      by : Form job → Segment setup log slave job phase (reverse (now xs))
      by (listed z b a) =
          let o = every_append IsOther all.qs all.ms qs_other (mains_other job all.ms a all.mains) in
          record {
            first_in = firsts;
            codes = back (HasCode job) (other_codes job (all.qs ++ all.ms) o);
            came = λ row t. kept_in setup slave log row xs d (passed_outputs job (marks_of xs) row t passed);
            shape = inl (z, back IsOther o);
          }
      by (single state body b a q) =
          let h = every_map (CodeIs (code_of (Change state body))) (HasCode job) all.ms (λ a f g. f ∙ q) (mains_code job (Change state body) all.ms a all.mains) in
          record {
            first_in = firsts;
            codes = back (HasCode job) (every_append (HasCode job) all.qs all.ms (other_codes job all.qs qs_other) h);
            came = λ row t. kept_in setup slave log row xs d (passed_outputs job (marks_of xs) row t passed);
            shape = inr (single_of state body b a q);
          }
