-- A slave that has passed shows no cause.
use Rattle.std.proofs.Common.{◌≡◌, ℕ, ◌%◌, ◌<◌, ◌≤◌, Bool, true, false, if◌then◌else◌, Option, Some, None, List, [], ◌∷◌, refl, sym, ap, ◌∙◌, subst, arith}
use Rattle.std.specs.Prelude.{cond, IfSome, ◌==◌, ◌&&◌, slice_get, find, filter}
use Rattle.std.specs.List.{list_any}
use Rattle.std.proofs.lemmas.Bool.{eqb-true, eqb-false}
use Rattle.dcp_ends.specs.declared.entries.LogEntry.{LogEntry}
use Rattle.master_spec.specs.declared.causes.Cause.{Cause}
use Rattle.master_spec.specs.declared.causes.Cause.TheVariants as causes
use Rattle.master_spec.specs.declared.requests.Request.{Request}
use Rattle.master_spec.specs.declared.requests.Answer.{Answer}
use Rattle.master_spec.specs.declared.requests.Answer.TheVariants.{Ack, Nack, StateAck, ErrorAck, LogAck}
use Rattle.master_spec.specs.declared.requests.Latest.{Latest}
use Rattle.master_spec.specs.declared.requests.Latest.TheVariants as latests
use Rattle.master_spec.specs.declared.reactions.Reaction.TheVariants.{Repeat}
use Rattle.master_spec.specs.declared.tasks.Task.{Task}
use Rattle.master_spec.specs.declared.tasks.Task.TheVariants as tasks
use Rattle.master_spec.specs.declared.setups.Slave.{Slave}
use Rattle.master_spec.specs.declared.setups.Setup.{Setup}
use Rattle.master_spec.specs.Tasks.{target_of, passing_of, task_row}
use Rattle.master_spec.specs.Jobs.{Job}
use Rattle.master_spec.specs.Marks.{Mark, Begun, Asked, Again, Answered, Hinted, Brought, Turned, Ended, is_sending, turns_since, latest, open_request, job_of, cause_of}
use Rattle.master_spec.specs.Conversation.{is_state, is_error}
use Rattle.master_spec.specs.Requests.{Asking, Decision, decided_by, turns_before, turns_between, is_main, is_step, is_outputs, is_state_question, is_error_question}
use Rattle.master_spec.specs.Exchanged.{Brings, IsDecided}
use Rattle.master_spec.specs.Shown.{names_target, last_sending, fits_change, fits_error, fits_state, fits_answer, ShownBy}
use Rattle.master_log_laws.specs.Asking.Legal.{Does, AreLegal}
use Rattle.master_log_laws.specs.Index.Index.{Placed, marks_of, again_at, decided_at}
use Rattle.master_log_laws.specs.Index.Dates.{clock, IsDated, AreDated}
use Rattle.master_log_laws.proofs.Index.Events.{repeats_open}
use Rattle.master_log_laws.proofs.Phases.Now.{now_by, now, Linked, linked, open_latest}
use Rattle.master_log_laws.proofs.Phases.Soon.{soon}
use Rattle.master_log_laws.proofs.Failures.Turns.{turns_to}
use Rattle.master_log_laws.proofs.Failures.Silences.{last_of, sendings_in_phases, sent_last}

abbrev place_or : Option Decision → ℕ
place_or None = 0
place_or (Some d) = d.place

-- ---- it was answered in time
pub answered_soon : (setup : Setup) (slave : Slave) (log : List LogEntry) (js : List Job) (xs : List Placed) (b : Asking) (rest : List Asking) (d : Decision) → 1 ≤ setup.limits.turn_limit → AreLegal setup.limits js (marks_of xs) → AreDated setup slave log xs → cause_of (marks_of xs) ≡ None
    → (job : Job) → job_of (marks_of xs) ≡ Some job → now xs ≡ b ∷ rest → b.decision ≡ Some d → turns_between setup.address log (last_of b) d.place < setup.limits.turn_limit
answered_soon setup slave log js [] b rest d one l w c job e n h = absurd cc
answered_soon setup slave log js (x ∷ xs) b rest d one l w c job e n h = by x.mark l w.0 (linked setup.limits js xs l.1) c e n (λ c e z. answered_soon setup slave log js xs b rest d one l.1 w.1 c job e z h)
  where
    Soon : Type 0
    Soon = turns_between setup.address log (last_of b) d.place < setup.limits.turn_limit

    none : (q : Asking) → q.decision ≡ None → q.decision ≡ Some d → ⊥
    none q f g = let z : None ≡ Some d = sym f ∙ g in cc

    repeated : (ms : List Mark) → Does setup.limits ms Repeat → (r : Request) × (open_request ms ≡ Some r)
    repeated [] k = absurd k
    repeated (m ∷ ms) k = repeats_open setup.limits m ms k

    again : (os : List Asking) (r : Request) → Linked (latests.Asked r) os → again_at x.place os ≡ b ∷ rest → ⊥
    again [] r k z = k
    again (c ∷ cs) r k z = let q : c.decision ≡ b.decision = cc in none b (sym q ∙ k.1) h

    answered : (os : List Asking) (r : Request) (a : Answer) → now xs ≡ os → Linked (latests.Asked r) os → decided_at x.place a os ≡ b ∷ rest → turns_since is_sending (marks_of xs) < setup.limits.turn_limit → turns_before setup.address log x.place ≡ clock (marks_of xs) → Soon
    answered [] r a y k z s t = absurd k
    answered (c ∷ cs) r a y k z s t =
        let q : decided_by c.decision (record { place = x.place; answer = a }) ≡ b.decision = cc in
        let v : Some (record { place = x.place; answer = a }) ≡ Some d = sym (ap (λ (o : Option Decision). decided_by o (record { place = x.place; answer = a })) k.1) ∙ q ∙ h in
        let p : x.place ≡ d.place = ap place_or v in
        let f : c.first ≡ b.first = cc in
        let g : c.repeats ≡ b.repeats = cc in
        let i : turns_before setup.address log (last_of c) ≡ turns_before setup.address log (last_of b) = ap (λ (i : ℕ). turns_before setup.address log (last_sending i c.repeats)) f ∙ ap (λ (is : List ℕ). turns_before setup.address log (last_sending b.first is)) g in
        let j : turns_before setup.address log x.place ≡ turns_before setup.address log d.place = ap (turns_before setup.address log) p in
        let k = turns_to setup slave log setup.limits js is_sending xs (last_of c) (sendings_in_phases setup.limits js) l.1 w.1 (sent_last xs c cs y) in
        omega (arith, i, j, k, s, t)

    by : (m : Mark) → AreLegal setup.limits js (m ∷ marks_of xs) → IsDated setup slave log x.place m xs → Linked (latest (marks_of xs)) (now xs) → cause_of (m ∷ marks_of xs) ≡ None → job_of (m ∷ marks_of xs) ≡ Some job → now_by x.place m (marks_of xs) (now xs) ≡ b ∷ rest
        → (cause_of (marks_of xs) ≡ None → job_of (marks_of xs) ≡ Some job → now xs ≡ b ∷ rest → Soon) → Soon
    by (Begun j) k w i c e z f = absurd cc
    by (Asked r) k w i c e z f = let q : None ≡ b.decision = cc in absurd (none b (sym q) h)
    by Again k w i c e z f =
        let o = repeated (marks_of xs) k.0 in
        let P : Latest → Type 0 = λ y. Linked y (now xs) in
        absurd (again (now xs) o.0 (subst P (open_latest (latest (marks_of xs)) o.0 o.1) i) z)
    by (Answered r a) k w i c e z f =
        let P : Latest → Type 0 = λ y. Linked y (now xs) in
        let o = open_latest (latest (marks_of xs)) r (k.0).1 in
        answered (now xs) r a refl (subst P o i) z (soon setup.limits js (marks_of xs) one k.1 (k.0).0 c job e r o) w.turns
    by Hinted k w i c e z f = f c e z
    by (Brought n p) k w i c e z f = f c e z
    by (Turned t) k w i c e z f = f c e z
    by (Ended cause) k w i c e z f = absurd cc

-- ---- what the log tells of it
-- an acknowledged main request, or a question that the target answers
pub data CalmAnswer (task : Task) (c : Asking) (answer : Answer) : Type 0 where
  acked_main : is_main c ≡ true → answer ≡ Ack → CalmAnswer task c answer
  told_target : (s : ℕ) → is_main c ≡ false → is_error_question c ≡ false → is_state_question c ≡ true → answer ≡ StateAck s → is_state (target_of task) s ≡ true → CalmAnswer task c answer

-- where the task has a row, its outputs came in time
abbrev pub CameInTime : Setup → List LogEntry → Slave → Task → (earlier : List Asking) → (place : ℕ) → Type 0
CameInTime setup log slave task earlier place = (row : ℕ) → task_row task ≡ Some row
    → (i : ℕ) × ((request : Asking) × ((find is_outputs earlier ≡ Some request) × ((request.first < i) × (Brings setup log slave (row % 65536) i × (turns_between setup.address log place i < setup.limits.data_turns)))))

pub record Calm (setup : Setup) (log : List LogEntry) (slave : Slave) (task : Task) (c : Asking) (earlier : List Asking) : Type 0 where
  pub place : ℕ
  pub answer : Answer
  pub told : IsDecided c place answer
  pub kind : CalmAnswer task c answer
  pub soon : turns_between setup.address log (last_of c) place < setup.limits.turn_limit
  pub came : CameInTime setup log slave task earlier place

clash : true ≡ false → ⊥
clash z = cc

abbrev answer_or : Option Decision → Answer
answer_or None = LogAck
answer_or (Some d) = d.answer

same_answer : (c : Asking) (i j : ℕ) (a b : Answer) → IsDecided c i a → IsDecided c j b → (i ≡ j) × (a ≡ b)
same_answer c i j a b d e = let z : Some (record { place = i; answer = a }) ≡ Some (record { place = j; answer = b }) = sym d ∙ e in (ap place_or z, ap answer_or z)

two_codes : (s a b : ℕ) → (s == a) ≡ true → (s == b) ≡ true → (a == b) ≡ false → ⊥
two_codes s a b p q r = let x = eqb-true s a p in let y = eqb-true s b q in eqb-false a b r (sym x ∙ y)

-- the passing state of a task is not its target
passing_apart : (task : Task) (s : ℕ) → is_state (passing_of task) s ≡ true → is_state (target_of task) s ≡ true → ⊥
passing_apart (tasks.Register uuid) s p q = cc
passing_apart tasks.Setup s p q = cc
passing_apart tasks.Prepare s p q = two_codes s _ _ p q refl
passing_apart tasks.Configure s p q = two_codes s _ _ p q refl
passing_apart tasks.Initialize s p q = two_codes s _ _ p q refl
passing_apart (tasks.FirstOutputs row) s p q = two_codes s _ _ p q refl
passing_apart tasks.Run s p q = two_codes s _ _ p q refl
passing_apart (tasks.Step k) s p q = two_codes s _ _ p q refl
passing_apart (tasks.Outputs k row) s p q = two_codes s _ _ p q refl
passing_apart tasks.Stop s p q = two_codes s _ _ p q refl
passing_apart tasks.Reset s p q = cc
passing_apart tasks.Adjust s p q = cc
passing_apart tasks.Deregister s p q = cc

no_nack : (task : Task) (c : Asking) (answer : Answer) (code : ℕ) → CalmAnswer task c answer → answer ≡ Nack code → ⊥
no_nack task c answer code (acked_main m e) f = let z : Ack ≡ Nack code = sym e ∙ f in cc
no_nack task c answer code (told_target s m x q e t) f = let z : StateAck s ≡ Nack code = sym e ∙ f in cc

no_fault : (task : Task) (c : Asking) (answer : Answer) (code : ℕ) → CalmAnswer task c answer → answer ≡ ErrorAck code → ⊥
no_fault task c answer code (acked_main m e) f = let z : Ack ≡ ErrorAck code = sym e ∙ f in cc
no_fault task c answer code (told_target s m x q e t) f = let z : StateAck s ≡ ErrorAck code = sym e ∙ f in cc

no_passing : (task : Task) (c : Asking) (answer : Answer) (t : ℕ) → CalmAnswer task c answer → answer ≡ StateAck t → is_state (passing_of task) t ≡ true → ⊥
no_passing task c answer t (acked_main m e) f p = let z : Ack ≡ StateAck t = sym e ∙ f in cc
no_passing task c answer t (told_target s m x q e g) f p =
    let z : StateAck s ≡ StateAck t = sym e ∙ f in
    let y : s ≡ t = cc in
    passing_apart task t p (ap (is_state (target_of task)) (sym y) ∙ g)

fits : (task : Task) (c : Asking) (earlier : List Asking) (answer : Answer) → CalmAnswer task c answer → fits_answer task c earlier answer ≡ true
fits task c earlier answer (acked_main m e) =
    ap (λ (t : Bool). if t then fits_change answer else if is_error_question c then fits_error answer else if is_state_question c then fits_state task earlier answer else true) m ∙ ap fits_change e
fits task c earlier answer (told_target s m x q e g) =
    ap (λ (t : Bool). if t then fits_change answer else if is_error_question c then fits_error answer else if is_state_question c then fits_state task earlier answer else true) m
    ∙ ap (λ (t : Bool). if t then fits_error answer else if is_state_question c then fits_state task earlier answer else true) x
    ∙ ap (λ (t : Bool). if t then fits_state task earlier answer else true) q
    ∙ ap (fits_state task earlier) e
    ∙ ap (λ (t : Bool). if is_error s then true else if t then true else if is_state (passing_of task) s then (if list_any (λ a. is_state_question a && names_target task a.decision) earlier then false else true) else false) g ∙ either (is_error s)
  where
    either : (b : Bool) → (if b then true else true) ≡ true
    either true = refl
    either false = refl

some_late : (setup : Setup) (log : List LogEntry) (c : Asking) (place : ℕ) (answer : Answer) → IsDecided c place answer → IfSome c.decision (λ d. setup.limits.turn_limit ≤ turns_between setup.address log (last_sending c.first c.repeats) d.place)
    → setup.limits.turn_limit ≤ turns_between setup.address log (last_sending c.first c.repeats) place
some_late setup log c place answer d h =
    let P : Option Decision → Type 0 = λ o. IfSome o (λ d. setup.limits.turn_limit ≤ turns_between setup.address log (last_sending c.first c.repeats) d.place) in subst P d h

first_step : (c : Asking) (earlier : List Asking) → is_step c ≡ true → slice_get (filter is_step (c ∷ earlier)) 0 ≡ Some c
first_step c earlier h = ap (λ (t : Bool). slice_get (cond t (c ∷ filter is_step earlier) (filter is_step earlier)) 0) h

same_found : (o : Option Asking) (a b : Asking) → o ≡ Some a → o ≡ Some b → a ≡ b
same_found o a b e f = let z : Some a ≡ Some b = sym e ∙ f in cc

-- ---- it shows nothing
pub calm_shows : (setup : Setup) (log : List LogEntry) (slave : Slave) (task : Task) (c : Asking) (earlier : List Asking) (cause : Cause) → Calm setup log slave task c earlier → ShownBy setup log slave task c earlier cause → ⊥
calm_shows setup log slave task c earlier (causes.NoAnswer q) k s =
    let h = some_late setup log c k.place k.answer k.told (s.1).late in
    let soon = k.soon in
    omega (arith, h, soon)
calm_shows setup log slave task c earlier (causes.Refused q code) k s = no_nack task c k.answer code k.kind (same_answer c k.place (s.1).place k.answer (Nack code) k.told (s.1).told).1
calm_shows setup log slave task c earlier (causes.InputsMissing q i) k s =
    let m = (s.1).each 0 c (first_step c earlier (s.1).asks_step) in
    no_nack task c k.answer m.1 k.kind (same_answer c k.place m.0 k.answer (Nack m.1) k.told m.2).1
calm_shows setup log slave task c earlier (causes.DataMissing i) k s =
    let z = same_answer c k.place s.place k.answer (StateAck s.state) k.told s.told in
    let w = k.came s.row s.row_is in
    let y : (w.1).0 ≡ s.request = same_found (find is_outputs earlier) (w.1).0 s.request ((w.1).1).0 s.request_is in
    let v : (s.request).first < w.0 = let P : Asking → Type 0 = λ x. x.first < w.0 in subst P y (((w.1).1).1).0 in
    let a = s.missing w.0 v ((((w.1).1).1).1).0 in
    let b = ((((w.1).1).1).1).1 in
    let e : turns_between setup.address log k.place w.0 ≡ turns_between setup.address log s.place w.0 = ap (λ (j : ℕ). turns_between setup.address log j w.0) z.0 in
    omega (arith, a, b, e)
calm_shows setup log slave task c earlier (causes.Stuck q t) k s = no_passing task c k.answer t k.kind (same_answer c k.place (s.1).place k.answer (StateAck t) k.told (s.1).told).1 (s.1).passing
calm_shows setup log slave task c earlier (causes.Faulted q code) k s = no_fault task c k.answer code k.kind (same_answer c k.place (s.1).place k.answer (ErrorAck code) k.told (s.1).told).1
calm_shows setup log slave task c earlier (causes.Unexpected q y t) k s =
    let z = same_answer c k.place (s.1).place k.answer (s.1).answer k.told (s.1).told in
    clash (sym (fits task c earlier k.answer k.kind) ∙ ap (fits_answer task c earlier) z.1 ∙ (s.1).unfit)
