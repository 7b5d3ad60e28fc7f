-- What is shown of a slave is shown of its last request, where the log is read.
use Rattle.std.proofs.Common.{◌≡◌, ℕ, zero, suc, false, ◌-◌, ◌<◌, ◌≤◌, ◌&&◌, ◌%◌, find, IsFalse, IfSome, reverse, arith, Option, Some, None, List, [], ◌∷◌, slice_get, refl, sym, ap, ◌∙◌, subst}
use Rattle.dcp_ends.specs.declared.entries.LogEntry.{LogEntry}
use Rattle.master_spec.specs.declared.tasks.Task.{Task}
use Rattle.master_spec.specs.declared.causes.Cause.{Cause}
use Rattle.master_spec.specs.declared.causes.Cause.TheVariants as causes
use Rattle.master_spec.specs.declared.requests.Answer.{Answer}
use Rattle.master_spec.specs.declared.requests.Answer.TheVariants.{Ack, Nack, StateAck, ErrorAck}
use Rattle.master_spec.specs.declared.setups.Slave.{Slave}
use Rattle.master_spec.specs.declared.setups.Setup.{Setup}
use Rattle.master_spec.specs.Jobs.{Job}
use Rattle.master_spec.specs.News.{type_in_answer, state_in_answer}
use Rattle.master_spec.specs.Marks.{is_missing}
use Rattle.master_spec.specs.declared.reports.Report.TheVariants as reports
use Rattle.witness_laws.specs.Shown.Ends.{single, small_slave}
use Rattle.witness_laws.specs.Shown.Logs.{IsMasterRun, TellsCause}
use Rattle.master_spec.specs.Tasks.{task_row, passing_of}
use Rattle.master_spec.specs.Conversation.{is_state}
use Rattle.master_spec.specs.Setup.{jobs_of}
use Rattle.master_spec.specs.Requests.{Asking, Decision, asks, of_phase, is_step, is_outputs, is_state_request, is_acked, turns_between, turns_after}
use Rattle.master_spec.specs.Exchanged.{IsDecided, Brings}
use Rattle.master_spec.specs.Shown.{Shown, ShownBy, Last, IsUnanswered, MissesInputs, MissesOutputs, IsStuck, IsFaulted, last_sending, fits_answer}

task_in : Task → Option Job → Task
task_in t None = t
task_in t (Some job) = job.task

-- a log has one last request, so what it shows is shown of that one
pub shown_by : {setup : Setup} {log : List LogEntry} {small_slave : Slave} {p n : ℕ} {cause : Cause} {task : Task} {r : Asking} {earlier : List Asking}
    → Last setup log small_slave n task r earlier → Shown setup log small_slave p cause → (p ≡ n) × ShownBy setup log small_slave task r earlier cause
unfolding task_in
shown_by {setup} {log} {small_slave} {p} {n} {cause} {task} {r} {earlier} l s =
    let same : p ≡ n = s.last.phase ∙ sym l.phase in
    let jobs : slice_get (jobs_of setup small_slave) (p - 1) ≡ slice_get (jobs_of setup small_slave) (n - 1) = ap (λ m. slice_get (jobs_of setup small_slave) (m - 1)) same in
    let tasks : s.task ≡ task = ap (task_in task) (sym s.last.job.1 ∙ jobs ∙ l.job.1) in
    let askings : of_phase (jobs_of setup small_slave) p (asks setup.address small_slave log) ≡ of_phase (jobs_of setup small_slave) n (asks setup.address small_slave log)
    = ap (λ m. of_phase (jobs_of setup small_slave) m (asks setup.address small_slave log)) same in
    let here : s.request ∷ s.earlier ≡ r ∷ earlier = sym s.last.last ∙ askings ∙ l.last in
    let one : s.request ≡ r = cc in
    let rest : s.earlier ≡ earlier = cc in (
      same,
      subst (λ t. ShownBy setup log small_slave t r earlier cause) tasks
          (subst (λ x. ShownBy setup log small_slave s.task x earlier cause) one
          (subst (λ xs. ShownBy setup log small_slave s.task s.request xs cause) rest s.shown)),
    )

answer_in : Answer → Option Decision → Answer
answer_in a None = a
answer_in a (Some d) = d.answer

-- a request has one answer
pub one_answer : {p q : ℕ} {x y : Answer} (a : Asking) → IsDecided a p x → IsDecided a q y → x ≡ y
unfolding answer_in
one_answer {p} {q} {x} {y} a d e = ap (answer_in x) (sym d ∙ e)

place_in : ℕ → Option Decision → ℕ
place_in p None = p
place_in p (Some d) = d.place

pub one_place : {p q : ℕ} {x y : Answer} (a : Asking) → IsDecided a p x → IsDecided a q y → p ≡ q
unfolding place_in
one_place {p} {q} {x} {y} a d e = ap (place_in p) (sym d ∙ e)

pub undecided : {p : ℕ} {x : Answer} (a : Asking) → a.decision ≡ None → IsDecided a p x → ⊥
undecided a none d = let e = sym none ∙ d in cc

-- the only slave
pub only_one : (s t : Slave) (i : ℕ) → slice_get (s ∷ []) i ≡ Some t → s ≡ t
only_one s t zero e = cc
only_one s t (suc i) e = absurd cc

pub none_below : (s t : Slave) (i : ℕ) → slice_get (s ∷ []) i ≡ Some t → t.id < s.id → ⊥
none_below s t i e b = let same : s.id ≡ t.id = ap (λ (x : Slave). x.id) (only_one s t i e) in omega arith

-- ---- the seven rows of a request without an answer, and of one whose answer fits, where no values and no passing state are awaited

rows_open : (setup : Setup) (log : List LogEntry) (small_slave : Slave) (task : Task) (r : Asking) (earlier : List Asking) (cause : Cause)
    → r.decision ≡ None → is_step r ≡ false → (IsUnanswered setup log r → ⊥)
    → ShownBy setup log small_slave task r earlier cause → ⊥
rows_open setup log small_slave task r earlier (causes.NoAnswer q) none step silent h = silent h.1
rows_open setup log small_slave task r earlier (causes.Refused q c) none step silent h = undecided r none h.1.told
rows_open setup log small_slave task r earlier (causes.InputsMissing q k) none step silent h = let e = h.1.asks_step in cc
rows_open setup log small_slave task r earlier (causes.DataMissing k) none step silent h = undecided r none h.told
rows_open setup log small_slave task r earlier (causes.Stuck q t) none step silent h = undecided r none h.1.told
rows_open setup log small_slave task r earlier (causes.Faulted q c) none step silent h = undecided r none h.1.told
rows_open setup log small_slave task r earlier (causes.Unexpected q y t) none step silent h = undecided r none h.1.told

pub still_open : {setup : Setup} {log : List LogEntry} {small_slave : Slave} {n : ℕ} {task : Task} {r : Asking} {earlier : List Asking}
    → Last setup log small_slave n task r earlier
    → r.decision ≡ None → is_step r ≡ false → (IsUnanswered setup log r → ⊥)
    → (p : ℕ) (cause : Cause) → Shown setup log small_slave p cause → ⊥
still_open {setup} {log} {small_slave} {n} {task} {r} {earlier} l none step silent p cause s =
    rows_open setup log small_slave task r earlier cause none step silent (shown_by l s).1

-- an answer that came within the turns of the limit
soon_answered : (setup : Setup) (log : List LogEntry) (r : Asking) (place : ℕ) (x : Answer)
    → IsDecided r place x → turns_between setup.address log (last_sending r.first r.repeats) place < setup.limits.turn_limit
    → IsUnanswered setup log r → ⊥
soon_answered setup log r place x told soon h =
    let late = subst (λ o. IfSome o (λ d. setup.limits.turn_limit ≤ turns_between setup.address log (last_sending r.first r.repeats) d.place)) told h.late in
    omega arith

-- what holds of the cause of each row that a request with such an answer leaves holds of the cause that is shown
rows : (P : Cause → Type 0) (setup : Setup) (log : List LogEntry) (small_slave : Slave) (task : Task) (r : Asking) (earlier : List Asking) (place : ℕ) (x : Answer) (cause : Cause)
    → IsDecided r place x → turns_between setup.address log (last_sending r.first r.repeats) place < setup.limits.turn_limit
    → ((c : ℕ) → x ≡ Nack c → IsFalse (is_step r && is_missing c) → P (causes.Refused r.number c))
    → ((k : ℕ) → MissesInputs setup log task r earlier k → P (causes.InputsMissing r.number k))
    → ((k : ℕ) → MissesOutputs setup log small_slave task r earlier k → P (causes.DataMissing k))
    → ((t : ℕ) → x ≡ StateAck t → IsStuck setup log task r earlier t → P (causes.Stuck r.number t))
    → ((c : ℕ) → x ≡ ErrorAck c → IsFaulted r earlier c → P (causes.Faulted r.number c))
    → (fits_answer task r earlier x ≡ false → P (causes.Unexpected r.number (type_in_answer x) (state_in_answer x)))
    → ShownBy setup log small_slave task r earlier cause → P cause
rows P setup log small_slave task r earlier place x (causes.NoAnswer q) told soon refused inputs values stuck faulted unfit h = absurd (soon_answered setup log r place x told soon h.1)
rows P setup log small_slave task r earlier place x (causes.Refused q c) told soon refused inputs values stuck faulted unfit h =
    subst (λ n. P (causes.Refused n c)) h.0 (refused c (one_answer r told h.1.told) h.1.other)
rows P setup log small_slave task r earlier place x (causes.InputsMissing q k) told soon refused inputs values stuck faulted unfit h =
    subst (λ n. P (causes.InputsMissing n k)) h.0 (inputs k h.1)
rows P setup log small_slave task r earlier place x (causes.DataMissing k) told soon refused inputs values stuck faulted unfit h = values k h
rows P setup log small_slave task r earlier place x (causes.Stuck q t) told soon refused inputs values stuck faulted unfit h =
    subst (λ n. P (causes.Stuck n t)) h.0 (stuck t (one_answer r told h.1.told) h.1)
rows P setup log small_slave task r earlier place x (causes.Faulted q c) told soon refused inputs values stuck faulted unfit h =
    subst (λ n. P (causes.Faulted n c)) h.0 (faulted c (one_answer r told h.1.told) h.1)
rows P setup log small_slave task r earlier place x (causes.Unexpected q y t) told soon refused inputs values stuck faulted unfit h =
    let same = one_answer r h.1.told told in
    let type_is : type_in_answer x ≡ y = ap type_in_answer (sym same) ∙ h.1.type_is in
    let state_is : state_in_answer x ≡ t = ap state_in_answer (sym same) ∙ h.1.state_is in
    let here = unfit (ap (fits_answer task r earlier) (sym same) ∙ h.1.unfit) in
    subst (λ n. P (causes.Unexpected n y t)) h.0
    (subst (λ n. P (causes.Unexpected r.number n t)) type_is (subst (λ n. P (causes.Unexpected r.number (type_in_answer x) n)) state_is here))

pub by_rows : {setup : Setup} {log : List LogEntry} {small_slave : Slave} {n : ℕ} {task : Task} {r : Asking} {earlier : List Asking}
    → (P : Cause → Type 0) → Last setup log small_slave n task r earlier → (place : ℕ) (x : Answer)
    → IsDecided r place x → turns_between setup.address log (last_sending r.first r.repeats) place < setup.limits.turn_limit
    → ((c : ℕ) → x ≡ Nack c → IsFalse (is_step r && is_missing c) → P (causes.Refused r.number c))
    → ((k : ℕ) → MissesInputs setup log task r earlier k → P (causes.InputsMissing r.number k))
    → ((k : ℕ) → MissesOutputs setup log small_slave task r earlier k → P (causes.DataMissing k))
    → ((t : ℕ) → x ≡ StateAck t → IsStuck setup log task r earlier t → P (causes.Stuck r.number t))
    → ((c : ℕ) → x ≡ ErrorAck c → IsFaulted r earlier c → P (causes.Faulted r.number c))
    → (fits_answer task r earlier x ≡ false → P (causes.Unexpected r.number (type_in_answer x) (state_in_answer x)))
    → (p : ℕ) (cause : Cause) → Shown setup log small_slave p cause → (p ≡ n) × P cause
by_rows {setup} {log} {small_slave} {n} {task} {r} {earlier} P l place x told soon refused inputs values stuck faulted unfit p cause s =
    let h = shown_by l s in
    (h.0, rows P setup log small_slave task r earlier place x cause told soon refused inputs values stuck faulted unfit h.1)

-- in a phase without values and without a passing state
pub plain : {setup : Setup} {log : List LogEntry} {small_slave : Slave} {n : ℕ} {task : Task} {r : Asking} {earlier : List Asking}
    → (P : Cause → Type 0) → Last setup log small_slave n task r earlier → (place : ℕ) (x : Answer)
    → IsDecided r place x → turns_between setup.address log (last_sending r.first r.repeats) place < setup.limits.turn_limit
    → is_step r ≡ false → task_row task ≡ None → passing_of task ≡ None
    → ((c : ℕ) → x ≡ Nack c → P (causes.Refused r.number c))
    → ((c : ℕ) → x ≡ ErrorAck c → IsFaulted r earlier c → P (causes.Faulted r.number c))
    → (fits_answer task r earlier x ≡ false → P (causes.Unexpected r.number (type_in_answer x) (state_in_answer x)))
    → (p : ℕ) (cause : Cause) → Shown setup log small_slave p cause → (p ≡ n) × P cause
plain P l place x told soon step row through refused faulted unfit =
    by_rows P l place x told soon
    (λ c e _. refused c e)
    (λ k h. absurd (let e = h.asks_step in cc))
    (λ k h. absurd (let e = h.row_is in cc))
    (λ t _ h. absurd (let e = h.passing in let f = ap (λ o. is_state o t) through in cc))
    faulted unfit

-- ---- what a row says of the requests that the log has

pub late_by : (setup : Setup) (log : List LogEntry) (task : Task) (r : Asking) (earlier : List Asking) (t : ℕ) (a : Asking) (place : ℕ)
    → IsStuck setup log task r earlier t → find (λ a. is_state_request a && is_acked a) earlier ≡ Some a → IsDecided a place Ack
    → setup.limits.state_limit ≤ turns_between setup.address log place r.first
late_by setup log task r earlier t a place h found told =
    let both : Some h.request ≡ Some a = sym h.request_is ∙ found in
    let same : h.request ≡ a = cc in
    let at : h.acked ≡ place = one_place a (subst (λ a. IsDecided a h.acked Ack) same h.request_done) told in
    subst (λ i. setup.limits.state_limit ≤ turns_between setup.address log i r.first) at h.late

pub awaited : (setup : Setup) (log : List LogEntry) (small_slave : Slave) (task : Task) (r : Asking) (earlier : List Asking) (k place : ℕ) (x : Answer)
    → MissesOutputs setup log small_slave task r earlier k → IsDecided r place x → setup.limits.data_turns ≤ turns_after setup.address log place
awaited setup log small_slave task r earlier k place x h told =
    subst (λ i. setup.limits.data_turns ≤ turns_after setup.address log i) (one_place r h.told told) h.turns

pub came_late : (setup : Setup) (log : List LogEntry) (small_slave : Slave) (task : Task) (r : Asking) (earlier : List Asking) (k row place : ℕ) (x : Answer) (a : Asking) (i : ℕ)
    → MissesOutputs setup log small_slave task r earlier k → task_row task ≡ Some row → IsDecided r place x
    → find is_outputs earlier ≡ Some a → a.first < i → Brings setup log small_slave (row % 65536) i
    → setup.limits.data_turns ≤ turns_between setup.address log place i
came_late setup log small_slave task r earlier k row place x a i h row_is told found behind brings =
    let both : Some h.request ≡ Some a = sym h.request_is ∙ found in
    let same : a ≡ h.request = cc in
    let rows_are : Some row ≡ Some h.row = sym row_is ∙ h.row_is in
    let row_same : row ≡ h.row = cc in
    let late = h.missing i (subst (λ a. a.first < i) same behind) (subst (λ n. Brings setup log small_slave (n % 65536) i) row_same brings) in
    subst (λ j. setup.limits.data_turns ≤ turns_between setup.address log j i) (one_place r h.told told) late

-- ---- one slave

pub tells_of : {steps n : ℕ} {log : List LogEntry} {cause : Cause}
    → IsMasterRun (single steps) log (reports.Failed 1 n cause) → Shown (single steps) (reverse log) (small_slave 1) n cause → TellsCause (single steps) log (small_slave 1) n cause
tells_of run shown = record { run = run; first = record { is_in = (0, refl); shown = shown; none_before = λ t i b other _. none_below (small_slave 1) t i.0 i.1 b } }
