-- The phases after the first.
use Rattle.std.proofs.Common.{◌≡◌, ℕ, ◌<◌, ◌≤◌, Some, List, [], ◌∷◌, refl, arith, reverse, sym, ap, subst, true, false, zero, suc, inl, inr, slice_get}
use Rattle.dcp_types.specs.Values.{digits}
use Rattle.pdu_layout.specs.Reading.{message_in, spelling}
use Rattle.pdu_layout.specs.Fields.FieldValue.{Number}
use Rattle.master_spec.specs.News.{news_of, request_bytes}
use Rattle.master_spec.specs.Conversation.{reaction, is_state}
use Rattle.master_spec.specs.Tasks.{passing_of, task_step}
use Rattle.master_spec.specs.Marks.{is_missing}
use Rattle.master_spec.specs.Course.{step}
use Rattle.master_spec.specs.Shown.{Last, IsStuck, MissesInputs, MissesOutputs, IsMissing}
use Rattle.master_spec.specs.Exchanged.{Brings}
use Rattle.master_spec.specs.Requests.{Asking, brings_outputs, turns_between}
use Rattle.master_spec.specs.declared.causes.Cause.TheVariants.{Refused, InputsMissing, DataMissing, Stuck}
use Rattle.master_spec.specs.declared.requests.Answer.TheVariants.{Ack, Nack, StateAck}
use Rattle.master_spec.specs.declared.tasks.Task.{Task}
use Rattle.master_spec.specs.declared.tasks.Task.TheVariants as tasks
use Rattle.master_spec.specs.declared.reports.Report.TheVariants as reports
use Rattle.witness_laws.specs.Shown.Ends.{single, small_slave, master, data_entry}
use Rattle.witness_laws.specs.Shown.Logs.{IsMasterRun, TellsCause, ShowsOnly, ShowsNothing}
use Rattle.witness_laws.specs.Shown.Phases.{stuck, asked_at_once, prepared_at_last, missing_outputs, other_outputs, late_outputs, outputs_awaited, outputs_at_last, missing_inputs, refused_once, refused_otherwise}
use Rattle.witness_laws.proofs.Shown.Askings.{decided, question, change}
use Rattle.witness_laws.proofs.Shown.Readings.{one_answer, by_rows, tells_of, late_by, awaited, came_late}
use Rattle.witness_laws.proofs.Shown.Places.{places, IsAmong, brought_at}

-- ---- stuck

run_stuck : IsMasterRun (single 0) stuck (reports.Failed 1 3 (Stuck 4 2))
unfolding message_in spelling digits news_of request_bytes reaction step
run_stuck = record { by_rules = refl; reported = refl; in_time = omega arith }

last_stuck : Last (single 0) (reverse stuck) (small_slave 1) 3 tasks.Prepare (question 4 12 13 (StateAck 2)) (change 3 3 1 9 10 Ack ∷ [])
unfolding message_in news_of
last_stuck = record { phase = refl; begun = omega arith; job = ([], refl); last = refl }

pub tells_stuck : TellsCause (single 0) stuck (small_slave 1) 3 (Stuck 4 2)
tells_stuck = tells_of run_stuck (record {
  task = tasks.Prepare;
  request = question 4 12 13 (StateAck 2);
  earlier = change 3 3 1 9 10 Ack ∷ [];
  last = last_stuck;
  shown = (
    refl,
    record {
      asks_state = refl;
      place = 13;
      told = refl;
      passing = refl;
      request = change 3 3 1 9 10 Ack;
      request_is = refl;
      acked = 10;
      request_done = refl;
      late = omega arith;
    },
  );
})

pub only_stuck : ShowsOnly (single 0) stuck (small_slave 1) 3 (Stuck 4 2)
only_stuck = by_rows (λ c. c ≡ Stuck 4 2) last_stuck 13 (StateAck 2) refl (omega arith)
    (λ c e _. cc) (λ k h. absurd (let e = h.asks_step in cc)) (λ k h. absurd (let e = h.row_is in cc)) (λ t e _. cc) (λ c e _. cc) (λ e. cc)

last_at_once : Last (single 0) (reverse asked_at_once) (small_slave 1) 3 tasks.Prepare (question 4 12 13 (StateAck 2)) (change 3 3 1 9 11 Ack ∷ [])
unfolding message_in news_of
last_at_once = record { phase = refl; begun = omega arith; job = ([], refl); last = refl }

not_late : (t : ℕ) → IsStuck (single 0) (reverse asked_at_once) tasks.Prepare (question 4 12 13 (StateAck 2)) (change 3 3 1 9 11 Ack ∷ []) t → ⊥
not_late t h =
    let late = late_by (single 0) (reverse asked_at_once) tasks.Prepare (question 4 12 13 (StateAck 2)) (change 3 3 1 9 11 Ack ∷ []) t (change 3 3 1 9 11 Ack) 11 h refl refl in
    omega arith

pub none_at_once : ShowsNothing (single 0) asked_at_once (small_slave 1)
none_at_once p cause s = (by_rows (λ _. ⊥) last_at_once 13 (StateAck 2) refl (omega arith)
    (λ c e _. cc) (λ k h. absurd (let e = h.asks_step in cc)) (λ k h. absurd (let e = h.row_is in cc)) (λ t _ h. not_late t h) (λ c e _. cc) (λ e. cc) p cause s).1

last_prepared : Last (single 0) (reverse prepared_at_last) (small_slave 1) 3 tasks.Prepare (question 4 12 13 (StateAck 3)) (change 3 3 1 9 10 Ack ∷ [])
unfolding message_in news_of
last_prepared = record { phase = refl; begun = omega arith; job = ([], refl); last = refl }

pub none_prepared : ShowsNothing (single 0) prepared_at_last (small_slave 1)
none_prepared p cause s = (by_rows (λ _. ⊥) last_prepared 13 (StateAck 3) refl (omega arith)
    (λ c e _. cc) (λ k h. absurd (let e = h.asks_step in cc)) (λ k h. absurd (let e = h.row_is in cc)) (λ t e h. let f = h.passing in let n : 3 ≡ t = cc in let g = subst (λ t. is_state (passing_of tasks.Prepare) t ≡ true) (sym n) f in cc) (λ c e _. cc) (λ e. cc) p cause s).1

-- ---- without outputs

abbrev home : Asking
home = question 10 30 31 (StateAck 5)

abbrev sending : List Asking
sending = change 8 9 7 27 28 Ack ∷ question 8 24 25 (StateAck 7) ∷ []

abbrev outputs : Task
outputs = tasks.FirstOutputs 0

not_sending : (t : ℕ) → StateAck 5 ≡ StateAck t → is_state (passing_of outputs) t ≡ true → ⊥
not_sending t e f = let n : 5 ≡ t = cc in let g = subst (λ t. is_state (passing_of outputs) t ≡ true) (sym n) f in cc

run_missing : IsMasterRun (single 0) missing_outputs (reports.Failed 1 6 (DataMissing 0))
unfolding message_in spelling digits news_of request_bytes reaction step
run_missing = record { by_rules = refl; reported = refl; in_time = omega arith }

last_missing : Last (single 0) (reverse missing_outputs) (small_slave 1) 6 outputs home sending
unfolding message_in news_of
last_missing = record { phase = refl; begun = omega arith; job = ([], refl); last = refl }

none_came : places (brings_outputs master (small_slave 1) 0 1) 0 missing_outputs ≡ []
unfolding message_in news_of
none_came = refl

missing_here : (i : ℕ) → 27 < i → Brings (single 0) (reverse missing_outputs) (small_slave 1) 0 i → ⊥
missing_here i b h = subst (λ ps. IsAmong ps i) none_came (brought_at (single 0) (reverse missing_outputs) (small_slave 1) 0 i h)

pub tells_missing : TellsCause (single 0) missing_outputs (small_slave 1) 6 (DataMissing 0)
tells_missing = tells_of run_missing (record {
  task = outputs;
  request = home;
  earlier = sending;
  last = last_missing;
  shown = record {
    row = 0;
    row_is = refl;
    step = refl;
    asks_state = refl;
    place = 31;
    state = 5;
    told = refl;
    target = refl;
    turns = omega arith;
    request = change 8 9 7 27 28 Ack;
    request_is = refl;
    missing = λ i b h. absurd (missing_here i b h);
  };
})

pub only_missing : ShowsOnly (single 0) missing_outputs (small_slave 1) 6 (DataMissing 0)
only_missing = by_rows (λ c. c ≡ DataMissing 0) last_missing 31 (StateAck 5) refl (omega arith)
    (λ c e _. cc) (λ k h. absurd (let e = h.asks_step in cc)) (λ k h. let e : 0 ≡ k = h.step in cc) (λ t e h. absurd (not_sending t e h.passing)) (λ c e _. cc) (λ e. cc)

last_awaited : Last (single 0) (reverse outputs_awaited) (small_slave 1) 6 outputs home sending
unfolding message_in news_of
last_awaited = record { phase = refl; begun = omega arith; job = ([], refl); last = refl }

still_awaited : (k : ℕ) → MissesOutputs (single 0) (reverse outputs_awaited) (small_slave 1) outputs home sending k → ⊥
still_awaited k h = let e = awaited (single 0) (reverse outputs_awaited) (small_slave 1) outputs home sending k 31 (StateAck 5) h refl in omega arith

pub none_awaited : ShowsNothing (single 0) outputs_awaited (small_slave 1)
none_awaited p cause s = (by_rows (λ _. ⊥) last_awaited 31 (StateAck 5) refl (omega arith)
    (λ c e _. cc) (λ k h. absurd (let e = h.asks_step in cc)) still_awaited (λ t e h. not_sending t e h.passing) (λ c e _. cc) (λ e. cc) p cause s).1

last_at_last : Last (single 0) (reverse outputs_at_last) (small_slave 1) 6 outputs home sending
unfolding message_in news_of
last_at_last = record { phase = refl; begun = omega arith; job = ([], refl); last = refl }

came : Brings (single 0) (reverse outputs_at_last) (small_slave 1) 0 32
unfolding message_in news_of
came = (data_entry 1 0 7, refl, refl)

not_missing : (k : ℕ) → MissesOutputs (single 0) (reverse outputs_at_last) (small_slave 1) outputs home sending k → ⊥
not_missing k h =
    let e = came_late (single 0) (reverse outputs_at_last) (small_slave 1) outputs home sending k 0 31 (StateAck 5) (change 8 9 7 27 28 Ack) 32 h refl refl refl (omega arith) came in
    omega arith

pub none_at_last : ShowsNothing (single 0) outputs_at_last (small_slave 1)
none_at_last p cause s = (by_rows (λ _. ⊥) last_at_last 31 (StateAck 5) refl (omega arith)
    (λ c e _. cc) (λ k h. absurd (let e = h.asks_step in cc)) not_missing (λ t e h. not_sending t e h.passing) (λ c e _. cc) (λ e. cc) p cause s).1

abbrev later_home : Asking
later_home = question 10 32 33 (StateAck 5)

abbrev later_sending : List Asking
later_sending = change 8 9 7 28 30 Ack ∷ question 8 24 25 (StateAck 7) ∷ []

run_other : IsMasterRun (single 0) other_outputs (reports.Failed 1 6 (DataMissing 0))
unfolding message_in spelling digits news_of request_bytes reaction step
run_other = record { by_rules = refl; reported = refl; in_time = omega arith }

last_other : Last (single 0) (reverse other_outputs) (small_slave 1) 6 outputs later_home later_sending
unfolding message_in news_of
last_other = record { phase = refl; begun = omega arith; job = ([], refl); last = refl }

one_came : places (brings_outputs master (small_slave 1) 0 1) 0 other_outputs ≡ 26 ∷ []
unfolding message_in news_of
one_came = refl

before_phase : (i : ℕ) → 28 < i → IsAmong (26 ∷ []) i → ⊥
before_phase i b (inl e) = omega arith
before_phase i b (inr h) = h

other_here : (i : ℕ) → 28 < i → Brings (single 0) (reverse other_outputs) (small_slave 1) 0 i → ⊥
other_here i b h = before_phase i b (subst (λ ps. IsAmong ps i) one_came (brought_at (single 0) (reverse other_outputs) (small_slave 1) 0 i h))

pub tells_other : TellsCause (single 0) other_outputs (small_slave 1) 6 (DataMissing 0)
tells_other = tells_of run_other (record {
  task = outputs;
  request = later_home;
  earlier = later_sending;
  last = last_other;
  shown = record {
    row = 0;
    row_is = refl;
    step = refl;
    asks_state = refl;
    place = 33;
    state = 5;
    told = refl;
    target = refl;
    turns = omega arith;
    request = change 8 9 7 28 30 Ack;
    request_is = refl;
    missing = λ i b h. absurd (other_here i b h);
  };
})

run_late : IsMasterRun (single 0) late_outputs (reports.Failed 1 6 (DataMissing 0))
unfolding message_in spelling digits news_of request_bytes reaction step
run_late = record { by_rules = refl; reported = refl; in_time = omega arith }

last_late : Last (single 0) (reverse late_outputs) (small_slave 1) 6 outputs home sending
unfolding message_in news_of
last_late = record { phase = refl; begun = omega arith; job = ([], refl); last = refl }

late_came : places (brings_outputs master (small_slave 1) 0 1) 0 late_outputs ≡ 33 ∷ []
unfolding message_in news_of
late_came = refl

after_turn : (i : ℕ) → IsAmong (33 ∷ []) i → 33 ≡ i
after_turn i (inl e) = e
after_turn i (inr h) = absurd h

late_here : (i : ℕ) → Brings (single 0) (reverse late_outputs) (small_slave 1) 0 i → 1 ≤ turns_between master (reverse late_outputs) 31 i
late_here i h =
    let at : 33 ≡ i = after_turn i (subst (λ ps. IsAmong ps i) late_came (brought_at (single 0) (reverse late_outputs) (small_slave 1) 0 i h)) in
    subst (λ i. 1 ≤ turns_between master (reverse late_outputs) 31 i) at (omega arith)

pub tells_late : TellsCause (single 0) late_outputs (small_slave 1) 6 (DataMissing 0)
tells_late = tells_of run_late (record {
  task = outputs;
  request = home;
  earlier = sending;
  last = last_late;
  shown = record {
    row = 0;
    row_is = refl;
    step = refl;
    asks_state = refl;
    place = 31;
    state = 5;
    told = refl;
    target = refl;
    turns = omega arith;
    request = change 8 9 7 27 28 Ack;
    request_is = refl;
    missing = λ i b h. late_here i h;
  };
})

-- ---- without inputs

-- the first step, and the second with this answer
abbrev first_step : Asking
first_step = decided 7 13 (Number 11 ∷ Number 1 ∷ []) 40 41 (Nack 8)

abbrev second_step : ℕ → Asking
second_step code = decided 7 14 (Number 11 ∷ Number 1 ∷ []) 43 44 (Nack code)

abbrev start : Asking
start = question 12 37 38 (StateAck 11)

run_inputs : IsMasterRun (single 1) missing_inputs (reports.Failed 1 8 (InputsMissing 14 1))
unfolding message_in spelling digits news_of request_bytes reaction step
run_inputs = record { by_rules = refl; reported = refl; in_time = omega arith }

last_inputs : Last (single 1) (reverse missing_inputs) (small_slave 1) 8 (tasks.Step 1) (second_step 8) (first_step ∷ start ∷ [])
unfolding message_in news_of
last_inputs = record { phase = refl; begun = omega arith; job = ([], refl); last = refl }

both_missing : (i : ℕ) (a : Asking) → slice_get (second_step 8 ∷ first_step ∷ []) i ≡ Some a → IsMissing a
both_missing zero a e = let same : second_step 8 ≡ a = cc in subst IsMissing same (44, 8, refl, refl)
both_missing (suc zero) a e = let same : first_step ≡ a = cc in subst IsMissing same (41, 8, refl, refl)
both_missing (suc (suc i)) a e = absurd cc

pub tells_inputs : TellsCause (single 1) missing_inputs (small_slave 1) 8 (InputsMissing 14 1)
tells_inputs = tells_of run_inputs (record {
  task = tasks.Step 1;
  request = second_step 8;
  earlier = first_step ∷ start ∷ [];
  last = last_inputs;
  shown = (refl, record { step = refl; asks_step = refl; tries = refl; each = both_missing });
})

same_step : (j k : ℕ) → tasks.Step j ≡ tasks.Step k → j ≡ k
same_step j k e = ap task_step e

is_eight : (c : ℕ) → Nack 8 ≡ Nack c → is_missing c ≡ false → ⊥
is_eight c e f = let n : 8 ≡ c = cc in let g : is_missing 8 ≡ false = subst (λ c. is_missing c ≡ false) (sym n) f in cc

pub only_inputs : ShowsOnly (single 1) missing_inputs (small_slave 1) 8 (InputsMissing 14 1)
only_inputs = by_rows (λ c. c ≡ InputsMissing 14 1) last_inputs 44 (Nack 8) refl (omega arith)
    (λ c e f. absurd (is_eight c e f)) (λ k h. let e : 1 ≡ k = same_step 1 k h.step in cc) (λ k h. absurd (let e = h.row_is in cc)) (λ t e h. cc) (λ c e _. cc) (λ e. cc)

last_once : Last (single 1) (reverse refused_once) (small_slave 1) 8 (tasks.Step 1) first_step (start ∷ [])
unfolding message_in news_of
last_once = record { phase = refl; begun = omega arith; job = ([], refl); last = refl }

once : (k : ℕ) → MissesInputs (single 1) (reverse refused_once) (tasks.Step 1) first_step (start ∷ []) k → ⊥
once k h = let e = h.tries in omega arith

pub none_once : ShowsNothing (single 1) refused_once (small_slave 1)
none_once p cause s = (by_rows (λ _. ⊥) last_once 41 (Nack 8) refl (omega arith)
    (λ c e f. is_eight c e f) once (λ k h. let e = h.row_is in cc) (λ t e h. cc) (λ c e _. cc) (λ e. cc) p cause s).1

run_otherwise : IsMasterRun (single 1) refused_otherwise (reports.Failed 1 8 (Refused 14 14))
unfolding message_in spelling digits news_of request_bytes reaction step
run_otherwise = record { by_rules = refl; reported = refl; in_time = omega arith }

last_otherwise : Last (single 1) (reverse refused_otherwise) (small_slave 1) 8 (tasks.Step 1) (second_step 14) (first_step ∷ start ∷ [])
unfolding message_in news_of
last_otherwise = record { phase = refl; begun = omega arith; job = ([], refl); last = refl }

pub tells_otherwise : TellsCause (single 1) refused_otherwise (small_slave 1) 8 (Refused 14 14)
tells_otherwise = tells_of run_otherwise (record {
  task = tasks.Step 1;
  request = second_step 14;
  earlier = first_step ∷ start ∷ [];
  last = last_otherwise;
  shown = (refl, record { place = 44; told = refl; other = refl });
})

otherwise : (k : ℕ) → MissesInputs (single 1) (reverse refused_otherwise) (tasks.Step 1) (second_step 14) (first_step ∷ start ∷ []) k → ⊥
otherwise k h =
    let m : IsMissing (second_step 14) = h.each 0 (second_step 14) refl in
    let told : Nack 14 ≡ Nack m.1 = one_answer {p = 44} (second_step 14) refl m.2 in
    let n : 14 ≡ m.1 = cc in
    let g : is_missing 14 ≡ true = subst (λ c. is_missing c ≡ true) (sym n) m.3 in cc

pub only_otherwise : ShowsOnly (single 1) refused_otherwise (small_slave 1) 8 (Refused 14 14)
only_otherwise = by_rows (λ c. c ≡ Refused 14 14) last_otherwise 44 (Nack 14) refl (omega arith)
    (λ c e _. cc) (λ k h. absurd (otherwise k h)) (λ k h. absurd (let e = h.row_is in cc)) (λ t e h. cc) (λ c e _. cc) (λ e. cc)
