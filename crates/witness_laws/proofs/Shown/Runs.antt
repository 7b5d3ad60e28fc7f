-- Two runs of one registration.
use Rattle.std.proofs.Common.{◌≡◌, ℕ, zero, suc, ◌+◌, ◌<◌, ◌≤◌, true, Some, None, List, [], ◌∷◌, refl, arith, reverse, sym, ap, ◌∙◌, inl, inr, ◌&&◌, subst}
use Rattle.std.specs.List.{list_all}
use Rattle.dcp_types.specs.Values.{digits}
use Rattle.dcp_ends.specs.declared.entries.LogEntry.{LogEntry}
use Rattle.pdu_layout.specs.Reading.{message_in, spelling}
use Rattle.pdu_layout.specs.Fields.FieldValue.{Number}
use Rattle.master_spec.specs.News.{news_of, request_bytes}
use Rattle.master_spec.specs.Conversation.{reaction}
use Rattle.master_spec.specs.Course.{step}
use Rattle.master_spec.specs.Exchanged.{IsIn, IsDecided, Brings, StepExchange, Exchanged, StepOfRun, ComesNext, AllExchanged, AreInTurn, IsBetween, in_order, in_run, nth_of}
use Rattle.master_spec.specs.Requests.{brings_outputs, Asking, is_prepare, is_step, is_stop, is_reset, is_acked}
use Rattle.master_spec.specs.declared.requests.Answer.TheVariants.{Ack, Nack, StateAck}
use Rattle.master_spec.specs.declared.reports.Report.TheVariants as reports
use Rattle.master_spec.specs.declared.setups.Slave.{Slave}
use Rattle.witness_laws.specs.Shown.Ends.{master, set_between, twice, data_entry}
use Rattle.witness_laws.specs.Shown.Logs.{IsMasterRun, TellsCause}
use Rattle.witness_laws.specs.Shown.Runs.{old_outputs, NotAllExchanged, NotBetween, two_runs, not_reset, reset_refused, prepared_too_early, reset_at_first, overlapping}
use Rattle.witness_laws.proofs.Shown.Askings.{decided, question, change}
use Rattle.witness_laws.proofs.Shown.Readings.{none_below, only_one, one_answer, one_place}
use Rattle.witness_laws.proofs.Shown.Places.{places, IsAmong, brought_at}
use Rattle.master_spec.specs.Shown.{Last}
use Rattle.master_spec.specs.declared.tasks.Task.{Task}
use Rattle.master_spec.specs.declared.tasks.Task.TheVariants as tasks
use Rattle.master_spec.specs.declared.causes.Cause.TheVariants.{DataMissing}
use Rattle.witness_laws.proofs.Shown.Alone.{IsAlone, is_behind, alone}

pub run_twice : IsMasterRun twice two_runs (reports.Finished 1)
unfolding message_in spelling digits news_of request_bytes reaction step
run_twice = record { by_rules = refl; reported = refl; in_time = omega arith }

only : IsAlone twice set_between
only t i = only_one set_between t i.0 i.1

-- ---- the first run

abbrev stepped_1 : Asking
stepped_1 = decided 7 13 (Number 11 ∷ Number 1 ∷ []) 40 41 Ack

abbrev computed_1 : Asking
computed_1 = question 14 43 44 (StateAck 13)

abbrev asked_1 : Asking
asked_1 = change 8 15 13 46 47 Ack

abbrev running_1 : Asking
running_1 = question 16 50 51 (StateAck 11)

exchange_1 : StepExchange twice (reverse two_runs) set_between 1 1
unfolding message_in news_of
exchange_1 = record {
  step = stepped_1;
  stepped = 41;
  computed = computed_1;
  told_computed = 44;
  outputs = asked_1;
  sent = 47;
  running = running_1;
  told_running = 51;
  came = 48;
  step_is = refl;
  single = refl;
  step_done = refl;
  computed_is = (2, refl, refl);
  computed_done = refl;
  outputs_is = refl;
  outputs_done = refl;
  running_is = (4, refl, refl);
  running_done = refl;
  brought = (data_entry 1 1 8, refl, refl);
  first = omega arith;
  second = omega arith;
  third = omega arith;
  fourth = omega arith;
}

behind_1 : list_all (is_behind 46 51 48) (in_order twice (reverse two_runs) set_between) ≡ true
unfolding message_in news_of
behind_1 = refl

exchanged_1 : Exchanged twice (reverse two_runs) 1 1
unfolding exchange_1
exchanged_1 = alone twice (reverse two_runs) set_between 1 1 only exchange_1 behind_1

-- ---- the second run

abbrev stepped_2 : Asking
stepped_2 = decided 7 32 (Number 11 ∷ Number 1 ∷ []) 98 99 Ack

abbrev computed_2 : Asking
computed_2 = question 33 101 102 (StateAck 13)

abbrev asked_2 : Asking
asked_2 = change 8 34 13 104 105 Ack

abbrev running_2 : Asking
running_2 = question 35 108 109 (StateAck 11)

exchange_2 : StepExchange twice (reverse two_runs) set_between 2 1
unfolding message_in news_of
exchange_2 = record {
  step = stepped_2;
  stepped = 99;
  computed = computed_2;
  told_computed = 102;
  outputs = asked_2;
  sent = 105;
  running = running_2;
  told_running = 109;
  came = 106;
  step_is = refl;
  single = refl;
  step_done = refl;
  computed_is = (2, refl, refl);
  computed_done = refl;
  outputs_is = refl;
  outputs_done = refl;
  running_is = (4, refl, refl);
  running_done = refl;
  brought = (data_entry 1 3 8, refl, refl);
  first = omega arith;
  second = omega arith;
  third = omega arith;
  fourth = omega arith;
}

behind_2 : list_all (is_behind 104 109 106) (in_order twice (reverse two_runs) set_between) ≡ true
unfolding message_in news_of
behind_2 = refl

exchanged_2 : Exchanged twice (reverse two_runs) 2 1
unfolding exchange_2
exchanged_2 = alone twice (reverse two_runs) set_between 2 1 only exchange_2 behind_2

-- ---- between the runs

abbrev stop : Asking
stop = change 9 17 11 53 54 Ack

abbrev reset : Asking
reset = change 10 19 16 59 60 Ack

stops : nth_of is_stop 1 (in_run twice (reverse two_runs) set_between 1) ≡ Some stop
unfolding message_in news_of
stops = refl

resets : nth_of is_reset 1 (in_run twice (reverse two_runs) set_between 1) ≡ Some reset
unfolding message_in news_of
resets = refl

prepares : nth_of is_prepare 1 (in_run twice (reverse two_runs) set_between 1) ≡ Some (change 3 22 1 67 68 Ack)
unfolding message_in news_of
prepares = refl

prepared_behind : (t : Slave) → IsIn twice t → (a : Asking) → nth_of is_prepare 1 (in_run twice (reverse two_runs) t 1) ≡ Some a → 60 < a.first
prepared_behind t i a e =
    let here = subst (λ s. nth_of is_prepare 1 (in_run twice (reverse two_runs) s 1) ≡ Some (change 3 22 1 67 68 Ack)) (only_one set_between t i.0 i.1) prepares in
    let both : Some (change 3 22 1 67 68 Ack) ≡ Some a = sym here ∙ e in
    let same : change 3 22 1 67 68 Ack ≡ a = cc in
    subst (λ a. 60 < a.first) same (omega arith)

between_runs : IsBetween twice (reverse two_runs) 1
between_runs = record {
  stop = λ s. stop;
  reset = λ s. reset;
  stopped = λ s. 54;
  done = λ s. 60;
  stop_is = λ s i. subst (λ s. nth_of is_stop 1 (in_run twice (reverse two_runs) s 1) ≡ Some stop) (only_one set_between s i.0 i.1) stops;
  stop_done = λ s i. refl;
  reset_is = λ s i. subst (λ s. nth_of is_reset 1 (in_run twice (reverse two_runs) s 1) ≡ Some reset) (only_one set_between s i.0 i.1) resets;
  reset_done = λ s i. refl;
  after = λ s i. omega arith;
  before = λ s t i j a e. prepared_behind t j a e;
}

exchanged_in : (r k : ℕ) → 1 ≤ r → r ≤ 2 → 1 ≤ k → k ≤ 1 → Exchanged twice (reverse two_runs) r k
exchanged_in (suc zero) (suc zero) a b c d = exchanged_1
exchanged_in (suc (suc zero)) (suc zero) a b c d = exchanged_2
exchanged_in zero k a b c d = absurd (omega arith)
exchanged_in (suc (suc (suc r))) k a b c d = absurd (omega arith)
exchanged_in (suc r) zero a b c d = absurd (omega arith)
exchanged_in (suc r) (suc (suc k)) a b c d = absurd (omega arith)

between_in : (r : ℕ) → 1 ≤ r → r < 2 → IsBetween twice (reverse two_runs) r
between_in r a b = let one : 1 ≡ r = omega arith in subst (IsBetween twice (reverse two_runs)) one between_runs

-- of two runs of one step only that of the second run comes behind that of the first
one_next : (r k q l : ℕ) → 1 ≤ r → 1 ≤ k → q ≤ 2 → l ≤ 1 → ComesNext 1 r k q l → (r ≡ 1) × (k ≡ 1) × (q ≡ 2) × (l ≡ 1)
one_next r k q l a b c d (inl n) = absurd (omega (arith, n.1))
one_next r k q l a b c d (inr n) = (omega (arith, n.0, c, a), n.1, omega (arith, n.0, c, a), n.2)

in_turn : (r k q l : ℕ) (a : 1 ≤ r) (b : r ≤ 2) (c : 1 ≤ k) (d : k ≤ 1) (e : 1 ≤ q) (f : q ≤ 2) (g : 1 ≤ l) (h : l ≤ 1) → (r ≡ 1) × (k ≡ 1) × (q ≡ 2) × (l ≡ 1)
    → AreInTurn twice (reverse two_runs) r k q l (exchanged_in r k a b c d) (exchanged_in q l e f g h)
unfolding exchanged_in exchanged_1 exchanged_2 exchange_1 exchange_2
in_turn (suc zero) (suc zero) (suc (suc zero)) (suc zero) a b c d e f g h n = λ s t i j. (omega arith, omega arith)
in_turn zero k q l a b c d e f g h n = absurd (omega arith)
in_turn (suc (suc r)) k q l a b c d e f g h n = absurd (omega (arith, n.0))
in_turn (suc zero) zero q l a b c d e f g h n = absurd (omega arith)
in_turn (suc zero) (suc (suc k)) q l a b c d e f g h n = absurd (omega arith)
in_turn (suc zero) (suc zero) zero l a b c d e f g h n = absurd (omega arith)
in_turn (suc zero) (suc zero) (suc zero) l a b c d e f g h n = absurd (omega (arith, n.2))
in_turn (suc zero) (suc zero) (suc (suc (suc q))) l a b c d e f g h n = absurd (omega arith)
in_turn (suc zero) (suc zero) (suc (suc zero)) zero a b c d e f g h n = absurd (omega arith)
in_turn (suc zero) (suc zero) (suc (suc zero)) (suc (suc l)) a b c d e f g h n = absurd (omega arith)

pub all_twice : AllExchanged twice (reverse two_runs)
all_twice = record {
  steps = λ x. exchanged_in x.run x.step x.run_is.0 x.run_is.1 x.step_is.0 x.step_is.1;
  in_turn = λ x y n.
      in_turn x.run x.step y.run y.step x.run_is.0 x.run_is.1 x.step_is.0 x.step_is.1 y.run_is.0 y.run_is.1 y.step_is.0 y.step_is.1
      (one_next x.run x.step y.run y.step x.run_is.0 x.step_is.0 y.run_is.1 y.step_is.1 n);
  between = between_in;
}

-- ---- runs that lack a reset

the_between : (log : List LogEntry) → AllExchanged twice (reverse log) → IsBetween twice (reverse log) 1
the_between log x = x.between 1 (omega arith) (omega arith)

none_reset : nth_of is_reset 1 (in_run twice (reverse not_reset) set_between 1) ≡ None
unfolding message_in news_of
none_reset = refl

pub not_reset_not : NotAllExchanged not_reset
not_reset_not x =
    let b = the_between not_reset x in
    let e : None ≡ Some (b.reset set_between) = sym none_reset ∙ b.reset_is set_between (0, refl) in cc

reset_and_refused : nth_of is_reset 1 (in_run twice (reverse reset_refused) set_between 1) ≡ Some (change 10 19 16 59 60 (Nack 2))
unfolding message_in news_of
reset_and_refused = refl

pub refused_not : NotAllExchanged reset_refused
refused_not x =
    let b = the_between reset_refused x in
    let e : Some (change 10 19 16 59 60 (Nack 2)) ≡ Some (b.reset set_between) = sym reset_and_refused ∙ b.reset_is set_between (0, refl) in
    let same : change 10 19 16 59 60 (Nack 2) ≡ b.reset set_between = cc in
    let told : Nack 2 ≡ Ack = one_answer (b.reset set_between) (subst (λ a. IsDecided a 60 (Nack 2)) same refl) (b.reset_done set_between (0, refl)) in cc

reset_at_last : nth_of is_reset 1 (in_run twice (reverse prepared_too_early) set_between 1) ≡ Some (change 10 35 16 109 110 Ack)
unfolding message_in news_of
reset_at_last = refl

prepared_before : nth_of is_prepare 1 (in_run twice (reverse prepared_too_early) set_between 1) ≡ Some (change 3 19 1 59 60 Ack)
unfolding message_in news_of
prepared_before = refl

pub too_early_not : NotAllExchanged prepared_too_early
too_early_not x =
    let b = the_between prepared_too_early x in
    let e : Some (change 10 35 16 109 110 Ack) ≡ Some (b.reset set_between) = sym reset_at_last ∙ b.reset_is set_between (0, refl) in
    let same : change 10 35 16 109 110 Ack ≡ b.reset set_between = cc in
    let place : 110 ≡ b.done set_between = one_place (b.reset set_between) (subst (λ a. IsDecided a 110 Ack) same refl) (b.reset_done set_between (0, refl)) in
    let order = b.before set_between set_between (0, refl) (0, refl) (change 3 19 1 59 60 Ack) prepared_before in
    omega arith

none_stops : nth_of is_stop 1 (in_run twice (reverse reset_at_first) set_between 1) ≡ None
unfolding message_in news_of
none_stops = refl

pub at_first_not : NotBetween reset_at_first
at_first_not b = let e : None ≡ Some (b.stop set_between) = sym none_stops ∙ b.stop_is set_between (0, refl) in cc

-- ---- runs that overlap

second_step : nth_of (λ a. is_step a && is_acked a) 1 (in_run twice (reverse overlapping) set_between 2) ≡ Some (decided 7 4 (Number 11 ∷ Number 1 ∷ []) 8 9 Ack)
unfolding message_in news_of
second_step = refl

came_once : places (brings_outputs master set_between 1 1) 0 overlapping ≡ 14 ∷ []
unfolding message_in news_of
came_once = refl

came_at : (i : ℕ) → IsAmong (14 ∷ []) i → 14 ≡ i
came_at i (inl e) = e
came_at i (inr h) = absurd h

not_in_turn : (e : StepExchange twice (reverse overlapping) set_between 1 1) (f : StepExchange twice (reverse overlapping) set_between 2 1) → e.came < f.step.first → ⊥
not_in_turn e f order =
    let here = brought_at twice (reverse overlapping) set_between 1 e.came e.brought in
    let came : 14 ≡ e.came = came_at e.came (subst (λ ps. IsAmong ps e.came) came_once here) in
    let both : Some (decided 7 4 (Number 11 ∷ Number 1 ∷ []) 8 9 Ack) ≡ Some f.step = sym second_step ∙ f.step_is in
    let same : decided 7 4 (Number 11 ∷ Number 1 ∷ []) 8 9 Ack ≡ f.step = cc in
    let asked : 8 ≡ f.step.first = ap (λ (a : Asking). a.first) same in
    omega arith

pub overlapping_not : NotAllExchanged overlapping
overlapping_not x =
    let a : 1 ≤ 1 = omega arith in
    let b : 1 ≤ 2 = omega arith in
    let t : 2 ≤ 2 = omega arith in
    let i : IsIn twice set_between = (0, refl) in
    let first : StepOfRun twice = record { run = 1; step = 1; run_is = (a, b); step_is = (a, a) } in
    let second : StepOfRun twice = record { run = 2; step = 1; run_is = (b, t); step_is = (a, a) } in
    not_in_turn ((x.steps first).each set_between i) ((x.steps second).each set_between i) (x.in_turn first second (inr (refl, refl, refl)) set_between set_between i i).1

-- ---- outputs of the first run in the second

run_old : IsMasterRun twice old_outputs (reports.Failed 1 16 (DataMissing 0))
unfolding message_in spelling digits news_of request_bytes reaction step
run_old = record { by_rules = refl; reported = refl; in_time = omega arith }

abbrev home : Asking
home = question 29 89 90 (StateAck 5)

abbrev sending : List Asking
sending = change 8 28 7 85 86 Ack ∷ question 27 82 83 (StateAck 7) ∷ []

abbrev outputs : Task
outputs = tasks.FirstOutputs 2

last_old : Last twice (reverse old_outputs) set_between 16 outputs home sending
unfolding message_in news_of
last_old = record { phase = refl; begun = omega arith; job = ([], refl); last = refl }

none_came : places (brings_outputs master set_between 2 1) 0 old_outputs ≡ []
unfolding message_in news_of
none_came = refl

none_here : (i : ℕ) → Brings twice (reverse old_outputs) set_between 2 i → ⊥
none_here i h = subst (λ ps. IsAmong ps i) none_came (brought_at twice (reverse old_outputs) set_between 2 i h)

pub tells_old : TellsCause twice old_outputs set_between 16 (DataMissing 0)
tells_old = record {
  run = run_old;
  first = record {
    is_in = (0, refl);
    shown = record {
      task = outputs;
      request = home;
      earlier = sending;
      last = last_old;
      shown = record {
        row = 2;
        row_is = refl;
        step = refl;
        asks_state = refl;
        place = 90;
        state = 5;
        told = refl;
        target = refl;
        turns = omega arith;
        request = change 8 28 7 85 86 Ack;
        request_is = refl;
        missing = λ i b h. absurd (none_here i h);
      };
    };
    none_before = λ t i b other _. none_below set_between t i.0 i.1 b;
  };
}
