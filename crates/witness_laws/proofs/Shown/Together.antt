-- Two slaves that exchange one step.
use Rattle.std.proofs.Common.{◌≡◌, ℕ, zero, suc, ◌<◌, ◌≤◌, ◌&&◌, ◌||◌, not, nat_lt, Bool, true, false, IsTrue, inl, inr, Some, None, List, [], ◌∷◌, refl, arith, reverse, sym, ◌∙◌, subst, slice_get}
use Rattle.std.specs.List.{list_all, list_any}
use Rattle.std.proofs.lemmas.Bool.Decides.{nat_tests}
use Rattle.dcp_types.specs.Values.{digits}
use Rattle.pdu_layout.specs.Reading.{message_in, spelling}
use Rattle.pdu_layout.specs.Fields.FieldValue.{Number}
use Rattle.master_spec.specs.News.{news_of, request_bytes}
use Rattle.master_spec.specs.Conversation.{reaction}
use Rattle.master_spec.specs.Course.{step}
use Rattle.master_spec.specs.Exchanged.{StepExchange, Exchanged, StepOfRun, ComesNext, AllExchanged, in_order, in_run, nth_of}
use Rattle.master_spec.specs.Requests.{Asking, brings_outputs, is_step, is_stop, is_outputs}
use Rattle.master_spec.specs.declared.requests.Answer.TheVariants.{Ack, StateAck}
use Rattle.master_spec.specs.declared.reports.Report.TheVariants as reports
use Rattle.master_spec.specs.declared.setups.Slave.{Slave}
use Rattle.witness_laws.specs.Shown.Ends.{master, small_slave, pair, data_entry}
use Rattle.witness_laws.specs.Shown.Logs.{IsMasterRun}
use Rattle.witness_laws.specs.Shown.Together.{NotTogether, together, one_ahead, one_behind}
use Rattle.witness_laws.proofs.Shown.Askings.{opened, decided, question, change}
use Rattle.witness_laws.proofs.Shown.Alone.{moved}
use Rattle.witness_laws.proofs.Shown.Lists.{each_passes, none_passes}
use Rattle.witness_laws.proofs.Shown.Places.{places, IsAmong, brought_at}
use Rattle.witness_laws.proofs.Shown.Unexchanged.{tells, it_tells}

pub run_together : IsMasterRun (pair 3 1 1) together (reports.Finished 1)
unfolding message_in spelling digits news_of request_bytes reaction step
run_together = record { by_rules = refl; reported = refl; in_time = omega arith }

-- a step or a stop after the outputs comes after all has come
abbrev is_behind : ℕ → Asking → Bool
is_behind p a = not ((is_step a || is_stop a) && nat_lt p a.first) || nat_lt 87 a.first

behind : (p : ℕ) (a : Asking) → is_behind p a ≡ true → IsTrue (is_step a || is_stop a) → p < a.first → 87 < a.first
behind p a h k b = grind (arith, nat_tests)

-- ---- the first

abbrev stepped_1 : Asking
stepped_1 = decided 7 13 (Number 11 ∷ Number 1 ∷ []) 67 69 Ack

abbrev computed_1 : Asking
computed_1 = question 14 72 74 (StateAck 13)

abbrev asked_1 : Asking
asked_1 = change 8 15 13 77 79 Ack

abbrev running_1 : Asking
running_1 = question 16 84 86 (StateAck 11)

-- the exchange of the first
there_1 : StepExchange (pair 3 1 1) (reverse together) (small_slave 1) 1 1
unfolding message_in news_of
there_1 = record {
  step = stepped_1;
  stepped = 69;
  computed = computed_1;
  told_computed = 74;
  outputs = asked_1;
  sent = 79;
  running = running_1;
  told_running = 86;
  came = 81;
  step_is = refl;
  single = refl;
  step_done = refl;
  computed_is = (2, refl, refl);
  computed_done = refl;
  outputs_is = refl;
  outputs_done = refl;
  running_is = (4, refl, refl);
  running_done = refl;
  brought = (data_entry 1 1 7, refl, refl);
  first = omega arith;
  second = omega arith;
  third = omega arith;
  fourth = omega arith;
}

all_behind_1 : list_all (is_behind 77) (in_order (pair 3 1 1) (reverse together) (small_slave 1)) ≡ true
unfolding message_in news_of
all_behind_1 = refl

-- ---- the second

abbrev stepped_2 : Asking
stepped_2 = decided 7 13 (Number 11 ∷ Number 1 ∷ []) 68 70 Ack

abbrev computed_2 : Asking
computed_2 = question 14 73 75 (StateAck 13)

abbrev asked_2 : Asking
asked_2 = change 8 15 13 78 80 Ack

abbrev running_2 : Asking
running_2 = question 16 85 87 (StateAck 11)

-- the exchange of the second
there_2 : StepExchange (pair 3 1 1) (reverse together) (small_slave 2) 1 1
unfolding message_in news_of
there_2 = record {
  step = stepped_2;
  stepped = 70;
  computed = computed_2;
  told_computed = 75;
  outputs = asked_2;
  sent = 80;
  running = running_2;
  told_running = 87;
  came = 82;
  step_is = refl;
  single = refl;
  step_done = refl;
  computed_is = (2, refl, refl);
  computed_done = refl;
  outputs_is = refl;
  outputs_done = refl;
  running_is = (4, refl, refl);
  running_done = refl;
  brought = (data_entry 2 1 7, refl, refl);
  first = omega arith;
  second = omega arith;
  third = omega arith;
  fourth = omega arith;
}

all_behind_2 : list_all (is_behind 78) (in_order (pair 3 1 1) (reverse together) (small_slave 2)) ≡ true
unfolding message_in news_of
all_behind_2 = refl

-- ---- both

is_1 : (s : Slave) → Some (small_slave 1) ≡ Some s → small_slave 1 ≡ s
is_1 s e = cc

is_2 : (s : Slave) → Some (small_slave 2) ≡ Some s → small_slave 2 ≡ s
is_2 s e = cc

none_there : (s : Slave) → None ≡ Some s → ⊥
none_there s e = cc

abbrev exchange : (s : Slave) (i : ℕ) → slice_get (small_slave 1 ∷ small_slave 2 ∷ []) i ≡ Some s → StepExchange (pair 3 1 1) (reverse together) s 1 1
exchange s zero e = moved (small_slave 1) s (is_1 s e) there_1
exchange s (suc zero) e = moved (small_slave 2) s (is_2 s e) there_2
exchange s (suc (suc i)) e = absurd (none_there s e)

computed_before : (s t : Slave) (i : ℕ) (e : slice_get (small_slave 1 ∷ small_slave 2 ∷ []) i ≡ Some s) (j : ℕ) (f : slice_get (small_slave 1 ∷ small_slave 2 ∷ []) j ≡ Some t)
    → (exchange s i e).told_computed < (exchange t j f).outputs.first
unfolding there_1 there_2
computed_before s t zero e zero f = omega arith
computed_before s t zero e (suc zero) f = omega arith
computed_before s t (suc zero) e zero f = omega arith
computed_before s t (suc zero) e (suc zero) f = omega arith
computed_before s t (suc (suc i)) e j f = absurd (none_there s e)
computed_before s t zero e (suc (suc j)) f = absurd (none_there t f)
computed_before s t (suc zero) e (suc (suc j)) f = absurd (none_there t f)

later : (t : Slave) (j : ℕ) (f : slice_get (small_slave 1 ∷ small_slave 2 ∷ []) j ≡ Some t) (a : Asking) (n : ℕ)
    → slice_get (in_order (pair 3 1 1) (reverse together) t) n ≡ Some a → IsTrue (is_step a || is_stop a) → (exchange t j f).outputs.first < a.first → 87 < a.first
unfolding there_1 there_2
later t zero f a n e k b =
    let here = subst (λ s. list_all (is_behind 77) (in_order (pair 3 1 1) (reverse together) s) ≡ true) (is_1 t f) all_behind_1 in
    behind 77 a (each_passes (is_behind 77) (in_order (pair 3 1 1) (reverse together) t) n a here e) k b
later t (suc zero) f a n e k b =
    let here = subst (λ s. list_all (is_behind 78) (in_order (pair 3 1 1) (reverse together) s) ≡ true) (is_2 t f) all_behind_2 in
    behind 78 a (each_passes (is_behind 78) (in_order (pair 3 1 1) (reverse together) t) n a here e) k b
later t (suc (suc j)) f a n e k b = absurd (none_there t f)

ended : (s : Slave) (i : ℕ) (e : slice_get (small_slave 1 ∷ small_slave 2 ∷ []) i ≡ Some s) (m : ℕ) → 87 < m → ((exchange s i e).told_running < m) × ((exchange s i e).came < m)
unfolding there_1 there_2
ended s zero e m b = (omega arith, omega arith)
ended s (suc zero) e m b = (omega arith, omega arith)
ended s (suc (suc i)) e m b = absurd (none_there s e)

exchanged : Exchanged (pair 3 1 1) (reverse together) 1 1
exchanged = record {
  each = λ s i. exchange s i.0 i.1;
  computed = λ s t i j. computed_before s t i.0 i.1 j.0 j.1;
  sent = λ s t i j a n e k b. ended s i.0 i.1 a.first (later t j.0 j.1 a n e k b);
}

none_next : (x y : StepOfRun (pair 3 1 1)) → ComesNext 1 x.run x.step y.run y.step → ⊥
none_next x y (inl n) = let a = x.step_is in let b = y.step_is in omega (arith, a.0, b.1, n.1)
none_next x y (inr n) = let a = x.run_is in let b = y.run_is in omega (arith, a.0, b.1, n.0)

pub all_together : AllExchanged (pair 3 1 1) (reverse together)
all_together = record {
  steps = λ x. subst (λ r. Exchanged (pair 3 1 1) (reverse together) r x.step) (one x.run x.run_is.0 x.run_is.1) (subst (λ k. Exchanged (pair 3 1 1) (reverse together) 1 k) (one x.step x.step_is.0 x.step_is.1) exchanged);
  in_turn = λ x y n. absurd (none_next x y n);
  between = λ r a b. absurd (omega arith);
}
  where
    one : (n : ℕ) → 1 ≤ n → n ≤ 1 → 1 ≡ n
    one n a b = omega arith

-- ---- one ahead of the other

-- the requests to the second after its start
abbrev to_second : List Asking
to_second = in_run (pair 3 1 1) (reverse one_ahead) (small_slave 2) 1

asked_ahead : nth_of is_outputs 1 (in_run (pair 3 1 1) (reverse one_ahead) (small_slave 1) 1) ≡ Some (change 8 15 13 75 78 Ack)
unfolding message_in news_of
asked_ahead = refl

none_computed : list_any (tells 13 0 75) to_second ≡ false
unfolding message_in news_of
none_computed = refl

pub ahead_not : NotTogether one_ahead
ahead_not x =
    let e = x.each (small_slave 2) (1, refl) in
    let o = x.each (small_slave 1) (0, refl) in
    let found : Some o.outputs ≡ Some (change 8 15 13 75 78 Ack) = sym o.outputs_is ∙ asked_ahead in
    let same : o.outputs ≡ change 8 15 13 75 78 Ack = cc in
    let soon : e.told_computed < 75 = subst (λ a. e.told_computed < a.first) same (x.computed (small_slave 2) (small_slave 1) (1, refl) (0, refl)) in
    none_passes (tells 13 0 75) to_second e.computed_is.0 e.computed none_computed e.computed_is.1
    (it_tells 13 0 75 e.told_computed e.computed e.computed_is.2 e.computed_done soon (omega arith))

asked_behind : nth_of is_outputs 1 (in_run (pair 3 1 1) (reverse one_behind) (small_slave 1) 1) ≡ Some (change 8 15 13 77 79 Ack)
unfolding message_in news_of
asked_behind = refl

stop_behind : slice_get (in_order (pair 3 1 1) (reverse one_behind) (small_slave 1)) 17 ≡ Some (opened 9 17 (Number 11 ∷ []) 88)
unfolding message_in news_of
stop_behind = refl

values_behind : places (brings_outputs master (small_slave 2) 1 1) 0 (reverse (reverse one_behind)) ≡ 89 ∷ []
unfolding message_in news_of
values_behind = refl

the_one : (i : ℕ) → IsAmong (89 ∷ []) i → i ≡ 89
the_one i (inl e) = sym e
the_one i (inr h) = absurd h

pub behind_not : NotTogether one_behind
behind_not x =
    let e = x.each (small_slave 2) (1, refl) in
    let o = x.each (small_slave 1) (0, refl) in
    let found : Some o.outputs ≡ Some (change 8 15 13 77 79 Ack) = sym o.outputs_is ∙ asked_behind in
    let same : change 8 15 13 77 79 Ack ≡ o.outputs = cc in
    let sooner : o.outputs.first < 88 = subst (λ a. a.first < 88) same (omega arith) in
    let all = x.sent (small_slave 2) (small_slave 1) (1, refl) (0, refl) (opened 9 17 (Number 11 ∷ []) 88) 17 stop_behind refl sooner in
    let came : e.came ≡ 89 = the_one e.came (subst (λ ps. IsAmong ps e.came) values_behind (brought_at (pair 3 1 1) (reverse one_behind) (small_slave 2) 1 e.came e.brought)) in
    let soon = all.1 in
    omega arith
