-- A run of two steps over a bad network.
use Rattle.std.proofs.Common.{◌≡◌, ℕ, zero, suc, ◌+◌, ◌≤◌, true, List, [], ◌∷◌, refl, arith, reverse, subst, inl, inr}
use Rattle.std.specs.List.{list_all}
use Rattle.dcp_types.specs.Values.{digits}
use Rattle.pdu_layout.specs.Reading.{message_in, spelling}
use Rattle.pdu_layout.specs.Fields.FieldValue.{Number}
use Rattle.master_spec.specs.News.{news_of, request_bytes}
use Rattle.master_spec.specs.Conversation.{reaction}
use Rattle.master_spec.specs.Course.{step}
use Rattle.master_spec.specs.Shown.{Last}
use Rattle.master_spec.specs.Exchanged.{Brings, StepExchange, Exchanged, ComesNext, AllExchanged, AreInTurn, in_order}
use Rattle.master_spec.specs.Requests.{Asking, brings_outputs}
use Rattle.master_spec.specs.declared.tasks.Task.TheVariants as tasks
use Rattle.master_spec.specs.declared.causes.Cause.TheVariants.{DataMissing}
use Rattle.master_spec.specs.declared.requests.Answer.TheVariants.{Ack, StateAck}
use Rattle.master_spec.specs.declared.reports.Report.TheVariants as reports
use Rattle.witness_laws.specs.Shown.Ends.{master, single, small_slave, data_entry}
use Rattle.witness_laws.specs.Shown.Logs.{IsMasterRun, TellsCause}
use Rattle.witness_laws.specs.Shown.Rough.{rough_whole, rough_missing}
use Rattle.witness_laws.proofs.Shown.Askings.{decided, question, change}
use Rattle.witness_laws.proofs.Shown.Readings.{only_one, tells_of}
use Rattle.witness_laws.proofs.Shown.Places.{places, IsAmong, brought_at}
use Rattle.witness_laws.proofs.Shown.Alone.{IsAlone, is_behind, alone}

pub run_whole : IsMasterRun (single 2) rough_whole (reports.Finished 2)
unfolding message_in spelling digits news_of request_bytes reaction step
run_whole = record { by_rules = refl; reported = refl; in_time = omega arith }

only : IsAlone (single 2) (small_slave 1)
only t i = only_one (small_slave 1) t i.0 i.1

exchange_1 : StepExchange (single 2) (reverse rough_whole) (small_slave 1) 1 1
unfolding message_in news_of
exchange_1 = record {
  step = decided 7 14 (Number 11 ∷ Number 1 ∷ []) 46 47 Ack;
  stepped = 47;
  computed = question 15 49 50 (StateAck 13);
  told_computed = 50;
  outputs = change 8 16 13 52 54 Ack;
  sent = 54;
  running = question 17 56 57 (StateAck 11);
  told_running = 57;
  came = 53;
  step_is = refl;
  single = refl;
  step_done = refl;
  computed_is = (3, refl, refl);
  computed_done = refl;
  outputs_is = refl;
  outputs_done = refl;
  running_is = (5, refl, refl);
  running_done = refl;
  brought = (data_entry 1 1 8, refl, refl);
  first = omega arith;
  second = omega arith;
  third = omega arith;
  fourth = omega arith;
}

behind_1 : list_all (is_behind 52 57 53) (in_order (single 2) (reverse rough_whole) (small_slave 1)) ≡ true
unfolding message_in news_of
behind_1 = refl

exchanged_1 : Exchanged (single 2) (reverse rough_whole) 1 1
unfolding exchange_1
exchanged_1 = alone (single 2) (reverse rough_whole) (small_slave 1) 1 1 only exchange_1 behind_1

exchange_2 : StepExchange (single 2) (reverse rough_whole) (small_slave 1) 1 2
unfolding message_in news_of
exchange_2 = record {
  step = decided 7 18 (Number 11 ∷ Number 1 ∷ []) 59 60 Ack;
  stepped = 60;
  computed = question 19 62 63 (StateAck 13);
  told_computed = 63;
  outputs = change 8 20 13 65 66 Ack;
  sent = 66;
  running = question 21 68 69 (StateAck 11);
  told_running = 69;
  came = 70;
  step_is = refl;
  single = refl;
  step_done = refl;
  computed_is = (7, refl, refl);
  computed_done = refl;
  outputs_is = refl;
  outputs_done = refl;
  running_is = (9, refl, refl);
  running_done = refl;
  brought = (data_entry 1 2 9, refl, refl);
  first = omega arith;
  second = omega arith;
  third = omega arith;
  fourth = omega arith;
}

behind_2 : list_all (is_behind 65 69 70) (in_order (single 2) (reverse rough_whole) (small_slave 1)) ≡ true
unfolding message_in news_of
behind_2 = refl

exchanged_2 : Exchanged (single 2) (reverse rough_whole) 1 2
unfolding exchange_2
exchanged_2 = alone (single 2) (reverse rough_whole) (small_slave 1) 1 2 only exchange_2 behind_2

exchanged_in : (r k : ℕ) → 1 ≤ r → r ≤ 1 → 1 ≤ k → k ≤ 2 → Exchanged (single 2) (reverse rough_whole) r k
exchanged_in (suc zero) (suc zero) a b c d = exchanged_1
exchanged_in (suc zero) (suc (suc zero)) a b c d = exchanged_2
exchanged_in zero k a b c d = absurd (omega arith)
exchanged_in (suc (suc r)) k a b c d = absurd (omega arith)
exchanged_in (suc zero) zero a b c d = absurd (omega arith)
exchanged_in (suc zero) (suc (suc (suc k))) a b c d = absurd (omega arith)

-- of one run of two steps only the second comes behind the first
one_next : (r k q l : ℕ) → r ≤ 1 → 1 ≤ k → 1 ≤ r → q ≤ 1 → l ≤ 2 → ComesNext 2 r k q l → (q ≡ 1) × (k ≡ 1) × (l ≡ 2)
one_next r k q l a b c d e (inl n) = (omega (arith, n.0), omega (arith, n.1), omega (arith, n.1))
one_next r k q l a b c d e (inr n) = absurd (omega (arith, n.0))

in_turn : (r k q l : ℕ) (a : 1 ≤ r) (b : r ≤ 1) (c : 1 ≤ k) (d : k ≤ 2) (e : 1 ≤ q) (f : q ≤ 1) (g : 1 ≤ l) (h : l ≤ 2) → (q ≡ 1) × (k ≡ 1) × (l ≡ 2)
    → AreInTurn (single 2) (reverse rough_whole) r k q l (exchanged_in r k a b c d) (exchanged_in q l e f g h)
unfolding exchanged_in exchanged_1 exchanged_2 exchange_1 exchange_2
in_turn (suc zero) (suc zero) (suc zero) (suc (suc zero)) a b c d e f g h n = λ s t i j. (omega arith, omega arith)
in_turn zero k q l a b c d e f g h n = absurd (omega arith)
in_turn (suc (suc r)) k q l a b c d e f g h n = absurd (omega arith)
in_turn (suc zero) zero q l a b c d e f g h n = absurd (omega arith)
in_turn (suc zero) (suc (suc k)) q l a b c d e f g h n = absurd (omega (arith, n.1))
in_turn (suc zero) (suc zero) zero l a b c d e f g h n = absurd (omega arith)
in_turn (suc zero) (suc zero) (suc (suc q)) l a b c d e f g h n = absurd (omega arith)
in_turn (suc zero) (suc zero) (suc zero) zero a b c d e f g h n = absurd (omega arith)
in_turn (suc zero) (suc zero) (suc zero) (suc zero) a b c d e f g h n = absurd (omega (arith, n.2))
in_turn (suc zero) (suc zero) (suc zero) (suc (suc (suc l))) a b c d e f g h n = absurd (omega arith)

pub all_rough : AllExchanged (single 2) (reverse rough_whole)
all_rough = record {
  steps = λ x. exchanged_in x.run x.step x.run_is.0 x.run_is.1 x.step_is.0 x.step_is.1;
  in_turn = λ x y n.
      in_turn x.run x.step y.run y.step x.run_is.0 x.run_is.1 x.step_is.0 x.step_is.1 y.run_is.0 y.run_is.1 y.step_is.0 y.step_is.1
      (one_next x.run x.step y.run y.step x.run_is.1 x.step_is.0 x.run_is.0 y.run_is.1 y.step_is.1 n);
  between = λ r a b. absurd (omega arith);
}

-- ---- the outputs of the second step are missing

run_missing : IsMasterRun (single 2) rough_missing (reports.Failed 1 11 (DataMissing 2))
unfolding message_in spelling digits news_of request_bytes reaction step
run_missing = record { by_rules = refl; reported = refl; in_time = omega arith }

abbrev home : Asking
home = question 21 68 69 (StateAck 11)

abbrev sending : List Asking
sending = change 8 20 13 65 66 Ack ∷ question 19 62 63 (StateAck 13) ∷ []

last_missing : Last (single 2) (reverse rough_missing) (small_slave 1) 11 (tasks.Outputs 2 2) home sending
unfolding message_in news_of
last_missing = record { phase = refl; begun = omega arith; job = ([], refl); last = refl }

none_came : places (brings_outputs master (small_slave 1) 2 1) 0 rough_missing ≡ []
unfolding message_in news_of
none_came = refl

none_here : (i : ℕ) → Brings (single 2) (reverse rough_missing) (small_slave 1) 2 i → ⊥
none_here i h = subst (λ ps. IsAmong ps i) none_came (brought_at (single 2) (reverse rough_missing) (small_slave 1) 2 i h)

pub tells_missing : TellsCause (single 2) rough_missing (small_slave 1) 11 (DataMissing 2)
tells_missing = tells_of run_missing (record {
  task = tasks.Outputs 2 2;
  request = home;
  earlier = sending;
  last = last_missing;
  shown = record {
    row = 2;
    row_is = refl;
    step = refl;
    asks_state = refl;
    place = 69;
    state = 11;
    told = refl;
    target = refl;
    turns = omega arith;
    request = change 8 20 13 65 66 Ack;
    request_is = refl;
    missing = λ i b h. absurd (none_here i h);
  };
})
