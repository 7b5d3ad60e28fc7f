-- Steps that are exchanged.
use Rattle.std.proofs.Common.{◌≡◌, ℕ, ◌≤◌, true, [], ◌∷◌, refl, arith, reverse, subst, inl, inr}
use Rattle.std.specs.List.{list_all}
use Rattle.dcp_types.specs.Values.{digits}
use Rattle.pdu_layout.specs.Reading.{message_in, spelling}
use Rattle.pdu_layout.specs.Fields.FieldValue.{Number}
use Rattle.master_spec.specs.News.{news_of, request_bytes}
use Rattle.master_spec.specs.Conversation.{reaction}
use Rattle.master_spec.specs.Course.{step}
use Rattle.master_spec.specs.Exchanged.{StepExchange, Exchanged, StepOfRun, ComesNext, AllExchanged, in_order}
use Rattle.master_spec.specs.Requests.{Asking}
use Rattle.master_spec.specs.declared.requests.Answer.TheVariants.{Ack, StateAck}
use Rattle.master_spec.specs.declared.reports.Report.TheVariants as reports
use Rattle.witness_laws.specs.Shown.Ends.{single, small_slave, data_entry}
use Rattle.witness_laws.specs.Shown.Logs.{IsMasterRun}
use Rattle.witness_laws.specs.Shown.Whole.{whole}
use Rattle.witness_laws.proofs.Shown.Askings.{decided, question, change}
use Rattle.witness_laws.proofs.Shown.Readings.{only_one}
use Rattle.witness_laws.proofs.Shown.Alone.{IsAlone, is_behind, alone}

pub run_whole : IsMasterRun (single 1) whole (reports.Finished 1)
unfolding message_in spelling digits news_of request_bytes reaction step
run_whole = record { by_rules = refl; reported = refl; in_time = omega arith }

abbrev stepped : Asking
stepped = decided 7 13 (Number 11 ∷ Number 1 ∷ []) 40 41 Ack

abbrev computed : Asking
computed = question 14 43 44 (StateAck 13)

abbrev asked : Asking
asked = change 8 15 13 46 47 Ack

abbrev running : Asking
running = question 16 50 51 (StateAck 11)

exchange : StepExchange (single 1) (reverse whole) (small_slave 1) 1 1
unfolding message_in news_of
exchange = record {
  step = stepped;
  stepped = 41;
  computed = computed;
  told_computed = 44;
  outputs = asked;
  sent = 47;
  running = running;
  told_running = 51;
  came = 48;
  step_is = refl;
  single = refl;
  step_done = refl;
  computed_is = (2, refl, refl);
  computed_done = refl;
  outputs_is = refl;
  outputs_done = refl;
  running_is = (4, refl, refl);
  running_done = refl;
  brought = (data_entry 1 1 8, refl, refl);
  first = omega arith;
  second = omega arith;
  third = omega arith;
  fourth = omega arith;
}

-- after the outputs no step or stop comes before the end of the exchange
behind : list_all (is_behind 46 51 48) (in_order (single 1) (reverse whole) (small_slave 1)) ≡ true
unfolding message_in news_of
behind = refl

only : IsAlone (single 1) (small_slave 1)
only t i = only_one (small_slave 1) t i.0 i.1

exchanged : Exchanged (single 1) (reverse whole) 1 1
unfolding exchange
exchanged = alone (single 1) (reverse whole) (small_slave 1) 1 1 only exchange behind

none_next : (x y : StepOfRun (single 1)) → ComesNext 1 x.run x.step y.run y.step → ⊥
none_next x y (inl n) = let a = x.step_is in let b = y.step_is in omega (arith, a.0, b.1, n.1)
none_next x y (inr n) = let a = x.run_is in let b = y.run_is in omega (arith, a.0, b.1, n.0)

pub all_exchanged : AllExchanged (single 1) (reverse whole)
all_exchanged = record {
  steps = λ x. subst (λ r. Exchanged (single 1) (reverse whole) r x.step) (one x.run x.run_is.0 x.run_is.1) (subst (λ k. Exchanged (single 1) (reverse whole) 1 k) (one x.step x.step_is.0 x.step_is.1) exchanged);
  in_turn = λ x y n. absurd (none_next x y n);
  between = λ r a b. absurd (omega arith);
}
  where
    one : (n : ℕ) → 1 ≤ n → n ≤ 1 → 1 ≡ n
    one n a b = omega arith
