-- Steps that are not exchanged, since one thing is not there.
use Rattle.std.proofs.Common.{◌≡◌, ℕ, ◌+◌, ◌<◌, ◌≤◌, ◌==◌, ◌&&◌, nat_lt, Bool, true, false, IsTrue, Option, Some, None, List, [], ◌∷◌, refl, arith, reverse, sym, ap, ◌∙◌, subst, slice_get, inl, inr}
use Rattle.std.specs.List.{list_any}
use Rattle.std.proofs.lemmas.Bool.Decides.{nat_tests}
use Rattle.dcp_ends.specs.declared.entries.LogEntry.{LogEntry}
use Rattle.pdu_layout.specs.Reading.{message_in}
use Rattle.pdu_layout.specs.Fields.FieldValue.{Number}
use Rattle.master_spec.specs.News.{news_of}
use Rattle.master_spec.specs.Exchanged.{IsDecided, StepExchange, Exchanged, in_order, in_run, nth_of}
use Rattle.master_spec.specs.Requests.{Asking, Decision, is_step, is_outputs, is_acked, is_state_question, is_single, brings_outputs}
use Rattle.master_spec.specs.declared.requests.Answer.{Answer}
use Rattle.master_spec.specs.declared.requests.Answer.TheVariants.{Ack, Nack, StateAck}
use Rattle.witness_laws.specs.Shown.Ends.{single, small_slave, master}
use Rattle.witness_laws.specs.Shown.Whole.{NotExchanged, only_noticed, asked_too_early, early_values, late_values, not_running, outputs_refused, two_at_once}
use Rattle.witness_laws.proofs.Shown.Askings.{decided, change}
use Rattle.witness_laws.proofs.Shown.Readings.{one_answer, one_place}
use Rattle.witness_laws.proofs.Shown.Lists.{none_passes}
use Rattle.witness_laws.proofs.Shown.Places.{places, IsAmong, brought_at}

-- the requests to the slave after its start
abbrev after_start : List LogEntry → List Asking
after_start log = in_run (single 1) (reverse log) (small_slave 1) 1

abbrev the_exchange : (log : List LogEntry) → Exchanged (single 1) (reverse log) 1 1 → StepExchange (single 1) (reverse log) (small_slave 1) 1 1
the_exchange log x = x.each (small_slave 1) (0, refl)

-- a question for the state, first sent behind a place, that named this state before another
abbrev pub answer_names : ℕ → Answer → Bool
answer_names state (StateAck s) = s == state
answer_names state _ = false

abbrev pub told_by : (state limit : ℕ) → Option Decision → Bool
told_by state limit None = false
told_by state limit (Some d) = answer_names state d.answer && nat_lt d.place limit

abbrev pub tells : (state behind limit : ℕ) → Asking → Bool
tells state behind limit a = is_state_question a && (told_by state limit a.decision && nat_lt behind (a.first + 1))

pub it_tells : (state behind limit place : ℕ) (a : Asking) → IsTrue (is_state_question a) → IsDecided a place (StateAck state)
    → place < limit → behind ≤ a.first → tells state behind limit a ≡ true
it_tells state behind limit place a asks d soon late =
    let here : told_by state limit (Some (record { place = place; answer = StateAck state })) ≡ true = grind (arith, nat_tests) in
    let told : told_by state limit a.decision ≡ true = ap (told_by state limit) d ∙ here in
    grind (arith, nat_tests)

-- no question named COMPUTED before the outputs were asked for
none_computed : (log : List LogEntry) (a : Asking) → nth_of is_outputs 1 (after_start log) ≡ Some a
    → list_any (tells 13 0 a.first) (after_start log) ≡ false → NotExchanged log
none_computed log a outputs none x =
    let e = the_exchange log x in
    let found : Some e.outputs ≡ Some a = sym e.outputs_is ∙ outputs in
    let same : e.outputs ≡ a = cc in
    let soon : e.told_computed < a.first = subst (λ a. e.told_computed < a.first) same e.second in
    none_passes (tells 13 0 a.first) (after_start log) e.computed_is.0 e.computed none e.computed_is.1
    (it_tells 13 0 a.first e.told_computed e.computed e.computed_is.2 e.computed_done soon (omega arith))

asked_noticed : nth_of is_outputs 1 (after_start only_noticed) ≡ Some (change 8 14 13 44 45 Ack)
unfolding message_in news_of
asked_noticed = refl

none_noticed : list_any (tells 13 0 44) (after_start only_noticed) ≡ false
unfolding message_in news_of
none_noticed = refl

pub noticed_not : NotExchanged only_noticed
noticed_not = none_computed only_noticed (change 8 14 13 44 45 Ack) asked_noticed none_noticed

asked_early : nth_of is_outputs 1 (after_start asked_too_early) ≡ Some (change 8 14 13 43 44 Ack)
unfolding message_in news_of
asked_early = refl

none_early : list_any (tells 13 0 43) (after_start asked_too_early) ≡ false
unfolding message_in news_of
none_early = refl

pub early_not : NotExchanged asked_too_early
early_not = none_computed asked_too_early (change 8 14 13 43 44 Ack) asked_early none_early

-- ---- values

-- the values of the step stand at one place
came_at : (log : List LogEntry) (p : ℕ) → places (brings_outputs master (small_slave 1) 1 1) 0 (reverse (reverse log)) ≡ p ∷ []
    → (e : StepExchange (single 1) (reverse log) (small_slave 1) 1 1) → e.came ≡ p
came_at log p places_are e = the_one (subst (λ ps. IsAmong ps e.came) places_are (brought_at (single 1) (reverse log) (small_slave 1) 1 e.came e.brought))
  where
    the_one : IsAmong (p ∷ []) e.came → e.came ≡ p
    the_one (inl h) = sym h
    the_one (inr h) = absurd h

values_early : places (brings_outputs master (small_slave 1) 1 1) 0 early_values ≡ 42 ∷ []
unfolding message_in news_of
values_early = refl

none_before_values : list_any (tells 13 0 42) (after_start early_values) ≡ false
unfolding message_in news_of
none_before_values = refl

pub early_values_not : NotExchanged early_values
early_values_not x =
    let e = the_exchange early_values x in
    let soon : e.told_computed < 42 = subst (λ n. e.told_computed < n) (came_at early_values 42 values_early e) e.fourth in
    none_passes (tells 13 0 42) (after_start early_values) e.computed_is.0 e.computed none_before_values e.computed_is.1
    (it_tells 13 0 42 e.told_computed e.computed e.computed_is.2 e.computed_done soon (omega arith))

values_late : places (brings_outputs master (small_slave 1) 1 1) 0 late_values ≡ 53 ∷ []
unfolding message_in news_of
values_late = refl

asked_late : nth_of is_outputs 1 (after_start late_values) ≡ Some (change 8 15 13 46 47 Ack)
unfolding message_in news_of
asked_late = refl

abbrev stop : Asking
stop = change 9 17 11 52 54 Ack

stop_late : slice_get (in_order (single 1) (reverse late_values) (small_slave 1)) 17 ≡ Some stop
unfolding message_in news_of
stop_late = refl

pub late_values_not : NotExchanged late_values
late_values_not x =
    let e = the_exchange late_values x in
    let found : Some e.outputs ≡ Some (change 8 15 13 46 47 Ack) = sym e.outputs_is ∙ asked_late in
    let same : change 8 15 13 46 47 Ack ≡ e.outputs = cc in
    let behind : e.outputs.first < 52 = subst (λ a. a.first < 52) same (omega arith) in
    let ended = x.sent (small_slave 1) (small_slave 1) (0, refl) (0, refl) stop 17 stop_late refl behind in
    let came : e.came ≡ 53 = came_at late_values 53 values_late e in
    let soon = ended.1 in
    omega arith

-- ---- answers

-- after the outputs were sent no answer named RUNNING
asked_not_running : nth_of is_outputs 1 (after_start not_running) ≡ Some (change 8 15 13 46 47 Ack)
unfolding message_in news_of
asked_not_running = refl

none_running : list_any (tells 11 47 100) (after_start not_running) ≡ false
unfolding message_in news_of
none_running = refl

stop_not_running : slice_get (in_order (single 1) (reverse not_running) (small_slave 1)) 17 ≡ Some (change 9 17 11 53 54 Ack)
unfolding message_in news_of
stop_not_running = refl

pub not_running_not : NotExchanged not_running
not_running_not x =
    let e = the_exchange not_running x in
    let found : Some e.outputs ≡ Some (change 8 15 13 46 47 Ack) = sym e.outputs_is ∙ asked_not_running in
    let same : change 8 15 13 46 47 Ack ≡ e.outputs = cc in
    let sent : e.sent ≡ 47 = one_place e.outputs e.outputs_done (subst (λ a. IsDecided a 47 Ack) same refl) in
    let behind : e.outputs.first < 53 = subst (λ a. a.first < 53) same (omega arith) in
    let ended = x.sent (small_slave 1) (small_slave 1) (0, refl) (0, refl) (change 9 17 11 53 54 Ack) 17 stop_not_running refl behind in
    let soon = ended.0 in
    let third = e.third in
    none_passes (tells 11 47 100) (after_start not_running) e.running_is.0 e.running none_running e.running_is.1
    (it_tells 11 47 100 e.told_running e.running e.running_is.2 e.running_done (omega arith) (omega arith))

asked_refused : nth_of is_outputs 1 (after_start outputs_refused) ≡ Some (change 8 15 13 46 47 (Nack 2))
unfolding message_in news_of
asked_refused = refl

pub refused_not : NotExchanged outputs_refused
refused_not x =
    let e = the_exchange outputs_refused x in
    let found : Some e.outputs ≡ Some (change 8 15 13 46 47 (Nack 2)) = sym e.outputs_is ∙ asked_refused in
    let same : change 8 15 13 46 47 (Nack 2) ≡ e.outputs = cc in
    let told : Nack 2 ≡ Ack = one_answer e.outputs (subst (λ a. IsDecided a 47 (Nack 2)) same refl) e.outputs_done in
    cc

abbrev two_steps : Asking
two_steps = decided 7 13 (Number 11 ∷ Number 2 ∷ []) 40 41 Ack

stepped_twice : nth_of (λ a. is_step a && is_acked a) 1 (after_start two_at_once) ≡ Some two_steps
unfolding message_in news_of
stepped_twice = refl

pub two_not : NotExchanged two_at_once
two_not x =
    let e = the_exchange two_at_once x in
    let found : Some e.step ≡ Some two_steps = sym e.step_is ∙ stepped_twice in
    let same : e.step ≡ two_steps = cc in
    let single : is_single two_steps ≡ true = subst (λ a. is_single a ≡ true) same e.single in
    cc
