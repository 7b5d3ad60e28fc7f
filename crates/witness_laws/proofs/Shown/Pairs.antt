-- Two slaves, of which one or both fail.
use Rattle.std.proofs.Common.{◌≡◌, ℕ, zero, suc, ◌<◌, pos, Some, List, [], ◌∷◌, slice_get, refl, arith, reverse, sym, ap, subst}
use Rattle.dcp_types.specs.Values.{digits}
use Rattle.dcp_ends.specs.declared.entries.LogEntry.{LogEntry}
use Rattle.pdu_layout.specs.Reading.{message_in, spelling}
use Rattle.pdu_layout.specs.Fields.{FieldValue}
use Rattle.pdu_layout.specs.Fields.FieldValue.{Number, Signed}
use Rattle.master_spec.specs.News.{news_of, request_bytes}
use Rattle.master_spec.specs.Conversation.{reaction}
use Rattle.master_spec.specs.Course.{step}
use Rattle.master_spec.specs.Shown.{Shown, Last, First}
use Rattle.master_spec.specs.Requests.{Asking}
use Rattle.master_spec.specs.declared.setups.Slave.{Slave}
use Rattle.master_spec.specs.declared.causes.Cause.{Cause}
use Rattle.master_spec.specs.declared.causes.Cause.TheVariants.{NoAnswer, Stuck, Faulted, Unexpected}
use Rattle.master_spec.specs.declared.requests.Answer.TheVariants.{Ack, StateAck, ErrorAck}
use Rattle.master_spec.specs.declared.tasks.Task.TheVariants as tasks
use Rattle.master_spec.specs.declared.reports.Report.TheVariants as reports
use Rattle.witness_laws.specs.Shown.Ends.{pair, small_slave}
use Rattle.witness_laws.specs.Shown.Logs.{IsMasterRun, TellsCause, ShowsNothing}
use Rattle.witness_laws.specs.Shown.Pairs.{both_silent, second_silent, first_faulted, silent_in_setup, fallen_back}
use Rattle.witness_laws.specs.Shown.Together.{pair_adjusted, pair_twice, second_set, silent_in_adjust, silent_in_reset, still_stopped}
use Rattle.witness_laws.proofs.Shown.Askings.{opened, decided, question, change}
use Rattle.witness_laws.proofs.Shown.Readings.{plain}

-- ---- the slaves of lesser numbers

-- none is before the first
none_first : (u t : Slave) (i : ℕ) → u.id ≡ 2 → slice_get (small_slave 1 ∷ u ∷ []) i ≡ Some t → t.id < 1 → ⊥
none_first u t zero two e b = let same : small_slave 1 ≡ t = cc in let id : 1 ≡ t.id = ap (λ (x : Slave). x.id) same in omega arith
none_first u t (suc zero) two e b = let same : u ≡ t = cc in let id : u.id ≡ t.id = ap (λ (x : Slave). x.id) same in omega arith
none_first u t (suc (suc i)) two e b = cc

-- only the first is before the second
only_first : (u t : Slave) (i : ℕ) → u.id ≡ 2 → slice_get (small_slave 1 ∷ u ∷ []) i ≡ Some t → t.id < 2 → small_slave 1 ≡ t
only_first u t zero two e b = cc
only_first u t (suc zero) two e b = let same : u ≡ t = cc in let id : u.id ≡ t.id = ap (λ (x : Slave). x.id) same in absurd (omega arith)
only_first u t (suc (suc i)) two e b = absurd cc

tells_first : {turn_limit watch_turns n : ℕ} {log : List LogEntry} {cause : Cause}
    → IsMasterRun (pair turn_limit watch_turns 0) log (reports.Failed 1 n cause) → Shown (pair turn_limit watch_turns 0) (reverse log) (small_slave 1) n cause
    → TellsCause (pair turn_limit watch_turns 0) log (small_slave 1) n cause
tells_first run shown = record { run = run; first = record { is_in = (0, refl); shown = shown; none_before = λ t i b other _. none_first (small_slave 2) t i.0 refl i.1 b } }

tells_second : {turn_limit watch_turns n : ℕ} {log : List LogEntry} {cause : Cause}
    → IsMasterRun (pair turn_limit watch_turns 0) log (reports.Failed 2 n cause) → Shown (pair turn_limit watch_turns 0) (reverse log) (small_slave 2) n cause
    → ShowsNothing (pair turn_limit watch_turns 0) log (small_slave 1) → TellsCause (pair turn_limit watch_turns 0) log (small_slave 2) n cause
tells_second {turn_limit} {watch_turns} {n} {log} {cause} run shown none = record {
  run = run;
  first = record {
    is_in = (1, refl);
    shown = shown;
    none_before = λ t i b other s. none n other (subst (λ t. Shown (pair turn_limit watch_turns 0) (reverse log) t n other) (sym (only_first (small_slave 2) t i.0 refl i.1 b)) s);
  };
}

-- ---- neither answers

-- what the first request to a slave holds
abbrev identity : ℕ → List FieldValue
identity s = Number 0 ∷ Number s ∷ Number 2 ∷ Number 1 ∷ Number 0 ∷ []

run_both : IsMasterRun (pair 1 2 0) both_silent (reports.Failed 1 1 (NoAnswer 0))
unfolding message_in spelling digits news_of request_bytes reaction step
run_both = record { by_rules = refl; reported = refl; in_time = omega arith }

last_one : Last (pair 1 2 0) (reverse both_silent) (small_slave 1) 1 (tasks.Register 1) (opened 1 0 (identity 1) 1) []
unfolding message_in news_of
last_one = record { phase = refl; begun = omega arith; job = ([], refl); last = refl }

last_two : Last (pair 1 2 0) (reverse both_silent) (small_slave 2) 1 (tasks.Register 2) (opened 1 0 (identity 2) 2) []
unfolding message_in news_of
last_two = record { phase = refl; begun = omega arith; job = ([], refl); last = refl }

shown_one : Shown (pair 1 2 0) (reverse both_silent) (small_slave 1) 1 (NoAnswer 0)
shown_one = record {
  task = tasks.Register 1;
  request = opened 1 0 (identity 1) 1;
  earlier = [];
  last = last_one;
  shown = (refl, record { often = refl; spaced = tt; turns = omega arith; late = tt });
}

pub shown_two : Shown (pair 1 2 0) (reverse both_silent) (small_slave 2) 1 (NoAnswer 0)
shown_two = record {
  task = tasks.Register 2;
  request = opened 1 0 (identity 2) 2;
  earlier = [];
  last = last_two;
  shown = (refl, record { often = refl; spaced = tt; turns = omega arith; late = tt });
}

pub tells_both : TellsCause (pair 1 2 0) both_silent (small_slave 1) 1 (NoAnswer 0)
tells_both = tells_first run_both shown_one

pub not_second : First (pair 1 2 0) (reverse both_silent) (small_slave 2) 1 (NoAnswer 0) → ⊥
not_second f = f.none_before (small_slave 1) (0, refl) (omega arith) (NoAnswer 0) shown_one

-- ---- the second does not answer

run_second : IsMasterRun (pair 1 2 0) second_silent (reports.Failed 2 1 (NoAnswer 0))
unfolding message_in spelling digits news_of request_bytes reaction step
run_second = record { by_rules = refl; reported = refl; in_time = omega arith }

last_passed : Last (pair 1 2 0) (reverse second_silent) (small_slave 1) 1 (tasks.Register 1) (question 1 4 5 (StateAck 1)) (decided 1 0 (identity 1) 1 3 Ack ∷ [])
unfolding message_in news_of
last_passed = record { phase = refl; begun = omega arith; job = ([], refl); last = refl }

pub none_passed : ShowsNothing (pair 1 2 0) second_silent (small_slave 1)
none_passed p cause s = (plain (λ _. ⊥) last_passed 5 (StateAck 1) refl (omega arith) refl refl refl (λ c e. cc) (λ c e _. cc) (λ e. cc) p cause s).1

last_silent : Last (pair 1 2 0) (reverse second_silent) (small_slave 2) 1 (tasks.Register 2) (opened 1 0 (identity 2) 2) []
unfolding message_in news_of
last_silent = record { phase = refl; begun = omega arith; job = ([], refl); last = refl }

pub tells_silent : TellsCause (pair 1 2 0) second_silent (small_slave 2) 1 (NoAnswer 0)
tells_silent = tells_second run_second (record {
  task = tasks.Register 2;
  request = opened 1 0 (identity 2) 2;
  earlier = [];
  last = last_silent;
  shown = (refl, record { often = refl; spaced = tt; turns = omega arith; late = tt });
}) none_passed

-- ---- the first tells a fault

run_faulted : IsMasterRun (pair 1 1 0) first_faulted (reports.Failed 1 1 (Faulted 3 35))
unfolding message_in spelling digits news_of request_bytes reaction step
run_faulted = record { by_rules = refl; reported = refl; in_time = omega arith }

abbrev asked : List Asking
asked = question 2 7 8 (StateAck 18) ∷ question 1 4 5 (StateAck 1) ∷ decided 1 0 (identity 1) 1 3 Ack ∷ []

last_faulted : Last (pair 1 1 0) (reverse first_faulted) (small_slave 1) 1 (tasks.Register 1) (decided 129 3 [] 9 10 (ErrorAck 35)) asked
unfolding message_in news_of
last_faulted = record { phase = refl; begun = omega arith; job = ([], refl); last = refl }

pub tells_faulted : TellsCause (pair 1 1 0) first_faulted (small_slave 1) 1 (Faulted 3 35)
tells_faulted = tells_first run_faulted (record {
  task = tasks.Register 1;
  request = decided 129 3 [] 9 10 (ErrorAck 35);
  earlier = asked;
  last = last_faulted;
  shown = (
    refl,
    record {
      asks_error = refl;
      place = 10;
      told = refl;
      question = question 2 7 8 (StateAck 18);
      before = (question 1 4 5 (StateAck 1) ∷ decided 1 0 (identity 1) 1 3 Ack ∷ [], refl);
      asked_state = refl;
      state = 18;
      at = 8;
      named = refl;
      error = refl;
    },
  );
})

last_other : Last (pair 1 1 0) (reverse first_faulted) (small_slave 2) 1 (tasks.Register 2) (opened 1 0 (identity 2) 2) []
unfolding message_in news_of
last_other = record { phase = refl; begun = omega arith; job = ([], refl); last = refl }

pub shown_other : Shown (pair 1 1 0) (reverse first_faulted) (small_slave 2) 1 (NoAnswer 0)
shown_other = record {
  task = tasks.Register 2;
  request = opened 1 0 (identity 2) 2;
  earlier = [];
  last = last_other;
  shown = (refl, record { often = refl; spaced = tt; turns = omega arith; late = tt });
}

-- ---- the second is silent while it is configured

run_setup : IsMasterRun (pair 3 1 0) silent_in_setup (reports.Failed 2 2 (NoAnswer 2))
unfolding message_in spelling digits news_of request_bytes reaction step
run_setup = record { by_rules = refl; reported = refl; in_time = omega arith }

last_setup : (e : List Asking) × Last (pair 3 1 0) (reverse silent_in_setup) (small_slave 1) 2 tasks.Setup (question 5 20 21 (StateAck 1)) e
unfolding message_in news_of
last_setup = (question 4 17 18 (StateAck 1) ∷ question 3 14 15 (StateAck 1) ∷ decided 36 2 [] 10 12 Ack ∷ question 1 4 5 (StateAck 1) ∷ [], record { phase = refl; begun = omega arith; job = (_, refl); last = refl })

pub none_setup : ShowsNothing (pair 3 1 0) silent_in_setup (small_slave 1)
none_setup p cause s = (plain (λ _. ⊥) last_setup.1 21 (StateAck 1) refl (omega arith) refl refl refl (λ c e. cc) (λ c e _. cc) (λ e. cc) p cause s).1

last_cleared : Last (pair 3 1 0) (reverse silent_in_setup) (small_slave 2) 2 tasks.Setup (opened 36 2 [] 11) (question 1 7 8 (StateAck 1) ∷ [])
unfolding message_in news_of
last_cleared = record { phase = refl; begun = omega arith; job = (_, refl); last = refl }

pub tells_setup : TellsCause (pair 3 1 0) silent_in_setup (small_slave 2) 2 (NoAnswer 2)
tells_setup = tells_second run_setup (record {
  task = tasks.Setup;
  request = opened 36 2 [] 11;
  earlier = question 1 7 8 (StateAck 1) ∷ [];
  last = last_cleared;
  shown = (refl, record { often = refl; spaced = tt; turns = omega arith; late = tt });
}) none_setup

-- ---- the first falls back

run_back : IsMasterRun (pair 3 1 0) fallen_back (reports.Failed 1 3 (Unexpected 5 178 2))
unfolding message_in spelling digits news_of request_bytes reaction step
run_back = record { by_rules = refl; reported = refl; in_time = omega arith }

abbrev went : List Asking
went = question 4 19 20 (StateAck 3) ∷ change 3 3 1 15 17 Ack ∷ []

last_back : Last (pair 3 1 0) (reverse fallen_back) (small_slave 1) 3 tasks.Prepare (question 5 22 23 (StateAck 2)) went
unfolding message_in news_of
last_back = record { phase = refl; begun = omega arith; job = ([], refl); last = refl }

pub tells_back : TellsCause (pair 3 1 0) fallen_back (small_slave 1) 3 (Unexpected 5 178 2)
tells_back = tells_first run_back (record {
  task = tasks.Prepare;
  request = question 5 22 23 (StateAck 2);
  earlier = went;
  last = last_back;
  shown = (refl, record { place = 23; answer = StateAck 2; told = refl; type_is = refl; state_is = refl; unfit = refl });
})

pub stuck_too : Shown (pair 3 1 0) (reverse fallen_back) (small_slave 1) 3 (Stuck 5 2)
stuck_too = record {
  task = tasks.Prepare;
  request = question 5 22 23 (StateAck 2);
  earlier = went;
  last = last_back;
  shown = (
    refl,
    record {
      asks_state = refl;
      place = 23;
      told = refl;
      passing = refl;
      request = change 3 3 1 15 17 Ack;
      request_is = refl;
      acked = 17;
      request_done = refl;
      late = omega arith;
    },
  );
}

-- ---- the second is silent while it is reset

run_reset : IsMasterRun pair_twice silent_in_reset (reports.Failed 2 9 (NoAnswer 15))
unfolding message_in spelling digits news_of request_bytes reaction step
run_reset = record { by_rules = refl; reported = refl; in_time = omega arith }

abbrev told_so_far : List Asking
told_so_far = question 18 86 87 (StateAck 1) ∷ question 17 83 84 (StateAck 1) ∷ question 16 80 81 (StateAck 1) ∷ change 10 15 16 77 79 Ack ∷ question 14 72 74 (StateAck 16) ∷ []

last_reset : Last pair_twice (reverse silent_in_reset) (small_slave 1) 9 tasks.Reset (question 19 89 90 (StateAck 1)) told_so_far
unfolding message_in news_of
last_reset = record { phase = refl; begun = omega arith; job = ([], refl); last = refl }

pub none_in_reset : ShowsNothing pair_twice silent_in_reset (small_slave 1)
none_in_reset p cause s = (plain (λ _. ⊥) last_reset 90 (StateAck 1) refl (omega arith) refl refl refl (λ c e. cc) (λ c e _. cc) (λ e. cc) p cause s).1

last_unreset : Last pair_twice (reverse silent_in_reset) (small_slave 2) 9 tasks.Reset (opened 10 15 (Number 16 ∷ []) 78) (question 14 73 75 (StateAck 16) ∷ [])
unfolding message_in news_of
last_unreset = record { phase = refl; begun = omega arith; job = ([], refl); last = refl }

pub tells_reset : TellsCause pair_twice silent_in_reset (small_slave 2) 9 (NoAnswer 15)
tells_reset = record {
  run = run_reset;
  first = record {
    is_in = (1, refl);
    shown = record {
      task = tasks.Reset;
      request = opened 10 15 (Number 16 ∷ []) 78;
      earlier = question 14 73 75 (StateAck 16) ∷ [];
      last = last_unreset;
      shown = (refl, record { often = refl; spaced = tt; turns = omega arith; late = tt });
    };
    none_before = λ t i b other s. none_in_reset 9 other (subst (λ t. Shown pair_twice (reverse silent_in_reset) t 9 other) (sym (only_first (small_slave 2) t i.0 refl i.1 b)) s);
  };
}

-- ---- the second is silent while a parameter is set

run_stopped : IsMasterRun pair_adjusted still_stopped (reports.Failed 1 10 (Unexpected 17 178 16))
unfolding message_in spelling digits news_of request_bytes reaction step
run_stopped = record { by_rules = refl; reported = refl; in_time = omega arith }

last_stopped : Last pair_adjusted (reverse still_stopped) (small_slave 1) 10 tasks.Adjust (question 17 88 89 (StateAck 16)) (question 16 80 81 (StateAck 1) ∷ [])
unfolding message_in news_of
last_stopped = record { phase = refl; begun = omega arith; job = ([], refl); last = refl }

pub tells_stopped : TellsCause pair_adjusted still_stopped (small_slave 1) 10 (Unexpected 17 178 16)
tells_stopped = record {
  run = run_stopped;
  first = record {
    is_in = (0, refl);
    shown = record {
      task = tasks.Adjust;
      request = question 17 88 89 (StateAck 16);
      earlier = question 16 80 81 (StateAck 1) ∷ [];
      last = last_stopped;
      shown = (refl, record { place = 89; answer = StateAck 16; told = refl; type_is = refl; state_is = refl; unfit = refl });
    };
    none_before = λ t i b other s. none_first second_set t i.0 refl i.1 b;
  };
}

run_adjust : IsMasterRun pair_adjusted silent_in_adjust (reports.Failed 2 10 (NoAnswer 17))
unfolding message_in spelling digits news_of request_bytes reaction step
run_adjust = record { by_rules = refl; reported = refl; in_time = omega arith }

abbrev beats : List Asking
beats = question 18 91 92 (StateAck 1) ∷ question 17 88 89 (StateAck 1) ∷ question 16 80 81 (StateAck 1) ∷ []

last_beat : Last pair_adjusted (reverse silent_in_adjust) (small_slave 1) 10 tasks.Adjust (question 19 94 95 (StateAck 1)) beats
unfolding message_in news_of
last_beat = record { phase = refl; begun = omega arith; job = ([], refl); last = refl }

pub none_in_adjust : ShowsNothing pair_adjusted silent_in_adjust (small_slave 1)
none_in_adjust p cause s = (plain (λ _. ⊥) last_beat 95 (StateAck 1) refl (omega arith) refl refl refl (λ c e. cc) (λ c e _. cc) (λ e. cc) p cause s).1

abbrev adjusting : Asking
adjusting = opened 39 17 (Number 0 ∷ Number 7 ∷ Signed (pos 5) ∷ []) 86

last_adjust : Last pair_adjusted (reverse silent_in_adjust) second_set 10 tasks.Adjust adjusting (question 16 83 84 (StateAck 1) ∷ [])
unfolding message_in news_of
last_adjust = record { phase = refl; begun = omega arith; job = (_, refl); last = refl }

pub tells_adjust : TellsCause pair_adjusted silent_in_adjust second_set 10 (NoAnswer 17)
tells_adjust = record {
  run = run_adjust;
  first = record {
    is_in = (1, refl);
    shown = record {
      task = tasks.Adjust;
      request = adjusting;
      earlier = question 16 83 84 (StateAck 1) ∷ [];
      last = last_adjust;
      shown = (refl, record { often = refl; spaced = tt; turns = omega arith; late = tt });
    };
    none_before = λ t i b other s. none_in_adjust 10 other (subst (λ t. Shown pair_adjusted (reverse silent_in_adjust) t 10 other) (sym (only_first second_set t i.0 refl i.1 b)) s);
  };
}
