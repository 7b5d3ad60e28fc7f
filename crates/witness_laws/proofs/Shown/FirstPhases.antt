-- The first request and the questions after it.
use Rattle.std.proofs.Common.{◌≡◌, ℕ, ◌≤◌, List, [], ◌∷◌, refl, arith, reverse, sym, ◌∙◌, subst, true}
use Rattle.dcp_types.specs.Values.{digits}
use Rattle.dcp_ends.specs.declared.entries.LogEntry.{LogEntry}
use Rattle.pdu_layout.specs.Reading.{message_in, spelling}
use Rattle.pdu_layout.specs.Fields.FieldValue.{Number}
use Rattle.master_spec.specs.News.{news_of, request_bytes}
use Rattle.master_spec.specs.Conversation.{reaction, is_error}
use Rattle.master_spec.specs.Course.{step}
use Rattle.master_spec.specs.Shown.{Last, IsFaulted, last_phase}
use Rattle.master_spec.specs.Exchanged.{IsDecided}
use Rattle.master_spec.specs.Requests.{Asking}
use Rattle.master_spec.specs.declared.causes.Cause.TheVariants.{Refused, Faulted, Unexpected}
use Rattle.master_spec.specs.declared.requests.Answer.{Answer}
use Rattle.master_spec.specs.declared.requests.Answer.TheVariants.{Ack, Nack, StateAck, ErrorAck, LogAck}
use Rattle.master_spec.specs.declared.tasks.Task.{Task}
use Rattle.master_spec.specs.declared.tasks.Task.TheVariants as tasks
use Rattle.master_spec.specs.declared.reports.Report.TheVariants as reports
use Rattle.witness_laws.specs.Shown.Ends.{single, small_slave}
use Rattle.witness_laws.specs.Shown.Logs.{IsMasterRun, TellsCause, ShowsOnly, ShowsNothing}
use Rattle.witness_laws.specs.Shown.FirstPhase.{refusing, refused_other, refused_as_other, refused_from_other, refused_second, refused_before, log_for_log, state_for_change, log_for_change, other_state, ack_for_state, state_for_error, right_state, faulted, fault_not_told, no_error_state}
use Rattle.witness_laws.proofs.Shown.Askings.{opened, decided, identity, question}
use Rattle.witness_laws.proofs.Shown.Readings.{one_answer, still_open, plain, tells_of}

abbrev task : Task
task = tasks.Register 1

abbrev IsLast : List LogEntry → Asking → List Asking → Type 0
IsLast log r earlier = Last (single 0) (reverse log) (small_slave 1) 1 task r earlier

-- the first request, with its answer right behind it
abbrev register : Answer → Asking
register answer = decided 1 0 identity 1 2 answer

-- ---- refusals

run_refusing : IsMasterRun (single 0) refusing (reports.Failed 1 1 (Refused 0 10))
unfolding message_in spelling digits news_of request_bytes reaction step
run_refusing = record { by_rules = refl; reported = refl; in_time = omega arith }

last_refusing : IsLast refusing (register (Nack 10)) []
unfolding message_in news_of
last_refusing = record { phase = refl; begun = omega arith; job = ([], refl); last = refl }

pub tells_refusing : TellsCause (single 0) refusing (small_slave 1) 1 (Refused 0 10)
tells_refusing = tells_of run_refusing
    (record { task = task; request = register (Nack 10); earlier = []; last = last_refusing; shown = (refl, record { place = 2; told = refl; other = refl }) })

pub only_refusing : ShowsOnly (single 0) refusing (small_slave 1) 1 (Refused 0 10)
only_refusing = plain (λ c. c ≡ Refused 0 10) last_refusing 2 (Nack 10) refl (omega arith) refl refl refl (λ c e. cc) (λ c e _. cc) (λ e. cc)

abbrev asked : Asking
asked = opened 1 0 identity 1

last_other : IsLast refused_other asked []
unfolding message_in news_of
last_other = record { phase = refl; begun = omega arith; job = ([], refl); last = refl }

pub none_other : ShowsNothing (single 0) refused_other (small_slave 1)
none_other = still_open last_other refl refl (λ h. let e = h.turns in omega arith)

last_as_other : IsLast refused_as_other asked []
unfolding message_in news_of
last_as_other = record { phase = refl; begun = omega arith; job = ([], refl); last = refl }

pub none_as_other : ShowsNothing (single 0) refused_as_other (small_slave 1)
none_as_other = still_open last_as_other refl refl (λ h. let e = h.turns in omega arith)

last_from_other : IsLast refused_from_other asked []
unfolding message_in news_of
last_from_other = record { phase = refl; begun = omega arith; job = ([], refl); last = refl }

pub none_from_other : ShowsNothing (single 0) refused_from_other (small_slave 1)
none_from_other = still_open last_from_other refl refl (λ h. let e = h.turns in omega arith)

last_second : IsLast refused_second (opened 128 1 [] 3) (register Ack ∷ [])
unfolding message_in news_of
last_second = record { phase = refl; begun = omega arith; job = ([], refl); last = refl }

pub none_second : ShowsNothing (single 0) refused_second (small_slave 1)
none_second = still_open last_second refl refl (λ h. let e = h.turns in omega arith)

no_phase : last_phase (single 0) (reverse refused_before) ≡ 0
unfolding message_in news_of
no_phase = refl

pub none_before : ShowsNothing (single 0) refused_before (small_slave 1)
none_before p cause s =
    let some : 1 ≤ p = s.last.begun in
    let none : p ≡ 0 = s.last.phase ∙ no_phase in
    absurd (omega arith)

-- ---- answers that do not fit

run_state : IsMasterRun (single 0) state_for_change (reports.Failed 1 1 (Unexpected 0 178 0))
unfolding message_in spelling digits news_of request_bytes reaction step
run_state = record { by_rules = refl; reported = refl; in_time = omega arith }

last_state : IsLast state_for_change (register (StateAck 0)) []
unfolding message_in news_of
last_state = record { phase = refl; begun = omega arith; job = ([], refl); last = refl }

pub tells_state : TellsCause (single 0) state_for_change (small_slave 1) 1 (Unexpected 0 178 0)
tells_state = tells_of run_state (record {
  task = task;
  request = register (StateAck 0);
  earlier = [];
  last = last_state;
  shown = (refl, record { place = 2; answer = StateAck 0; told = refl; type_is = refl; state_is = refl; unfit = refl });
})

pub only_state : ShowsOnly (single 0) state_for_change (small_slave 1) 1 (Unexpected 0 178 0)
only_state = plain (λ c. c ≡ Unexpected 0 178 0) last_state 2 (StateAck 0) refl (omega arith) refl refl refl (λ c e. cc) (λ c e _. cc) (λ e. refl)

run_log : IsMasterRun (single 0) log_for_change (reports.Failed 1 1 (Unexpected 0 180 255))
unfolding message_in spelling digits news_of request_bytes reaction step
run_log = record { by_rules = refl; reported = refl; in_time = omega arith }

last_log : IsLast log_for_change (register LogAck) []
unfolding message_in news_of
last_log = record { phase = refl; begun = omega arith; job = ([], refl); last = refl }

pub tells_log : TellsCause (single 0) log_for_change (small_slave 1) 1 (Unexpected 0 180 255)
tells_log = tells_of run_log (record {
  task = task;
  request = register LogAck;
  earlier = [];
  last = last_log;
  shown = (refl, record { place = 2; answer = LogAck; told = refl; type_is = refl; state_is = refl; unfit = refl });
})

pub only_log : ShowsOnly (single 0) log_for_change (small_slave 1) 1 (Unexpected 0 180 255)
only_log = plain (λ c. c ≡ Unexpected 0 180 255) last_log 2 LogAck refl (omega arith) refl refl refl (λ c e. cc) (λ c e _. cc) (λ e. refl)

run_other_state : IsMasterRun (single 0) other_state (reports.Failed 1 1 (Unexpected 1 178 0))
unfolding message_in spelling digits news_of request_bytes reaction step
run_other_state = record { by_rules = refl; reported = refl; in_time = omega arith }

last_other_state : IsLast other_state (question 1 3 4 (StateAck 0)) (register Ack ∷ [])
unfolding message_in news_of
last_other_state = record { phase = refl; begun = omega arith; job = ([], refl); last = refl }

pub tells_other_state : TellsCause (single 0) other_state (small_slave 1) 1 (Unexpected 1 178 0)
tells_other_state = tells_of run_other_state (record {
  task = task;
  request = question 1 3 4 (StateAck 0);
  earlier = register Ack ∷ [];
  last = last_other_state;
  shown = (refl, record { place = 4; answer = StateAck 0; told = refl; type_is = refl; state_is = refl; unfit = refl });
})

pub only_other_state : ShowsOnly (single 0) other_state (small_slave 1) 1 (Unexpected 1 178 0)
only_other_state = plain (λ c. c ≡ Unexpected 1 178 0) last_other_state 4 (StateAck 0) refl (omega arith) refl refl refl (λ c e. cc) (λ c e _. cc) (λ e. refl)

run_ack : IsMasterRun (single 0) ack_for_state (reports.Failed 1 1 (Unexpected 1 176 255))
unfolding message_in spelling digits news_of request_bytes reaction step
run_ack = record { by_rules = refl; reported = refl; in_time = omega arith }

last_ack : IsLast ack_for_state (question 1 3 4 Ack) (register Ack ∷ [])
unfolding message_in news_of
last_ack = record { phase = refl; begun = omega arith; job = ([], refl); last = refl }

pub tells_ack : TellsCause (single 0) ack_for_state (small_slave 1) 1 (Unexpected 1 176 255)
tells_ack = tells_of run_ack (record {
  task = task;
  request = question 1 3 4 Ack;
  earlier = register Ack ∷ [];
  last = last_ack;
  shown = (refl, record { place = 4; answer = Ack; told = refl; type_is = refl; state_is = refl; unfit = refl });
})

pub only_ack : ShowsOnly (single 0) ack_for_state (small_slave 1) 1 (Unexpected 1 176 255)
only_ack = plain (λ c. c ≡ Unexpected 1 176 255) last_ack 4 Ack refl (omega arith) refl refl refl (λ c e. cc) (λ c e _. cc) (λ e. refl)

last_right : IsLast right_state (question 1 3 4 (StateAck 1)) (register Ack ∷ [])
unfolding message_in news_of
last_right = record { phase = refl; begun = omega arith; job = ([], refl); last = refl }

pub none_right : ShowsNothing (single 0) right_state (small_slave 1)
none_right p cause s = (plain (λ c. ⊥) last_right 4 (StateAck 1) refl (omega arith) refl refl refl (λ c e. cc) (λ c e _. cc) (λ e. cc) p cause s).1

last_for_log : IsLast log_for_log (decided 130 1 (Number 0 ∷ Number 5 ∷ []) 3 4 LogAck) (register Ack ∷ [])
unfolding message_in news_of
last_for_log = record { phase = refl; begun = omega arith; job = ([], refl); last = refl }

pub none_for_log : ShowsNothing (single 0) log_for_log (small_slave 1)
none_for_log p cause s = (plain (λ c. ⊥) last_for_log 4 LogAck refl (omega arith) refl refl refl (λ c e. cc) (λ c e _. cc) (λ e. cc) p cause s).1

-- ---- faults

-- the question for the state, answered by this one, and what was asked before
abbrev before : ℕ → List Asking
before state = question 1 3 4 (StateAck state) ∷ register Ack ∷ []

abbrev fault : Answer → Asking
fault answer = decided 129 2 [] 5 6 answer

run_error : IsMasterRun (single 0) state_for_error (reports.Failed 1 1 (Unexpected 2 178 17))
unfolding message_in spelling digits news_of request_bytes reaction step
run_error = record { by_rules = refl; reported = refl; in_time = omega arith }

last_error : IsLast state_for_error (fault (StateAck 17)) (before 17)
unfolding message_in news_of
last_error = record { phase = refl; begun = omega arith; job = ([], refl); last = refl }

pub tells_error : TellsCause (single 0) state_for_error (small_slave 1) 1 (Unexpected 2 178 17)
tells_error = tells_of run_error (record {
  task = task;
  request = fault (StateAck 17);
  earlier = before 17;
  last = last_error;
  shown = (refl, record { place = 6; answer = StateAck 17; told = refl; type_is = refl; state_is = refl; unfit = refl });
})

pub only_error : ShowsOnly (single 0) state_for_error (small_slave 1) 1 (Unexpected 2 178 17)
only_error = plain (λ c. c ≡ Unexpected 2 178 17) last_error 6 (StateAck 17) refl (omega arith) refl refl refl (λ c e. cc) (λ c e _. cc) (λ e. refl)

run_faulted : IsMasterRun (single 0) faulted (reports.Failed 1 1 (Faulted 2 35))
unfolding message_in spelling digits news_of request_bytes reaction step
run_faulted = record { by_rules = refl; reported = refl; in_time = omega arith }

last_faulted : IsLast faulted (fault (ErrorAck 35)) (before 17)
unfolding message_in news_of
last_faulted = record { phase = refl; begun = omega arith; job = ([], refl); last = refl }

pub tells_faulted : TellsCause (single 0) faulted (small_slave 1) 1 (Faulted 2 35)
tells_faulted = tells_of run_faulted (record {
  task = task;
  request = fault (ErrorAck 35);
  earlier = before 17;
  last = last_faulted;
  shown = (
    refl,
    record {
      asks_error = refl;
      place = 6;
      told = refl;
      question = question 1 3 4 (StateAck 17);
      before = (register Ack ∷ [], refl);
      asked_state = refl;
      state = 17;
      at = 4;
      named = refl;
      error = refl;
    },
  );
})

pub only_faulted : ShowsOnly (single 0) faulted (small_slave 1) 1 (Faulted 2 35)
only_faulted = plain (λ c. c ≡ Faulted 2 35) last_faulted 6 (ErrorAck 35) refl (omega arith) refl refl refl (λ c e. cc) (λ c e _. cc) (λ e. cc)

last_not_told : IsLast fault_not_told (opened 129 2 [] 5) (before 17)
unfolding message_in news_of
last_not_told = record { phase = refl; begun = omega arith; job = ([], refl); last = refl }

pub none_not_told : ShowsNothing (single 0) fault_not_told (small_slave 1)
none_not_told = still_open last_not_told refl refl (λ h. let e = h.turns in omega arith)

last_no_error : IsLast no_error_state (fault (ErrorAck 35)) (before 1)
unfolding message_in news_of
last_no_error = record { phase = refl; begun = omega arith; job = ([], refl); last = refl }

no_fault : (c : ℕ) → IsFaulted (fault (ErrorAck 35)) (before 1) c → ⊥
no_fault c h =
    let same : question 1 3 4 (StateAck 1) ∷ register Ack ∷ [] ≡ h.question ∷ h.before.0 = h.before.1 in
    let one : question 1 3 4 (StateAck 1) ≡ h.question = cc in
    let state : StateAck 1 ≡ StateAck h.state = one_answer h.question (subst (λ a. IsDecided a 4 (StateAck 1)) one refl) h.named in
    let number : 1 ≡ h.state = cc in
    let error : is_error 1 ≡ true = subst (λ n. is_error n ≡ true) (sym number) h.error in cc

pub none_no_error : ShowsNothing (single 0) no_error_state (small_slave 1)
none_no_error p cause s = (plain (λ _. ⊥) last_no_error 6 (ErrorAck 35) refl (omega arith) refl refl refl (λ c e. cc) (λ c _ h. no_fault c h) (λ e. cc) p cause s).1
