-- The slave that never answers.
use Rattle.std.proofs.Common.{◌≡◌, ℕ, Option, Some, None, List, [], ◌∷◌, refl, arith, reverse}
use Rattle.dcp_types.specs.Values.{digits}
use Rattle.pdu_layout.specs.Reading.{message_in, spelling}
use Rattle.pdu_layout.specs.Fields.FieldValue.{Number}
use Rattle.master_spec.specs.News.{news_of, request_bytes}
use Rattle.master_spec.specs.Conversation.{reaction}
use Rattle.master_spec.specs.Course.{step}
use Rattle.master_spec.specs.Shown.{Shown, ShownBy, Last}
use Rattle.master_spec.specs.Requests.{Asking, Decision}
use Rattle.master_spec.specs.declared.causes.Cause.{Cause}
use Rattle.master_spec.specs.declared.causes.Cause.TheVariants.{NoAnswer, Refused, InputsMissing, DataMissing, Stuck, Faulted, Unexpected}
use Rattle.master_spec.specs.declared.requests.Answer.TheVariants.{Ack, Nack}
use Rattle.master_spec.specs.declared.tasks.Task.{Task}
use Rattle.master_spec.specs.declared.tasks.Task.TheVariants as tasks
use Rattle.master_spec.specs.declared.reports.Report.TheVariants as reports
use Rattle.witness_laws.specs.Shown.Ends.{single, small_slave}
use Rattle.witness_laws.specs.Shown.Logs.{IsMasterRun, TellsCause, ShowsOnly, ShowsNothing}
use Rattle.witness_laws.specs.Shown.Silence.{silent, one_turn_less, sent_once, late_repeat, answered_at_last, refused_too_late}
use Rattle.witness_laws.proofs.Shown.Readings.{shown_by, undecided, still_open, plain, tells_of}

-- the request, with its repeats and its answer
abbrev register : List ℕ → Option Decision → Asking
register repeats decision =
    record { code = 1; number = 0; more = Number 0 ∷ Number 1 ∷ Number 2 ∷ Number 1 ∷ Number 0 ∷ []; first = 1; repeats = repeats; decision = decision }

abbrev task : Task
task = tasks.Register 1

pub is_run : IsMasterRun (single 0) silent (reports.Failed 1 1 (NoAnswer 0))
unfolding message_in spelling digits news_of request_bytes reaction step
is_run = record { by_rules = refl; reported = refl; in_time = omega arith }

last : Last (single 0) (reverse silent) (small_slave 1) 1 task (register (3 ∷ []) None) []
unfolding message_in news_of
last = record { phase = refl; begun = omega arith; job = ([], refl); last = refl }

shown : Shown (single 0) (reverse silent) (small_slave 1) 1 (NoAnswer 0)
shown = record {
  task = task;
  request = register (3 ∷ []) None;
  earlier = [];
  last = last;
  shown = (refl, record { often = refl; spaced = refl; turns = omega arith; late = tt });
}

only_by : (cause : Cause) → ShownBy (single 0) (reverse silent) (small_slave 1) task (register (3 ∷ []) None) [] cause → cause ≡ NoAnswer 0
only_by (NoAnswer q) h = let e : 0 ≡ q = h.0 in cc
only_by (Refused q c) h = absurd (undecided (register (3 ∷ []) None) refl h.1.told)
only_by (InputsMissing q k) h = let e = h.1.asks_step in cc
only_by (DataMissing k) h = let e = h.asks_state in cc
only_by (Stuck q t) h = let e = h.1.asks_state in cc
only_by (Faulted q c) h = let e = h.1.asks_error in cc
only_by (Unexpected q y t) h = absurd (undecided (register (3 ∷ []) None) refl h.1.told)

pub only : ShowsOnly (single 0) silent (small_slave 1) 1 (NoAnswer 0)
only p other s = let h = shown_by last s in (h.0, only_by other h.1)

pub tells : TellsCause (single 0) silent (small_slave 1) 1 (NoAnswer 0)
tells = tells_of is_run shown

-- ---- with one thing less

before_turn : Last (single 0) (reverse one_turn_less) (small_slave 1) 1 task (register (3 ∷ []) None) []
unfolding message_in news_of
before_turn = record { phase = refl; begun = omega arith; job = ([], refl); last = refl }

pub none_early : ShowsNothing (single 0) one_turn_less (small_slave 1)
none_early = still_open before_turn refl refl (λ h. let e = h.turns in omega arith)

once : Last (single 0) (reverse sent_once) (small_slave 1) 1 task (register [] None) []
unfolding message_in news_of
once = record { phase = refl; begun = omega arith; job = ([], refl); last = refl }

pub none_once : ShowsNothing (single 0) sent_once (small_slave 1)
none_once = still_open once refl refl (λ h. let e = h.often in omega arith)

later : Last (single 0) (reverse late_repeat) (small_slave 1) 1 task (register (4 ∷ []) None) []
unfolding message_in news_of
later = record { phase = refl; begun = omega arith; job = ([], refl); last = refl }

pub none_slow : ShowsNothing (single 0) late_repeat (small_slave 1)
none_slow = still_open later refl refl (λ h. let e = h.spaced in omega arith)

-- ---- with an answer

abbrev at_last : Asking
at_last = register (3 ∷ []) (Some (record { place = 4; answer = Ack }))

in_time : Last (single 0) (reverse answered_at_last) (small_slave 1) 1 task at_last []
unfolding message_in news_of
in_time = record { phase = refl; begun = omega arith; job = ([], refl); last = refl }

pub none_answered : ShowsNothing (single 0) answered_at_last (small_slave 1)
none_answered p cause s = (plain (λ _. ⊥) in_time 4 Ack refl (omega arith) refl refl refl (λ c e. cc) (λ c e _. cc) (λ e. cc) p cause s).1

abbrev too_late : Asking
too_late = register (3 ∷ []) (Some (record { place = 5; answer = Nack 10 }))

run_late : IsMasterRun (single 0) refused_too_late (reports.Failed 1 1 (NoAnswer 0))
unfolding message_in spelling digits news_of request_bytes reaction step
run_late = record { by_rules = refl; reported = refl; in_time = omega arith }

last_late : Last (single 0) (reverse refused_too_late) (small_slave 1) 1 task too_late []
unfolding message_in news_of
last_late = record { phase = refl; begun = omega arith; job = ([], refl); last = refl }

shown_late : Shown (single 0) (reverse refused_too_late) (small_slave 1) 1 (NoAnswer 0)
shown_late = record {
  task = task;
  request = too_late;
  earlier = [];
  last = last_late;
  shown = (refl, record { often = refl; spaced = refl; turns = omega arith; late = omega arith });
}

pub tells_late : TellsCause (single 0) refused_too_late (small_slave 1) 1 (NoAnswer 0)
tells_late = tells_of run_late shown_late

pub shown_too : Shown (single 0) (reverse refused_too_late) (small_slave 1) 1 (Refused 0 10)
shown_too = record { task = task; request = too_late; earlier = []; last = last_late; shown = (refl, record { place = 5; told = refl; other = refl }) }
