-- The row events that the master's requests tell, on every network, honest or not. The log has its newest entry first.
use Rattle.std.specs.Prelude.{◌≡◌, ℕ, ◌==◌, ◌&&◌, Bool, false, if◌then◌else◌, Option, Some, None, is_some, List, [], ◌∷◌, count_by}
use Rattle.dcp_ends.specs.declared.entries.LogEntry.{LogEntry}
use Rattle.log_spec.specs.Log.{Parties, IsSlaveOf}
use Rattle.log_spec.specs.Moves.{decided_exchanges}
use Rattle.lockstep_laws.specs.Steps.{RowEvent, Show, Step, Restart, Reply, Accepted, AtRest, Otherwise, is_on_its_way, told_by, BenchProgress, events_counted, view_after, view}
use Rattle.master_spec.specs.declared.requests.Answer.{Answer}
use Rattle.master_spec.specs.declared.requests.Answer.TheVariants.{Ack, Nack, StateAck, ErrorAck, LogAck}
use Rattle.master_spec.specs.declared.setups.Slave.{Slave}
use Rattle.master_spec.specs.declared.setups.Setup.{Setup}
use Rattle.master_spec.specs.Requests.{Asking, Decision, asks, is_acked}
use Rattle.master_log_laws.specs.Index.Laws.{AreHeard}
use Rattle.master_log_laws.specs.Index.Runs.{IsRun}
use Rattle.master_laws.specs.Meets.Laws.{IsParty, ArePartiesOf}

-- the event that a request asks for: send_outputs, do_step, reset
abbrev pub event_for : ℕ → Option RowEvent
event_for code = if code == 8 then Some Show else (if code == 7 then Some Step else (if code == 10 then Some Restart else None))

abbrev pub asks_event : Asking → Bool
asks_event a = is_some (event_for a.code)

abbrev pub reply_by : Answer → Reply
reply_by Ack = Accepted
reply_by (Nack code) = Otherwise
reply_by (StateAck state) = if is_on_its_way state then Otherwise else AtRest
reply_by (ErrorAck code) = Otherwise
reply_by LogAck = Otherwise

-- what one request tells, once it is decided
abbrev pub progress_after : ℕ → Option Decision → BenchProgress → BenchProgress
progress_after code None v = v
progress_after code (Some d) v = view_after (told_by (event_for code) (reply_by d.answer)) v

-- how many row events the requests tell as done, and whether one is under way
abbrev pub progress : List Asking → BenchProgress
progress [] = record { done = 0; waiting = false }
progress (b ∷ bs) = progress_after b.code b.decision (progress bs)

abbrev pub ProgressIsTold : Type 0
ProgressIsTold = (setup : Setup) → AreHeard setup → (w : Parties) → ArePartiesOf setup w → (log : List LogEntry) → IsRun setup log → (s : ℕ) → IsSlaveOf w s → (slave : Slave) → IsParty setup w s slave
    → view (decided_exchanges w s log) ≡ progress (asks setup.address slave log)

abbrev pub EventsAreAcknowledged : Type 0
EventsAreAcknowledged = (bs : List Asking) → events_counted (progress bs) ≡ count_by (λ a. asks_event a && is_acked a) bs
