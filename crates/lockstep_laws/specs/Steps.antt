-- Row events: what the slaves do together, one after the other, all slaves each before any the next.
-- To show a row, to step to the next one, and after the last row of a run to begin again.
use Rattle.std.specs.Prelude.{◌≡◌, ℕ, ◌+◌, ◌/◌, ◌%◌, ◌==◌, ◌||◌, Bool, true, false, if◌then◌else◌, ◌⊎◌, Option, Some, None, List, [], ◌∷◌}
use Rattle.pdu_layout.specs.Fields.FieldValue.{Number}
use Rattle.pdu_layout.specs.Fields.{FieldValue}
use Rattle.log_spec.specs.Messages.{Note, between}
use Rattle.log_spec.specs.Log.{DecidedRequest}

pub data RowEvent : Type 0 where
  Show : RowEvent
  Step : RowEvent
  Restart : RowEvent

-- which event comes after so many: rows are shown at the even ones, and between them the place in the reference grows by one
abbrev pub row_event_at : (steps done : ℕ) → RowEvent
row_event_at steps done = if done % 2 == 0 then Show else (if (done / 2 + 1) % (steps + 1) == 0 then Restart else Step)

-- the place of a slave in the reference, and how many rows it has shown, after so many events
abbrev pub place_after : ℕ → ℕ
place_after events = events / 2

abbrev pub shown_after : ℕ → ℕ
shown_after events = (events + 1) / 2

-- the event that a request asks for: do_step, send_outputs, reset
abbrev pub event_asked : Note → Option RowEvent
event_asked n = if n.message.code == 8 then Some Show else (if n.message.code == 7 then Some Step else (if n.message.code == 10 then Some Restart else None))

pub data Reply : Type 0 where
  -- an acknowledgement
  Accepted : Reply
  -- the state, which is neither passing nor one after a fault
  AtRest : Reply
  Otherwise : Reply

-- PREPARING, CONFIGURING, INITIALIZING, SENDING_I, SYNCHRONIZING, COMPUTING, SENDING_D, STOPPING, and ERROR_HANDLING and ERROR_RESOLVED
abbrev pub is_on_its_way : ℕ → Bool
is_on_its_way code = (code == 2) || ((code == 4) || ((code == 6) || (between 8 9 code || ((code == 12) || (between 14 15 code || between 17 18 code)))))

abbrev pub reply_with : ℕ → List FieldValue → Reply
reply_with code (Number seq ∷ Number sender ∷ Number state ∷ values) = if code == 178 then (if is_on_its_way state then Otherwise else AtRest) else (if code == 176 then Accepted else Otherwise)
reply_with code values = if code == 176 then Accepted else Otherwise

abbrev pub reply_of : Note → Reply
reply_of a = reply_with a.message.code a.message.values

-- what an exchange tells: an event begins, one is done at once, none is under way, or nothing of that
pub data Told : Type 0 where
  Begins : RowEvent → Told
  Does : Told
  Rested : Told
  Nothing : Told

abbrev pub told_by : Option RowEvent → Reply → Told
told_by (Some Show) Accepted = Begins Show
told_by (Some Step) Accepted = Begins Step
told_by (Some Restart) Accepted = Does
told_by None AtRest = Rested
told_by _ _ = Nothing

abbrev pub told_of : DecidedRequest → Told
told_of e = told_by (event_asked e.request) (reply_of e.answer)

-- what exchanges tell of a slave: how many events are done, and whether one is under way
pub record BenchProgress : Type 0 where
  pub done : ℕ
  pub waiting : Bool

abbrev pub events_counted : BenchProgress → ℕ
events_counted v = if v.waiting then v.done + 1 else v.done

abbrev pub view_after : Told → BenchProgress → BenchProgress
view_after (Begins k) v = record { done = events_counted v; waiting = true }
view_after Does v = record { done = events_counted v + 1; waiting = false }
view_after Rested v = record { done = events_counted v; waiting = false }
view_after Nothing v = v

abbrev pub view : List DecidedRequest → BenchProgress
view [] = record { done = 0; waiting = false }
view (e ∷ es) = view_after (told_of e) (view es)

-- the run in which the event after so many stands
abbrev pub run_after : (steps done : ℕ) → ℕ
run_after steps done = place_after done / (steps + 1) + 1

-- ---- the slave's side

pub record Bench : Type 0 where
  -- how many events are done, and which is under way; whether the slave has a fault
  pub events : ℕ
  pub busy : Option RowEvent
  pub faulty : Bool
  -- the resets, and the steps since the last one
  pub resets : ℕ
  pub steps : ℕ

-- an exchange that the slave makes
pub record Idles (b c : Bench) : Type 0 where
  pub events : c.events ≡ b.events
  pub busy : c.busy ≡ b.busy
  pub faulty : c.faulty ≡ b.faulty
  pub resets : c.resets ≡ b.resets
  pub steps : c.steps ≡ b.steps

pub record BenchStarts (k : RowEvent) (b c : Bench) : Type 0 where
  pub free : b.busy ≡ None
  pub sound : b.faulty ≡ false
  pub events : c.events ≡ b.events
  pub busy : c.busy ≡ Some k
  pub faulty : c.faulty ≡ false
  pub resets : c.resets ≡ b.resets
  pub steps : c.steps ≡ b.steps

pub record Restarts (b c : Bench) : Type 0 where
  pub free : b.busy ≡ None
  pub sound : b.faulty ≡ false
  pub events : c.events ≡ b.events + 1
  pub busy : c.busy ≡ None
  pub faulty : c.faulty ≡ false
  pub resets : c.resets ≡ b.resets + 1
  pub steps : c.steps ≡ 0

pub record TellsRest (b c : Bench) : Type 0 where
  pub free : b.busy ≡ None
  pub sound : b.faulty ≡ false
  pub idles : Idles b c

abbrev pub TakesOn : Told → Bench → Bench → Type 0
TakesOn (Begins k) b c = BenchStarts k b c
TakesOn Does b c = Restarts b c
TakesOn Rested b c = TellsRest b c
TakesOn Nothing b c = Idles b c

-- a turn: nothing happens, the event under way is done, or the slave has a fault from now on
pub record BenchShows (b c : Bench) : Type 0 where
  pub under_way : b.busy ≡ Some Show
  pub events : c.events ≡ b.events + 1
  pub busy : c.busy ≡ None
  pub faulty : c.faulty ≡ b.faulty
  pub resets : c.resets ≡ b.resets
  pub steps : c.steps ≡ b.steps

pub record StepsOn (b c : Bench) : Type 0 where
  pub under_way : b.busy ≡ Some Step
  pub events : c.events ≡ b.events + 1
  pub busy : c.busy ≡ None
  pub faulty : c.faulty ≡ b.faulty
  pub resets : c.resets ≡ b.resets
  pub steps : c.steps ≡ b.steps + 1

pub record BenchFails (b c : Bench) : Type 0 where
  pub events : c.events ≡ b.events
  pub busy : c.busy ≡ None
  pub faulty : c.faulty ≡ true
  pub resets : c.resets ≡ b.resets
  pub steps : c.steps ≡ b.steps

abbrev pub HasTurn : Bench → Bench → Type 0
HasTurn b c = Idles b c ⊎ (BenchShows b c ⊎ (StepsOn b c ⊎ BenchFails b c))
