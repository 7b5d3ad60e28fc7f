-- What the log of a finished run shows of each step: how its requests and answers follow one another, over all slaves.
use Rattle.std.specs.Prelude.{◌≡◌, ◌⊎◌, ℕ, zero, suc, ◌+◌, ◌-◌, ◌%◌, ◌<◌, ◌≤◌, ◌&&◌, ◌||◌, Bool, IsTrue, if◌then◌else◌, Option, Some, List, [], ◌∷◌, filter, reverse, slice_get}
use Rattle.dcp_types.specs.Codes.{state_code}
use Rattle.dcp_types.specs.declared.states.State.TheVariants as states
use Rattle.dcp_ends.specs.declared.entries.LogEntry.{LogEntry}
use Rattle.lockstep.specs.Lockstep.{row_index}
use Rattle.master_spec.specs.declared.requests.Answer.{Answer}
use Rattle.master_spec.specs.declared.requests.Answer.TheVariants.{Ack, StateAck}
use Rattle.master_spec.specs.declared.setups.Slave.{Slave}
use Rattle.master_spec.specs.declared.setups.Setup.{Setup}
use Rattle.master_spec.specs.Course.{payload_size}
use Rattle.master_spec.specs.Requests.{Asking, asks, is_prepare, is_run, is_step, is_outputs, is_stop, is_reset, is_state_question, is_single, is_acked, brings_outputs}

abbrev pub IsIn : Setup → Slave → Type 0
IsIn setup slave = (i : ℕ) × (slice_get setup.slaves i ≡ Some slave)

-- the requests to a slave in the order of their first sending
abbrev pub in_order : Setup → List LogEntry → Slave → List Asking
in_order setup log slave = reverse (asks setup.address slave log)

-- those after the n-th of a kind
abbrev pub after_nth : (Asking → Bool) → ℕ → List Asking → List Asking
after_nth is zero xs = xs
after_nth is (suc n) [] = []
after_nth is (suc n) (x ∷ xs) = if is x then after_nth is n xs else after_nth is (suc n) xs

-- the requests to a slave after its r-th start
abbrev pub in_run : Setup → List LogEntry → Slave → ℕ → List Asking
in_run setup log slave r = after_nth is_run r (in_order setup log slave)

-- the k-th of a kind, from 1
abbrev pub nth_of : (Asking → Bool) → ℕ → List Asking → Option Asking
nth_of is k xs = slice_get (filter is xs) (k - 1)

-- a request is decided by this answer, at this place
abbrev pub IsDecided : Asking → ℕ → Answer → Type 0
IsDecided a place answer = a.decision ≡ Some (record { place = place; answer = answer })

-- the entry at a place
abbrev pub entry_at : List LogEntry → ℕ → Option LogEntry
entry_at log i = slice_get (reverse log) i

abbrev pub Brings : Setup → List LogEntry → Slave → (number place : ℕ) → Type 0
Brings setup log slave number place =
    (e : LogEntry) × (entry_at log place ≡ Some e) × IsTrue (brings_outputs setup.address slave number (payload_size slave.types) e)

-- step k of run r with one slave: the step, the state COMPUTED, the outputs, the state RUNNING, and the values at the master
pub record StepExchange (setup : Setup) (log : List LogEntry) (slave : Slave) (r k : ℕ) : Type 0 where
  pub step : Asking
  pub stepped : ℕ
  pub computed : Asking
  pub told_computed : ℕ
  pub outputs : Asking
  pub sent : ℕ
  pub running : Asking
  pub told_running : ℕ
  pub came : ℕ
  pub step_is : nth_of (λ a. is_step a && is_acked a) k (in_run setup log slave r) ≡ Some step
  pub single : IsTrue (is_single step)
  pub step_done : IsDecided step stepped Ack
  pub computed_is : (i : ℕ) × (slice_get (in_run setup log slave r) i ≡ Some computed) × IsTrue (is_state_question computed)
  pub computed_done : IsDecided computed told_computed (StateAck (state_code states.Computed))
  pub outputs_is : nth_of is_outputs k (in_run setup log slave r) ≡ Some outputs
  pub outputs_done : IsDecided outputs sent Ack
  pub running_is : (i : ℕ) × (slice_get (in_run setup log slave r) i ≡ Some running) × IsTrue (is_state_question running)
  pub running_done : IsDecided running told_running (StateAck (state_code states.Running))
  pub brought : Brings setup log slave (row_index setup.steps r k % 65536) came
  -- in this order
  pub first : stepped < computed.first
  pub second : told_computed < outputs.first
  pub third : sent < running.first
  pub fourth : told_computed < came

-- where the exchange ends: the state RUNNING was told, and the values have come
abbrev pub IsEndedBefore : (setup : Setup) (log : List LogEntry) (slave : Slave) (r k : ℕ) → StepExchange setup log slave r k → ℕ → Type 0
IsEndedBefore setup log slave r k x place = (x.told_running < place) × (x.came < place)

-- step k of run r with all slaves
pub record Exchanged (setup : Setup) (log : List LogEntry) (r k : ℕ) : Type 0 where
  pub each : (slave : Slave) → IsIn setup slave → StepExchange setup log slave r k
  -- all have computed before any is asked for its outputs
  pub computed : (s t : Slave) (i : IsIn setup s) (j : IsIn setup t) → (each s i).told_computed < (each t j).outputs.first
  -- all have sent their outputs before any is asked for a step, or to stop, after them
  pub sent : (s t : Slave) (i : IsIn setup s) (j : IsIn setup t) (a : Asking) (n : ℕ)
      → slice_get (in_order setup log t) n ≡ Some a → IsTrue (is_step a || is_stop a) → (each t j).outputs.first < a.first
      → IsEndedBefore setup log s r k (each s i) a.first

-- after the start of run r each slave stops, and then is reset, before any is prepared for the next one
pub record IsBetween (setup : Setup) (log : List LogEntry) (r : ℕ) : Type 0 where
  pub stop : Slave → Asking
  pub reset : Slave → Asking
  pub stopped : Slave → ℕ
  pub done : Slave → ℕ
  pub stop_is : (s : Slave) → IsIn setup s → nth_of is_stop 1 (in_run setup log s r) ≡ Some (stop s)
  pub stop_done : (s : Slave) → IsIn setup s → IsDecided (stop s) (stopped s) Ack
  pub reset_is : (s : Slave) → IsIn setup s → nth_of is_reset 1 (in_run setup log s r) ≡ Some (reset s)
  pub reset_done : (s : Slave) → IsIn setup s → IsDecided (reset s) (done s) Ack
  pub after : (s : Slave) → IsIn setup s → stopped s < (reset s).first
  pub before : (s t : Slave) → IsIn setup s → IsIn setup t → (a : Asking)
      → nth_of is_prepare 1 (in_run setup log t r) ≡ Some a → done s < a.first

-- the exchange of step l of run q begins after that of step k of run r has ended
abbrev pub AreInTurn : (setup : Setup) (log : List LogEntry) (r k q l : ℕ) → Exchanged setup log r k → Exchanged setup log q l → Type 0
AreInTurn setup log r k q l x y =
    (s t : Slave) (i : IsIn setup s) (j : IsIn setup t) → IsEndedBefore setup log s r k (x.each s i) (y.each t j).step.first

-- a step of a run
pub record StepOfRun (setup : Setup) : Type 0 where
  pub run : ℕ
  pub step : ℕ
  pub run_is : (1 ≤ run) × (run ≤ setup.runs)
  pub step_is : (1 ≤ step) × (step ≤ setup.steps)

-- step l of run q is the one after step k of run r: the next of the run, or the first of the next run
abbrev pub ComesNext : (steps r k q l : ℕ) → Type 0
ComesNext steps r k q l = ((q ≡ r) × (l ≡ k + 1)) ⊎ ((q ≡ r + 1) × (k ≡ steps) × (l ≡ 1))

-- What a finished run shows: all steps of all runs are exchanged, one after the other, and between two runs all slaves are reset.
pub record AllExchanged (setup : Setup) (log : List LogEntry) : Type 0 where
  pub steps : (x : StepOfRun setup) → Exchanged setup log x.run x.step
  pub in_turn : (x y : StepOfRun setup) → ComesNext setup.steps x.run x.step y.run y.step → AreInTurn setup log x.run x.step y.run y.step (steps x) (steps y)
  pub between : (r : ℕ) → 1 ≤ r → r < setup.runs → IsBetween setup log r
