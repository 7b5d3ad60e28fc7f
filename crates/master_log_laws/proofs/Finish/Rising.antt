-- The phase never falls from one place of the log to a later one.
use Rattle.std.proofs.Common.{◌≡◌, ℕ, zero, suc, ◌-◌, ◌<◌, ◌≤◌, ◌⊎◌, inl, inr, Bool, true, false, if◌then◌else◌, Option, Some, None, List, [], ◌∷◌, length, drop, refl, sym, subst, arith}
use Rattle.std.specs.Prelude.{◌==◌}
use Rattle.std.specs.List.{list_all}
use Rattle.dcp_ends.specs.declared.entries.LogEntry.{LogEntry}
use Rattle.dcp_ends.specs.declared.entries.LogEntry.TheVariants.{Sent, Got, Idle, Turn}
use Rattle.dcp_ends.specs.Events.{Event, Gram, Tick}
use Rattle.dcp_ends.specs.Logs.{same_address}
use Rattle.master_spec.specs.declared.reports.Report.{Report}
use Rattle.master_spec.specs.declared.reports.Report.TheVariants as reports
use Rattle.master_spec.specs.declared.setups.Setup.{Setup}
use Rattle.master_spec.specs.Course.{Course, course, is_settled, is_quiet, failed, phases, with_next, with_report, with_turns, decided, decided_if, course_turned, still, course_after_turn, step}
use Rattle.master_log_laws.specs.Index.Runs.{with_event, events_of_master, course_at}
use Rattle.master_log_laws.specs.Index.Dates.{phase_before}
use Rattle.master_log_laws.proofs.Index.Runs.{step_gram, step_tick, step_still}

decided_rises : (setup : Setup) (c : Course) (o : Option Report) → c.phase ≤ (decided setup c o).phase
decided_rises setup c (Some report) = omega arith
decided_rises setup c None = by (c.phase == phases setup)
  where
    by : (b : Bool) → c.phase ≤ (if b then with_report c (reports.Finished setup.steps) else with_next setup c).phase
    by true = omega arith
    by false = omega arith

turned_rises : (setup : Setup) (c : Course) → c.phase ≤ (course_turned setup c).phase
turned_rises setup c = by (list_all is_quiet c.talks)
  where
    by : (b : Bool) → c.phase ≤ (decided_if setup b c).phase
    by true = decided_rises setup c (failed c.phase c.talks)
    by false = omega arith

tick_rises : (setup : Setup) (c : Course) → c.phase ≤ (course_after_turn setup c).phase
tick_rises setup c = by (c.phase == 0)
  where
    by : (b : Bool) → c.phase ≤ (if b then with_next setup (still c) else course_turned setup (with_turns setup (list_all is_settled c.talks) c)).phase
    by true = omega arith
    by false = turned_rises setup (with_turns setup (list_all is_settled c.talks) c)

step_rises : (setup : Setup) (event : Event) (c : Course) → c.phase ≤ (step setup event c).phase
step_rises setup event c = by event c.report refl
  where
    P : Course → Type 0
    P x = c.phase ≤ x.phase

    by : (event : Event) (o : Option Report) → c.report ≡ o → c.phase ≤ (step setup event c).phase
    by (Gram from bytes) None e = subst P (sym (step_gram setup from bytes c e)) (omega arith)
    by Tick None e = subst P (sym (step_tick setup c e)) (tick_rises setup c)
    by event (Some r) e = subst P (sym (step_still setup event c r e)) (omega arith)

entry_rises : (setup : Setup) (e : LogEntry) (log : List LogEntry) → (course_at setup log).phase ≤ (course_at setup (e ∷ log)).phase
entry_rises setup (Sent from to bytes) log = omega arith
entry_rises setup (Got at from bytes) log = by (same_address at setup.address)
  where
    by : (b : Bool) → (course_at setup log).phase ≤ (course setup (with_event b (Gram from bytes) (events_of_master setup log))).phase
    by true = step_rises setup (Gram from bytes) (course_at setup log)
    by false = omega arith
entry_rises setup (Idle at) log = omega arith
entry_rises setup (Turn at) log = by (same_address at setup.address)
  where
    by : (b : Bool) → (course_at setup log).phase ≤ (course setup (with_event b Tick (events_of_master setup log))).phase
    by true = step_rises setup Tick (course_at setup log)
    by false = omega arith

drop_rises : (setup : Setup) (log : List LogEntry) (m n : ℕ) → m ≤ n → (course_at setup (drop n log)).phase ≤ (course_at setup (drop m log)).phase
drop_rises setup [] m n h = by m n
  where
    by : (m n : ℕ) → (course_at setup (drop n [])).phase ≤ (course_at setup (drop m [])).phase
    by zero zero = omega arith
    by zero (suc n) = omega arith
    by (suc m) zero = omega arith
    by (suc m) (suc n) = omega arith
drop_rises setup (e ∷ log) zero zero h = omega arith
drop_rises setup (e ∷ log) zero (suc n) h = let k = drop_rises setup log 0 n (omega arith) in let j = entry_rises setup e log in omega (arith, k, j)
drop_rises setup (e ∷ log) (suc m) zero h = absurd (omega (arith, h))
drop_rises setup (e ∷ log) (suc m) (suc n) h = drop_rises setup log m n (omega (arith, h))

pub phase_rises : (setup : Setup) (log : List LogEntry) (i j : ℕ) → i ≤ j → phase_before setup log i ≤ phase_before setup log j
phase_rises setup log i j h = drop_rises setup log (length log - j) (length log - i) (omega (arith, h))

-- what stands in an earlier phase stands before
pub phases_apart : (setup : Setup) (log : List LogEntry) (i j : ℕ) → phase_before setup log i < phase_before setup log j → i < j
phases_apart setup log i j h = by (nat_below i j)
  where
    nat_below : (i j : ℕ) → (i < j) ⊎ (j ≤ i)
    nat_below i zero = inr (omega arith)
    nat_below zero (suc j) = inl (omega arith)
    nat_below (suc i) (suc j) = up (nat_below i j)
      where
        up : (i < j) ⊎ (j ≤ i) → (suc i < suc j) ⊎ (suc j ≤ suc i)
        up (inl h) = inl (omega (arith, h))
        up (inr h) = inr (omega (arith, h))

    by : (i < j) ⊎ (j ≤ i) → i < j
    by (inl k) = k
    by (inr k) = let z = phase_rises setup log j i k in absurd (omega (arith, z, h))
