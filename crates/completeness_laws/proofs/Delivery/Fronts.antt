-- What holds at earlier moments: no report, no cause, fewer values; and what an entry there is later.
use Rattle.std.proofs.Common.{◌≡◌, ℕ, ◌+◌, ◌<◌, ◌≤◌, Bool, true, false, if◌then◌else◌, Option, Some, None, List, [], ◌∷◌, ◌++◌, length, refl, ap, ◌∙◌, arith}
use Rattle.std.specs.Prelude.{slice_get}
use Rattle.std.specs.List.{cons_option}
use Rattle.dcp_ends.specs.declared.entries.LogEntry.{LogEntry}
use Rattle.log_spec.specs.Messages.{Note}
use Rattle.log_spec.specs.Channel.{repeats_number, by_ordinal}
use Rattle.log_spec.specs.Log.{Parties, Values, sent_in, sends_in, values_sent}
use Rattle.master_spec.specs.declared.causes.Cause.{Cause}
use Rattle.master_spec.specs.declared.setups.Slave.{Slave}
use Rattle.master_spec.specs.declared.setups.Setup.{Setup}
use Rattle.master_spec.specs.Exchanged.{Brings}
use Rattle.master_log_laws.specs.Index.Runs.{course_at}
use Rattle.master_log_laws.specs.Index.Dates.{phase_before}
use Rattle.master_log_laws.proofs.Index.Dates.{phase_later, brings_later}
use Rattle.master_log_laws.proofs.Index.Runs.{none_before}
use Rattle.completeness_laws.specs.Moments.{cause_in}
use Rattle.completeness_laws.proofs.Delivery.Coming.{none_some}
use Rattle.completeness_laws.proofs.Delivery.Staying.{entry_stays}

module _ (setup : Setup) where
  pub silent_front : (part log : List LogEntry) → (course_at setup (part ++ log)).report ≡ None → (course_at setup log).report ≡ None
  silent_front [] log h = h
  silent_front (e ∷ part) log h = silent_front part log (none_before setup e (part ++ log) h)

  ended_on : (i : ℕ) (c : Cause) → 1 ≤ setup.runs → (part log : List LogEntry) → cause_in (slice_get (course_at setup log).talks i) ≡ Some c → cause_in (slice_get (course_at setup (part ++ log)).talks i) ≡ Some c
  ended_on i c runs [] log h = h
  ended_on i c runs (e ∷ part) log h = (entry_stays setup i c runs e (part ++ log) (ended_on i c runs part log h)).ended

  pub going_front : (i : ℕ) → 1 ≤ setup.runs → (part log : List LogEntry) → cause_in (slice_get (course_at setup (part ++ log)).talks i) ≡ None → cause_in (slice_get (course_at setup log).talks i) ≡ None
  going_front i runs part log h = by (cause_in (slice_get (course_at setup log).talks i)) refl
    where
      by : (o : Option Cause) → cause_in (slice_get (course_at setup log).talks i) ≡ o → o ≡ None
      by None e = refl
      by (Some c) e = absurd (none_some c (cause_in (slice_get (course_at setup (part ++ log)).talks i)) h (ended_on i c runs part log e))

  longer : (part log : List LogEntry) (i : ℕ) → i ≤ length log → i ≤ length (part ++ log)
  longer [] log i h = h
  longer (e ∷ part) log i h = let a = longer part log i h in omega (arith, a)

  pub phase_after : (part log : List LogEntry) (i : ℕ) → i ≤ length log → phase_before setup (part ++ log) i ≡ phase_before setup log i
  phase_after [] log i h = refl
  phase_after (e ∷ part) log i h = phase_later setup e (part ++ log) i (longer part log i h) ∙ phase_after part log i h

  pub brings_after : (part log : List LogEntry) (slave : Slave) (number i : ℕ) → i < length log → Brings setup log slave number i → Brings setup (part ++ log) slave number i
  brings_after [] log slave number i h b = b
  brings_after (e ∷ part) log slave number i h b =
      let a = longer part log (i + 1) (omega (arith, h)) in
      brings_later setup e (part ++ log) slave number i (omega (arith, a)) (brings_after part log slave number i h b)

values_step : (w : Parties) (id : ℕ) (e : LogEntry) (log : List LogEntry) → length (values_sent w id log) ≤ length (values_sent w id (e ∷ log))
values_step w id e log = by (sent_in w (Values id) e) refl
  where
    ns : List Note
    ns = sends_in w (Values id) log

    by : (k : Option Note) → sent_in w (Values id) e ≡ k → length (values_sent w id log) ≤ length (values_sent w id (e ∷ log))
    by None q = let z = ap (λ (x : Option Note). length (by_ordinal (cons_option x ns))) q in omega (arith, z)
    by (Some n) q = two (repeats_number n ns) refl
      where
        two : (b : Bool) → repeats_number n ns ≡ b → length (values_sent w id log) ≤ length (values_sent w id (e ∷ log))
        two true f = let z = ap (λ (x : Option Note). length (by_ordinal (cons_option x ns))) q ∙ ap (λ (b : Bool). length (if b then by_ordinal ns else n ∷ by_ordinal ns)) f in omega (arith, z)
        two false f = let z = ap (λ (x : Option Note). length (by_ordinal (cons_option x ns))) q ∙ ap (λ (b : Bool). length (if b then by_ordinal ns else n ∷ by_ordinal ns)) f in omega (arith, z)

pub values_grow : (w : Parties) (id : ℕ) (part log : List LogEntry) → length (values_sent w id log) ≤ length (values_sent w id (part ++ log))
values_grow w id [] log = omega arith
values_grow w id (e ∷ part) log = let a = values_grow w id part log in let b = values_step w id e (part ++ log) in omega (arith, a, b)
