-- What comes in time is not missed.
use Rattle.std.proofs.Common.{◌≡◌, ℕ, suc, ◌+◌, ◌-◌, ◌<◌, ◌≤◌, ◌⊎◌, inl, inr, min, Bool, true, false, Some, List, [], ◌∷◌, length, refl, ap, ◌∙◌, arith}
use Rattle.std.specs.Prelude.{slice_get, filter, IsTrue, cond}
use Rattle.std.proofs.lemmas.Bool.{cases_lt}
use Rattle.dcp_ends.specs.declared.entries.LogEntry.{LogEntry}
use Rattle.master_spec.specs.declared.causes.Cause.TheVariants as causes
use Rattle.master_spec.specs.declared.setups.Slave.{Slave}
use Rattle.master_spec.specs.declared.setups.Setup.{Setup}
use Rattle.master_spec.specs.Setup.{jobs_of}
use Rattle.master_spec.specs.Requests.{Asking, asks, is_step, of_phase, turns_before}
use Rattle.master_spec.specs.Shown.{Shown, IsMissing}
use Rattle.master_log_laws.specs.Index.Runs.{course_at}
use Rattle.master_log_laws.proofs.Failures.Turns.{turns_rise}
use Rattle.completeness_laws.specs.Timely.{Timely, ComesInTime}
use Rattle.completeness_laws.specs.Reasons.{RetriesWait}
use Rattle.completeness_laws.proofs.Timely.Reasons.{DataWasLate, InputsWereLate}

-- ---- another step before the last
record OtherStep (xs : List Asking) : Type 0 where
  pub i : ℕ
  pub step : Asking
  pub here : slice_get xs i ≡ Some step
  pub is : IsTrue (is_step step)
  pub missing : IsMissing step

another : (xs : List Asking) → 1 ≤ length (filter is_step xs) → ((i : ℕ) (a : Asking) → slice_get (filter is_step xs) i ≡ Some a → IsMissing a) → OtherStep xs
another [] few each = absurd (omega (arith, few))
another (x ∷ xs) few each = by (is_step x) refl few each (λ f g. another xs f g)
  where
    by : (b : Bool) → is_step x ≡ b → 1 ≤ length (cond b (x ∷ filter is_step xs) (filter is_step xs)) → ((i : ℕ) (a : Asking) → slice_get (cond b (x ∷ filter is_step xs) (filter is_step xs)) i ≡ Some a → IsMissing a)
        → (1 ≤ length (filter is_step xs) → ((i : ℕ) (a : Asking) → slice_get (filter is_step xs) i ≡ Some a → IsMissing a) → OtherStep xs) → OtherStep (x ∷ xs)
    by true e f g more = record { i = 0; step = x; here = refl; is = e; missing = g 0 x refl }
    by false e f g more = let o = more f g in record { i = suc o.i; step = o.step; here = o.here; is = o.is; missing = o.missing }

module _ (setup : Setup) (log : List LogEntry) (t : Timely setup log) where
  abbrev before : ℕ → ℕ
  before i = turns_before setup.address log i

  rises : (i j : ℕ) → i ≤ j → before i ≤ before j
  rises i j h = turns_rise setup.address log i j h

  not_later : (i j : ℕ) → before i < before j → i < j
  not_later i j h = by (cases_lt i j)
    where
      by : (i < j) ⊎ (j ≤ i) → i < j
      by (inl l) = l
      by (inr l) = let r = rises j i l in absurd (omega (arith, r, h))

  pub no_inputs_missing : (slave : Slave) (p q k : ℕ) (s : Shown setup log slave p (causes.InputsMissing q k)) → (course_at setup log).phase ≡ p → 2 ≤ setup.limits.step_tries → RetriesWait setup log slave → InputsWereLate setup log slave p q k s → ⊥
  no_inputs_missing slave p q k s now two wait m =
      let shown = s.shown.1 in
      let first : filter is_step (s.request ∷ s.earlier) ≡ s.request ∷ filter is_step s.earlier = starts (is_step s.request) shown.asks_step in
      let many : 2 ≤ length (filter is_step (s.request ∷ s.earlier)) = omega (arith, shown.tries, two) in
      let long = ap length first in
      let o = another s.earlier (omega (arith, many, long)) (λ i a g. shown.each (suc i) a (ap (λ (z : List Asking). slice_get z (suc i)) first ∙ g)) in
      let begun : 1 ≤ (course_at setup log).phase = one p (course_at setup log).phase now s.last.begun in
      let w = wait s.request s.earlier (ap (λ (n : ℕ). of_phase (jobs_of setup slave) n (asks setup.address slave log)) now ∙ s.last.last) begun shown.asks_step o.i o.step o.here o.is in
      let a = w.0 in
      let v = w.2 in
      let place = v.place in
      let late = v.late in
      let sent = rises m.sent place (m.before a place v.code w.1 v.step v.decided) in
      let got = rises s.request.first m.came (less s.request.first m.came m.asked) in
      let c = t.values m.sent m.from m.to m.bytes m.is m.number m.id m.payload m.read in
      let soon = c.soon in
      let here : c.came.place < m.came = not_later c.came.place m.came (counts (before m.sent) (before place) (before s.request.first) (before m.came) (before c.came.place) setup.limits.retry_turns setup.limits.data_turns late sent got soon) in
      m.missing c.came.place c.came.later here c.came.got
    where
      starts : (b : Bool) → IsTrue b → cond b (s.request ∷ filter is_step s.earlier) (filter is_step s.earlier) ≡ s.request ∷ filter is_step s.earlier
      starts true h = refl
      starts false h = cc

      less : (i j : ℕ) → i < j → i ≤ j
      less i j h = omega (arith, h)

      one : (p n : ℕ) → n ≡ p → 1 ≤ p → 1 ≤ n
      one p n e h = omega (arith, e, h)

      counts : (a b c d e retry brought : ℕ) → b + retry ≤ c → a ≤ b → c ≤ d → e - a < min retry brought → e < d
      counts a b c d e retry brought h x y z = omega (arith, h, x, y, z)

  pub none_late : DataWasLate setup log → ⊥
  none_late d = by (cases_lt c.came.place d.until)
    where
      c : ComesInTime setup log d.sent d.from d.to d.bytes
      c = t.values d.sent d.from d.to d.bytes d.is d.number d.id d.payload d.read

      counts : (sent until came retry brought : ℕ) → brought ≤ until - sent → until ≤ came → came - sent < min retry brought → ⊥
      counts sent until came retry brought h x z = omega (arith, h, x, z)

      by : (c.came.place < d.until) ⊎ (d.until ≤ c.came.place) → ⊥
      by (inl l) = d.missing c.came.place c.came.later l c.came.got
      by (inr l) = counts (before d.sent) (before d.until) (before c.came.place) setup.limits.retry_turns setup.limits.data_turns d.long (rises d.until c.came.place l) c.soon
